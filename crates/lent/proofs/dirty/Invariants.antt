-- `lent::dirty` meets its contract: the loop fills the table word by word. Assumes nothing.
use Rattle.std.proofs.Common.{◌≡◌, ℕ, ◌<◌, get_or}
use Rattle.lent.specs.Lent.{drawn}
use Rattle.lent.proofs.dirty.Given as goal

abbrev pub invariant-loop-i : goal.invariant-loop-i
invariant-loop-i l = (j : ℕ) → j < l.i → get_or l.words j 0 ≡ drawn l.seed j
