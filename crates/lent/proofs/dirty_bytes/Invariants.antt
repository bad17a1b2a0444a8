-- `lent::dirty_bytes` meets its contract: the loop fills the table byte by byte. Assumes nothing.
use Rattle.std.proofs.Common.{◌≡◌, ℕ, ◌%◌, ◌<◌, get_or}
use Rattle.lent.specs.Lent.{drawn}
use Rattle.lent.proofs.dirty_bytes.Given as goal

abbrev pub invariant-loop-i : goal.invariant-loop-i
invariant-loop-i l = (j : ℕ) → j < l.i → get_or l.bytes j 0 ≡ drawn l.seed j % 256
