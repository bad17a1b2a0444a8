-- `filling::fill_all` meets its contract: what is left of the passes leads to the same end. Assumes nothing.
use native.Mathlib.Omega.{arith}
use borrow.Author.Rules.{rules}
use Rattle.memory.proofs.Loop.{leads_next}
use Rattle.filling.proofs.fill_all.Goals as goal

pub loop-pass-preserved : goal.loop-pass-preserved
loop-pass-preserved c =
    leads_next c.loop-pass.invariant _ (omega arith) c.fill_pass.ensures (search rules)
