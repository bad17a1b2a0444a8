-- `filling::fill_slice` meets its contract: what is left of the lanes leads to the same end. Assumes nothing.
use mathlib.Core.Path.{◌∙◌}
use native.Mathlib.Omega.{arith}
use borrow.Author.Rules.{rules}
use Rattle.memory.proofs.Loop.{leads_next}
use Rattle.filling.specs.Filling.{fill_segment}
use Rattle.filling.proofs.fill_slice.Goals as goal

pub loop-lane-preserved : goal.loop-lane-preserved
unfolding fill_segment
loop-lane-preserved c =
    leads_next c.loop-lane.invariant _ (omega arith)
    (c.fill_part.ensures ∙ rw (c.first_block.ensures.result, c.segment_length.ensures.result))
    (search rules)
