-- `filling::fill_blocks` meets its contract: the test is the definition's. Assumes nothing.
use mathlib.Core.Path.{sym, ◌∙◌}
use Rattle.filling.proofs.Inner.{part_of}
use Rattle.filling.proofs.fill_blocks.Goals as goal

pub fill_part-requires : goal.fill_part-requires
fill_part-requires c =
    part_of _ _ _ _ _ _ _ (sym c.is_lent.ensures.result ∙ c.if-is_lent.true) (sym c.in_segment.ensures ∙ c.if-in_segment.true)
