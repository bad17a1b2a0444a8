-- `block::lines` meets its contract: each turn permutes one line more. Assumes nothing.
use Rattle.std.proofs.Common.{ap, ◌∙◌, arith}
use Rattle.block.specs.Block.{permutation}
use Rattle.block.proofs.Line.{permute_more}
use Rattle.block.proofs.lines.Goals as goal

pub loop-i-preserved : goal.loop-i-preserved
loop-i-preserved c =
    permute_more _ _ _ _ _ c.requires (omega arith) (c.permute-v.ensures.result ∙ ap permutation c.read.ensures) c.lay.ensures c.loop-i.invariant
