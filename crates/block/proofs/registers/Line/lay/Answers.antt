-- `block::registers::Line::lay` meets its contract: the loop lays down one word more each turn. Assumes nothing.
use Rattle.std.proofs.Common.{arith}
use Rattle.block.proofs.Line.{lay_more}
use Rattle.block.proofs.registers.Line.lay.Goals as goal

pub loop-k-preserved : goal.loop-k-preserved
loop-k-preserved c = rw c.place-at.ensures.0 (lay_more _ _ _ _ _ _ c.args.self.inside (omega arith) c.loop-k.invariant)
