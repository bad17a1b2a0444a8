-- `block::lines` meets its contract: each turn permutes one line more. Assumes nothing.
use Rattle.block.specs.Line.{Permuted}
use Rattle.block.proofs.lines.Given as goal

abbrev pub invariant-loop-i : goal.invariant-loop-i
invariant-loop-i l = Permuted l.between l.step l.i l.q.words l.z
