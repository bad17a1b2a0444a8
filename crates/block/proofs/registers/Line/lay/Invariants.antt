-- `block::registers::Line::lay` meets its contract: the loop lays down one word more each turn. Assumes nothing.
use Rattle.block.specs.Line.{Laid}
use Rattle.block.proofs.registers.Line.lay.Given as goal

abbrev pub invariant-loop-k : goal.invariant-loop-k
invariant-loop-k l = Laid l.self.first l.self.step l.k l.v l.initial.t l.t
