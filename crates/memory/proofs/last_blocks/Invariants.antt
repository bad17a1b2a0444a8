-- `memory::last_blocks` meets its contract: after each turn, one lane more is in the XOR. Assumes nothing.
use mathlib.Core.Path.{◌≡◌}
use Rattle.params.specs.Limits.{segment}
use Rattle.memory.specs.Tag.{last_blocks}
use Rattle.memory.proofs.last_blocks.Given as goal

abbrev pub invariant-loop-lane : goal.invariant-loop-lane
invariant-loop-lane l = l.x.words ≡ last_blocks l.lane (segment l.fn.params) l.words
