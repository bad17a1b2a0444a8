-- `memory::first_blocks` meets its contract: after each turn, one lane more has its first blocks. Assumes nothing.
use mathlib.Core.Path.{◌≡◌}
use Rattle.params.specs.Limits.{segment}
use Rattle.memory.specs.Start.{start_memory}
use Rattle.memory.proofs.first_blocks.Given as goal

abbrev pub invariant-loop-lane : goal.invariant-loop-lane
invariant-loop-lane l = l.words ≡ start_memory l.h l.lane (segment l.params) l.initial.words
