-- `turns::play` meets its contract: at each turn the lanes that are left lead from where it stands to the same end. Assumes nothing.
use mathlib.Core.Path.{◌≡◌}
use lib.ListN.{length, drop}
use Rattle.turns.specs.Play.{on, run}
use Rattle.turns.proofs.play.Given as goal

abbrev pub invariant-loop-lane : goal.invariant-loop-lane
invariant-loop-lane l =
    (length l.words ≡ length l.initial.words)
    × (run (on l.initial.job l.initial.words) l.schedule ≡ run (on l.job l.words) (drop l.lane-index l.schedule))
