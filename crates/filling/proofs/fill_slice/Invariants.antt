-- `filling::fill_slice` meets its contract: what is left of the lanes leads to the same end. Assumes nothing.
use Rattle.memory.proofs.Loop.{Leads}
use Rattle.filling.specs.Filling.{fill_segment, fill_slice}
use Rattle.filling.proofs.fill_slice.Given as goal

abbrev pub invariant-loop-lane : goal.invariant-loop-lane
invariant-loop-lane l =
    Leads l.params.lanes (λ i. fill_segment l.params l.pass l.slice i) (fill_slice l.params l.pass l.slice l.initial.words) l.initial.words l.words l.lane
