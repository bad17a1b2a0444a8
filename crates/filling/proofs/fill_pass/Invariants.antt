-- `filling::fill_pass` meets its contract: what is left of the slices leads to the same end. Assumes nothing.
use Rattle.params.specs.Limits.{slices}
use Rattle.filling.specs.Filling.{fill_slice, fill_pass}
use Rattle.memory.proofs.Loop.{Leads}
use Rattle.filling.proofs.fill_pass.Given as goal

abbrev pub invariant-loop-slice : goal.invariant-loop-slice
invariant-loop-slice l =
    Leads slices (λ sl. fill_slice l.params l.pass sl) (fill_pass l.params l.pass l.initial.words) l.initial.words l.words l.slice
