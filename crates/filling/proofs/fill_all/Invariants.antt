-- `filling::fill_all` meets its contract: what is left of the passes leads to the same end. Assumes nothing.
use Rattle.filling.specs.Filling.{fill_pass, fill_all}
use Rattle.memory.proofs.Loop.{Leads}
use Rattle.filling.proofs.fill_all.Given as goal

abbrev pub invariant-loop-pass : goal.invariant-loop-pass
invariant-loop-pass l = Leads l.params.passes (λ r. fill_pass l.params r) (fill_all l.params l.initial.words) l.initial.words l.words l.pass
