-- Two outcomes that meet the promise are equal, memory included. Assumes nothing.
use mathlib.Core.List.{List}
use mathlib.Core.Path.{◌≡◌, sym, ◌∙◌}
use Prim.Native.Nat.{ℕ}
use Rattle.job.specs.declared.Job.{Job}
use Rattle.turns.specs.Promises.{PlayPromise}

pub play_settled : {j : Job} {w schedule : List ℕ} {r r' : Job} {v v' : List ℕ}
    → PlayPromise j w schedule r v → PlayPromise j w schedule r' v' → (r ≡ r') × (v ≡ v')
play_settled p q = (p.job ∙ sym q.job, p.memory ∙ sym q.memory)
