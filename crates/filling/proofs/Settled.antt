-- Two outcomes that meet a promise are equal. Assumes nothing.
use Prim.Native.Nat.{ℕ}
use mathlib.Core.List.{List}
use mathlib.Core.Path.{◌≡◌, sym, ◌∙◌}
use Rattle.params.specs.declared.Params.{Params}
use Rattle.filling.specs.Promises.{FillBlocksPromise, FillAllPromise}

pub fill_blocks_settled : {w : List ℕ} {P : Params} {r sl l from to : ℕ} {v v' : List ℕ}
    → FillBlocksPromise w P r sl l from to v → FillBlocksPromise w P r sl l from to v' → v ≡ v'
fill_blocks_settled p p' = p.memory ∙ sym p'.memory

pub fill_all_settled : {w : List ℕ} {P : Params} {v v' : List ℕ} → FillAllPromise w P v → FillAllPromise w P v' → v ≡ v'
fill_all_settled p p' = p.memory ∙ sym p'.memory
