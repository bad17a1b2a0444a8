-- What a call leaves in memory, from the equations of its parts: initial hash, first blocks, filling. Assumes nothing.
use Prim.Native.Nat.{ℕ}
use mathlib.Core.List.{List}
use mathlib.Core.Path.{◌≡◌, ap, ◌∙◌}
use Rattle.params.specs.Limits.{segment}
use Rattle.params.specs.declared.Params.{Params}
use Rattle.initial.specs.Initial.{initial_hash}
use Rattle.argon2.specs.Argon2.{filled}
use Rattle.filling.specs.Filling.{fill_all}
use Rattle.memory.specs.Start.{start_memory}

module _ (P : Params) (tag : ℕ) (password salt secret ad w : List ℕ) {h w₁ : List ℕ}
    (hashes : h ≡ initial_hash P tag password salt secret ad) (begins : w₁ ≡ start_memory h P.lanes (segment P) w)
  where
    -- the blocks that every lane begins with
    pub begun : w₁ ≡ start_memory (initial_hash P tag password salt secret ad) P.lanes (segment P) w
    begun = begins ∙ ap (λ (b : List ℕ). start_memory b P.lanes (segment P) w) hashes

    -- and then all the others
    pub completed : {w₂ : List ℕ} → w₂ ≡ fill_all P w₁ → w₂ ≡ filled P tag password salt secret ad w
    unfolding filled
    completed fills = fills ∙ ap (fill_all P) begun
