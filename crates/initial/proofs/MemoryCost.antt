-- What is hashed first holds the memory cost as it was given, not the number of blocks. Assumes nothing.
use mathlib.Core.Path.{◌≡◌, refl}
use mathlib.Core.List.{List}
use Prim.Native.Nat.{ℕ}
use lib.ListN.{take, drop}
use Rattle.params.specs.declared.Params.{Params}
use Rattle.initial.specs.Initial.{le32, header, hash_input}

-- bytes 8 to 11 are the memory cost
pub memory_hashed : (P : Params) (tag : ℕ) (password salt secret ad : List ℕ)
    → take 4 (drop 8 (hash_input P tag password salt secret ad)) ≡ le32 P.memory
unfolding hash_input header
memory_hashed P tag password salt secret ad = refl
