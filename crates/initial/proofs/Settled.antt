-- Two results that meet a promise are equal. Assumes nothing.
use Prim.Native.Nat.{ℕ}
use mathlib.Core.List.{List}
use mathlib.Core.Path.{◌≡◌, ap, sym, ◌∙◌}
use Rattle.block.specs.declared.Block.{Block}
use Rattle.params.specs.declared.Params.{Params}
use Rattle.position.specs.declared.BlockNumber.{BlockNumber}
use Rattle.position.specs.declared.LaneNumber.{LaneNumber}
use Rattle.initial.specs.Promises.{InitialHashPromise, FirstWordsPromise}

pub initial_hash_settled : {P : Params} {tag : ℕ} {password salt secret ad r r' : List ℕ}
    → InitialHashPromise P tag password salt secret ad r → InitialHashPromise P tag password salt secret ad r' → r ≡ r'
initial_hash_settled p p' = p.result ∙ sym p'.result

pub first_words_settled : {h : List ℕ} {l : LaneNumber} {b : BlockNumber} {r r' : Block} → FirstWordsPromise h l b r → FirstWordsPromise h l b r' → r ≡ r'
first_words_settled p p' = ap (λ (w : List ℕ). record { words = w }) (p.result ∙ sym p'.result)
