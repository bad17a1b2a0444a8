-- Two outcomes that meet a promise are equal: results and every lent buffer. Assumes nothing.
use Prim.Native.Nat.{ℕ}
use mathlib.Core.Bool.{Bool}
use mathlib.Core.List.{List}
use mathlib.Core.Path.{◌≡◌, sym, ◌∙◌}
use Rattle.block.specs.declared.Block.{Block}
use Rattle.params.specs.declared.Params.{Params}
use Rattle.memory.specs.Promises.{IsLentPromise, ReadBlockPromise, WriteBlockPromise, FirstBlocksPromise, WriteTagPromise}

pub is_lent_settled : {P : Params} {words : ℕ} {r r' : Bool} → IsLentPromise P words r → IsLentPromise P words r' → r ≡ r'
is_lent_settled p p' = p.result ∙ sym p'.result

pub read_block_settled : {w : List ℕ} {b : ℕ} {r r' : Block} → ReadBlockPromise w b r → ReadBlockPromise w b r' → r ≡ r'
read_block_settled p p' = let e = p.words ∙ sym p'.words in λ i. record { words = e i }

pub write_block_settled : {w : List ℕ} {b : ℕ} {x : Block} {v v' : List ℕ} → WriteBlockPromise w b x v → WriteBlockPromise w b x v' → v ≡ v'
write_block_settled p p' = p.memory ∙ sym p'.memory

pub first_blocks_settled : {w : List ℕ} {P : Params} {h v v' : List ℕ} → FirstBlocksPromise w P h v → FirstBlocksPromise w P h v' → v ≡ v'
first_blocks_settled p p' = p.memory ∙ sym p'.memory

pub write_tag_settled : {w : List ℕ} {P : Params} {out o o' : List ℕ} → WriteTagPromise w P out o → WriteTagPromise w P out o' → o ≡ o'
write_tag_settled p p' = p.output ∙ sym p'.output
