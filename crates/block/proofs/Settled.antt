-- Two results that meet a promise are equal. Assumes nothing.
use Rattle.std.proofs.Common.{◌≡◌, ℕ, List, sym, ap, ◌∙◌}
use Rattle.block.specs.Promises.{PermutePromise, NewPromise, FromBytesPromise, ToBytesPromise, XorPromise, CompressPromise}
use Rattle.block.specs.declared.Block.{Block}

-- a block is its words
same_block : {r r' : Block} → r.words ≡ r'.words → r ≡ r'
same_block e = ap (λ (w : List ℕ). record { words = w }) e

pub permute_settled : {v r r' : List ℕ} → PermutePromise v r → PermutePromise v r' → r ≡ r'
permute_settled p p' = p.result ∙ sym p'.result

pub new_settled : {r r' : Block} → NewPromise r → NewPromise r' → r ≡ r'
new_settled p p' = same_block (p.result ∙ sym p'.result)

pub from_bytes_settled : {s : List ℕ} {r r' : Block} → FromBytesPromise s r → FromBytesPromise s r' → r ≡ r'
from_bytes_settled p p' = same_block (p.result ∙ sym p'.result)

pub to_bytes_settled : {x : Block} {r r' : List ℕ} → ToBytesPromise x r → ToBytesPromise x r' → r ≡ r'
to_bytes_settled p p' = p.result ∙ sym p'.result

pub xor_settled : {x y r r' : Block} → XorPromise x y r → XorPromise x y r' → r ≡ r'
xor_settled p p' = same_block (p.result ∙ sym p'.result)

pub compress_settled : {x y r r' : Block} → CompressPromise x y r → CompressPromise x y r' → r ≡ r'
compress_settled p p' = same_block (p.result ∙ sym p'.result)
