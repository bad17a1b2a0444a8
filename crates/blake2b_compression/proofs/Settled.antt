-- Two results that meet a promise are equal. Assumes nothing.
use Rattle.std.proofs.Common.{◌≡◌, ℕ, Bool, List, sym, ◌∙◌}
use Rattle.blake2b_compression.specs.declared.Count.{Count}
use Rattle.blake2b_compression.specs.Promises.{CompressPromise, AddPromise}

pub compress_settled : {h block r r' : List ℕ} {low high : ℕ} {last : Bool}
    → CompressPromise h block low high last r → CompressPromise h block low high last r' → r ≡ r'
compress_settled p p' = p.result ∙ sym p'.result

pub add_settled : {t r r' : Count} {n : ℕ} → AddPromise t n r → AddPromise t n r' → r ≡ r'
add_settled p p' = p.result ∙ sym p'.result
