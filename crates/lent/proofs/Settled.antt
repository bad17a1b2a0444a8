-- Two outcomes that meet a promise are equal. Assumes nothing.
use Rattle.std.proofs.Common.{◌≡◌, ℕ, List, sym, ◌∙◌}
use Rattle.lent.specs.Promises.{DirtyPromise, DirtyBytesPromise, DigestPromise, XorshiftPromise}

pub dirty_settled : {seed : ℕ} {w w' w'' : List ℕ} → DirtyPromise seed w w' → DirtyPromise seed w w'' → w' ≡ w''
dirty_settled p p' = p.words ∙ sym p'.words

pub dirty_bytes_settled : {seed : ℕ} {b b' b'' : List ℕ} → DirtyBytesPromise seed b b' → DirtyBytesPromise seed b b'' → b' ≡ b''
dirty_bytes_settled p p' = p.bytes ∙ sym p'.bytes

pub digest_settled : {w r r' : List ℕ} → DigestPromise w r → DigestPromise w r' → r ≡ r'
digest_settled p p' = p.result ∙ sym p'.result

pub xorshift_settled : {x r r' : ℕ} → XorshiftPromise x r → XorshiftPromise x r' → r ≡ r'
xorshift_settled p p' = p.result ∙ sym p'.result
