-- Two results that meet a promise are equal. Assumes nothing.
use Prim.Native.Nat.{ℕ}
use mathlib.Core.List.{List}
use mathlib.Core.Path.{◌≡◌, sym, ◌∙◌}
use Rattle.word.specs.Promises.{RotatePromise, FromLePromise, LoadPromise, ToLePromise, LoadWordsPromise, StoreWordsPromise, LowHalfPromise, HighHalfPromise}

pub rotate_settled : {n x r r' : ℕ} → RotatePromise n x r → RotatePromise n x r' → r ≡ r'
rotate_settled p p' = p.result ∙ sym p'.result

pub from_le_settled : {a b c d e f g h r r' : ℕ} → FromLePromise a b c d e f g h r → FromLePromise a b c d e f g h r' → r ≡ r'
from_le_settled p p' = p.result ∙ sym p'.result

pub load_settled : {n : ℕ} {s : List ℕ} {at r r' : ℕ} → LoadPromise n s at r → LoadPromise n s at r' → r ≡ r'
load_settled p p' = p.result ∙ sym p'.result

pub to_le_settled : {n x : ℕ} {r r' : List ℕ} → ToLePromise n x r → ToLePromise n x r' → r ≡ r'
to_le_settled p p' = p.result ∙ sym p'.result

pub load_words_settled : {s w w' w'' : List ℕ} → LoadWordsPromise s w w' → LoadWordsPromise s w w'' → w' ≡ w''
load_words_settled p p' = p.words ∙ sym p'.words

pub store_words_settled : {w out out' out'' : List ℕ} → StoreWordsPromise w out out' → StoreWordsPromise w out out'' → out' ≡ out''
store_words_settled p p' = p.output ∙ sym p'.output

pub low_half_settled : {x r r' : ℕ} → LowHalfPromise x r → LowHalfPromise x r' → r ≡ r'
low_half_settled p p' = p.result ∙ sym p'.result

pub high_half_settled : {x r r' : ℕ} → HighHalfPromise x r → HighHalfPromise x r' → r ≡ r'
high_half_settled p p' = p.result ∙ sym p'.result
