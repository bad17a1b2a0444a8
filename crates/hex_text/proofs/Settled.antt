-- Two results that meet a promise are equal. Assumes nothing.
use Prim.Native.Nat.{ℕ}
use mathlib.Core.List.{List}
use mathlib.Core.Path.{◌≡◌, sym, ◌∙◌}
use Rattle.hex_text.specs.Promises.{DigitsPromise, WritePromise}

pub digits_settled : {b : ℕ} {r r' : List ℕ} → DigitsPromise b r → DigitsPromise b r' → r ≡ r'
digits_settled p p' = p.result ∙ sym p'.result

pub write_settled : {b t : List ℕ} {r r' : ℕ} {t' t'' : List ℕ} → WritePromise b t r t' → WritePromise b t r' t'' → (r ≡ r') × (t' ≡ t'')
write_settled p p' = (p.count ∙ sym p'.count, p.content ∙ sym p'.content)
