-- Two results that meet a promise are equal. Assumes nothing.
use Prim.Native.Nat.{ℕ}
use mathlib.Core.Path.{◌≡◌, sym, ◌∙◌}
use Rattle.answer.specs.Promises.{NumberPromise, CheckLengthPromise}
use Rattle.answer.proofs.Numbers.{injective}
use Rattle.std.specs.Prelude.{⊤, Result}
use Rattle.answer.specs.declared.Refusal.{Refusal}

pub number_settled : {a : Result ⊤ Refusal} {r r' : ℕ} → NumberPromise a r → NumberPromise a r' → r ≡ r'
number_settled p p' = p.result ∙ sym p'.result

pub check_length_settled : {least most n : ℕ} {r r' : Result ⊤ Refusal} → CheckLengthPromise least most n r → CheckLengthPromise least most n r' → r ≡ r'
check_length_settled p p' = injective (p.answer ∙ sym p'.answer)
