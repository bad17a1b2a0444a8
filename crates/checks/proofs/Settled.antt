-- Two results that meet a promise are equal. Assumes nothing.
use Prim.Native.Nat.{ℕ}
use mathlib.Core.Bool.{Bool}
use mathlib.Core.Path.{◌≡◌, sym, ◌∙◌}
use Rattle.std.specs.Prelude.{⊤, Option, Result}
use Rattle.answer.specs.declared.Refusal.{Refusal}
use Rattle.answer.proofs.Numbers.{injective}
use Rattle.params.specs.declared.Params.{Params}
use Rattle.checks.specs.Promises.{LengthsPromise, PlainPromise, CheckOutputPromise, TooLittlePromise, CheckStartPromise, CheckFillPromise}
use Rattle.checks.specs.declared.Lengths.{Lengths}
use Rattle.checks.specs.declared.Rule.{Rule}

pub lengths_settled : {password salt secret ad : ℕ} {r r' : Lengths} → LengthsPromise password salt secret ad r → LengthsPromise password salt secret ad r' → r ≡ r'
lengths_settled p p' = p.result ∙ sym p'.result

pub plain_settled : {r r' : Rule} → PlainPromise r → PlainPromise r' → r ≡ r'
plain_settled p p' = p.result ∙ sym p'.result

pub check_output_settled : {g : Option ℕ} {n : ℕ} {r r' : Result ⊤ Refusal} → CheckOutputPromise g n r → CheckOutputPromise g n r' → r ≡ r'
check_output_settled p p' = injective (p.answer ∙ sym p'.answer)

pub too_little_settled : {unit : ℕ} {P : Params} {lent : ℕ} {r r' : Bool} → TooLittlePromise unit P lent r → TooLittlePromise unit P lent r' → r ≡ r'
too_little_settled p p' = p.result ∙ sym p'.result

pub check_start_settled : {rule : Rule} {unit : ℕ} {P : Params} {tag password salt secret ad lent : ℕ} {r r' : Result ⊤ Refusal}
    → CheckStartPromise rule unit P tag password salt secret ad lent r → CheckStartPromise rule unit P tag password salt secret ad lent r' → r ≡ r'
check_start_settled p p' = injective (p.answer ∙ sym p'.answer)

pub check_fill_settled : {rule : Rule} {unit : ℕ} {P : Params} {password salt secret ad lent : ℕ} {r r' : Result ⊤ Refusal}
    → CheckFillPromise rule unit P password salt secret ad lent r → CheckFillPromise rule unit P password salt secret ad lent r' → r ≡ r'
check_fill_settled p p' = injective (p.answer ∙ sym p'.answer)
