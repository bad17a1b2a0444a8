-- A list of rows in two parts, answered by the two parts' answers; what an answer leaves; and what rows 11 and 12 pass. Assumes nothing.
use Prim.Native.Nat.{ℕ, ◌≤◌}
use mathlib.Core.Bool.{Bool, true, false, cond}
use mathlib.Core.List.{List, ◌++◌}
use mathlib.Core.Path.{◌≡◌, refl, sym, ap, ◌∙◌}
use lib.Dec.{T, eqb}
use borrow.Author.Tests.{ltb-false, eqb-true, eqb-false, eq-eqb, ne_eqb}
use Rattle.std.specs.Prelude.{Result}
use Rattle.std.specs.Result.{IsErrAnd}
use Rattle.std.proofs.lemmas.Result.{err_from_is_err_and}
use Rattle.answer.specs.Answers.{Row, refusal, number, first, if_accepted, length_rows}
use Rattle.answer.specs.declared.Refusal.{Refusal}
use Rattle.answer.proofs.Numbers.{refused}
use Rattle.answer.proofs.Rows.{refusals, passed, first_refused, first_passed}

pub first_parts : (xs ys : List Row) → T (refusals xs) → if_accepted (first xs) (first ys) (first xs) ≡ first (xs ++ ys)
first_parts xs ys t = go (eqb (first xs) 0) refl
  where
    go : (b : Bool) → eqb (first xs) 0 ≡ b → cond b (first ys) (first xs) ≡ first (xs ++ ys)
    go true e = sym (first_passed xs ys t (eqb-true (first xs) 0 e))
    go false e = sym (first_refused xs ys (eqb-false (first xs) 0 e))

-- a and b are the parts' answers, and r that of both
pub joined : (xs ys : List Row) → T (refusals xs) → {a b r : ℕ} → a ≡ first xs → b ≡ first ys → r ≡ if_accepted a b a → r ≡ first (xs ++ ys)
joined xs ys t p q e = e ∙ rw (p, q) (first_parts xs ys t)

-- a refusal of the first part is the whole list's
pub part_refused : (e : Refusal) (xs ys : List Row) → refusal e ≡ first xs → refusal e ≡ first (xs ++ ys)
part_refused e xs ys p = p ∙ sym (first_refused xs ys (λ z. refused e (p ∙ z)))

-- what the exit of a `?` returns is the refusal that it met
pub handed_on : {T : Type 0} {n : ℕ} (e : Refusal) (r : Result T Refusal) → IsErrAnd r (λ y. y ≡ e) → refusal e ≡ n → number r ≡ n
handed_on e r h q = let p = err_from_is_err_and r h in rw (p.1, p.2) q

pub not_accepted : {T : Type 0} (e : Refusal) (r : Result T Refusal) → IsErrAnd r (λ y. y ≡ e) → number r ≡ 0 → ⊥
not_accepted e r h z = let p = err_from_is_err_and r h in refused p.0 (ap number (sym p.1) ∙ z)

-- where the first part accepts, the answer is the rest's
pub part_passed : (xs ys : List Row) {n : ℕ} → T (refusals xs) → 0 ≡ first xs → n ≡ first ys → n ≡ first (xs ++ ys)
part_passed xs ys t p q = q ∙ sym (first_passed xs ys t (sym p))

-- the new value is left, or the old one
pub left_new : {A : Type 0} (n : ℕ) (new old : A) → n ≡ 0 → if_accepted n new old ≡ new
left_new n new old e = ap (λ (t : Bool). cond t new old) (eq-eqb n 0 e)

pub left_old : {A : Type 0} (n : ℕ) (new old : A) → (n ≡ 0 → ⊥) → if_accepted n new old ≡ old
left_old n new old e = ap (λ (t : Bool). cond t new old) (ne_eqb n 0 e)

pub left_refused : {A : Type 0} {n : ℕ} (e : Refusal) (new old : A) → refusal e ≡ n → old ≡ if_accepted n new old
left_refused {n = n} e new old q = sym (left_old n new old (λ z. refused e (q ∙ z)))

-- an output that rows 11 and 12 pass has from least to most bytes
pub between : (least most n : ℕ) → first (length_rows least most n) ≡ 0 → (least ≤ n) × (n ≤ most)
between least most n h =
    let p = passed (length_rows least most n) tt h in
    (ltb-false n least p.0, ltb-false most n p.1.0)
