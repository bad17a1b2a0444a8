-- "Given exactly when": of a list of rows that have each a number of its own, a row's number is the answer exactly when the rows before it
-- fail and it holds, and 0 exactly when all fail. Said of step and of finish, on any job. Assumes nothing.
use Prim.Native.Nat.{ℕ}
use mathlib.Core.Bool.{Bool, true, false, not, ◌&&◌, false≢true}
use mathlib.Core.List.{List, [], ◌∷◌}
use mathlib.Core.Path.{◌≡◌, refl, sym, ap, ◌∙◌}
use lib.Dec.{T, eqb}
use borrow.Author.Tests.{eq-eqb}
use Rattle.answer.specs.Answers.{Row, ◌when◌, first}
use Rattle.job.specs.Jobs.{step_rows, finish_rows}
use Rattle.job.specs.declared.Job.{Job}

-- a number is neither 0 nor that of a row
abbrev pub other : ℕ → List Row → Bool
other a [] = not (eqb a 0)
other a ((n when test) ∷ rows) = not (eqb a n) && other a rows

-- each row has a number of its own, and none has 0
abbrev pub apart : List Row → Bool
apart [] = true
apart ((n when test) ∷ rows) = other n rows && apart rows

-- what an answer says of each row, and of all, where what is known before is B
abbrev pub Given : ℕ → Type 0 → List Row → Type 0
Given a B [] = (a ≡ 0 → B) × (B → a ≡ 0)
Given a B ((n when test) ∷ rows) =
    ((a ≡ n → B × (test ≡ true)) × (B × (test ≡ true) → a ≡ n)) × Given a (B × (test ≡ false)) rows

split : (x y : Bool) → T (x && y) → (x ≡ true) × T y
split true y t = (refl, t)
split false y t = absurd t

is_not : (a n : ℕ) (x : Bool) → a ≡ n → not (eqb a n) && x ≡ false
is_not a n x e = ap (λ (t : Bool). not t && x) (eq-eqb a n e)

and_second : (x : Bool) {y : Bool} → y ≡ false → x && y ≡ false
and_second true e = e
and_second false e = refl

-- the answer is 0 or the number of a row
named : (rows : List Row) → other (first rows) rows ≡ false
named [] = refl
named ((n when true) ∷ rows) = is_not n n (other n rows) refl
named ((n when false) ∷ rows) = and_second (not (eqb (first rows) n)) (named rows)

from : (rows : List Row) (a : ℕ) (B : Type 0) → T (apart rows) → (B → a ≡ first rows) → (other a rows ≡ false → B) → Given a B rows
from [] a B t f g = (λ e. g (ap not (eq-eqb a 0 e)), f)
from ((n when true) ∷ rows) a B t f g =
    let s = split (other n rows) (apart rows) t in
    let clash : other a rows ≡ false → B → ⊥ = λ h b. false≢true (sym h ∙ ap (λ (m : ℕ). other m rows) (f b) ∙ s.0) in
    let b : other a rows ≡ false → B = λ h. g (and_second (not (eqb a n)) h) in (
      (λ e. (g (is_not a n (other a rows) e), refl), λ p. f p.0),
      from rows a (B × (true ≡ false)) s.1 (λ p. absurd (false≢true (sym p.1))) (λ h. absurd (clash h (b h))),
    )
from ((n when false) ∷ rows) a B t f g =
    let s = split (other n rows) (apart rows) t in
    let clash : a ≡ n → B → ⊥ = λ e b. false≢true (sym (named rows) ∙ ap (λ (m : ℕ). other m rows) (sym (f b) ∙ e) ∙ s.0) in (
      (λ e. absurd (clash e (g (is_not a n (other a rows) e))), λ p. absurd (false≢true p.1)),
      from rows a (B × (false ≡ false)) s.1 (λ p. f p.0) (λ h. (g (and_second (not (eqb a n)) h), refl)),
    )

pub exactly : (rows : List Row) → T (apart rows) → Given (first rows) Unit rows
exactly rows t = from rows (first rows) Unit t (λ u. refl) (λ h. tt)

-- step: 17, 16, 18, 19, 20; finish: 17, 16, 21, 11, 12
pub step_exactly : (j : Job) (words l : ℕ) → Given (first (step_rows j words l)) Unit (step_rows j words l)
step_exactly j words l = exactly (step_rows j words l) tt

pub finish_exactly : (j : Job) (words out : ℕ) → Given (first (finish_rows j words out)) Unit (finish_rows j words out)
finish_exactly j words out = exactly (finish_rows j words out) tt
