-- Laws of a list of rows: a list that gives 0 has passed each of its rows, and a list in two parts is answered part by part. Assumes nothing.
use Prim.Native.Nat.{ℕ}
use mathlib.Core.Bool.{Bool, true, false, ◌&&◌}
use mathlib.Core.List.{List, [], ◌∷◌, ◌++◌}
use mathlib.Core.Path.{◌≡◌, refl}
use native.Mathlib.Omega.{arith}
use borrow.Author.Tests.{ltb-true}
use lib.Dec.{T, ltb}
use Rattle.answer.specs.Answers.{Row, ◌when◌, first}

-- each row of a list has a refusal's number
abbrev pub refusals : List Row → Bool
refusals [] = true
refusals ((n when test) ∷ rows) = ltb 0 n && refusals rows

-- no row of a list holds
abbrev pub Passed : List Row → Type 0
Passed [] = Unit
Passed ((n when test) ∷ rows) = (test ≡ false) × Passed rows

rest : (x y : Bool) → T (x && y) → T y
rest true y t = t
rest false y t = absurd t

never : (n : ℕ) (x y : Bool) → T (x && y) → ltb 0 n ≡ x → n ≡ 0 → ⊥
never n true y t e h = omega (arith, ltb-true 0 n e)
never n false y t e h = absurd t

-- where the answer is 0, no row held
pub passed : (rows : List Row) → T (refusals rows) → first rows ≡ 0 → Passed rows
passed [] t h = tt
passed ((n when true) ∷ rows) t h = absurd (never n (ltb 0 n) (refusals rows) t refl h)
passed ((n when false) ∷ rows) t h = (refl, passed rows (rest (ltb 0 n) (refusals rows) t) h)

-- where no row holds, the answer is 0
pub accepted : (rows : List Row) → Passed rows → first rows ≡ 0
accepted [] p = refl
accepted ((n when test) ∷ rows) p = rw p.0 (accepted rows p.1)

-- a refusal of the first part is the whole list's
pub first_refused : (xs ys : List Row) → (first xs ≡ 0 → ⊥) → first (xs ++ ys) ≡ first xs
first_refused [] ys h = absurd (h refl)
first_refused ((n when true) ∷ xs) ys h = refl
first_refused ((n when false) ∷ xs) ys h = first_refused xs ys h

-- where the first part passes, the answer is the rest's
pub first_passed : (xs ys : List Row) → T (refusals xs) → first xs ≡ 0 → first (xs ++ ys) ≡ first ys
first_passed [] ys t h = refl
first_passed ((n when true) ∷ xs) ys t h = absurd (never n (ltb 0 n) (refusals xs) t refl h)
first_passed ((n when false) ∷ xs) ys t h = first_passed xs ys (rest (ltb 0 n) (refusals xs) t) h

-- a list in two parts passes part by part
pub passed_front : (xs ys : List Row) → Passed (xs ++ ys) → Passed xs
passed_front [] ys p = tt
passed_front ((n when test) ∷ xs) ys p = (p.0, passed_front xs ys p.1)

pub passed_back : (xs ys : List Row) → Passed (xs ++ ys) → Passed ys
passed_back [] ys p = p
passed_back ((n when test) ∷ xs) ys p = passed_back xs ys p.1
