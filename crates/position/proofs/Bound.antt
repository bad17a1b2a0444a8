-- `area_bound`: once over slice and lane, no subtraction of the reference position is cut off, and the place lies within the area.
-- Assumes nothing.
use mathlib.Core.Bool.{Bool, true, false, cond}
use mathlib.Core.Logic.{◌≢◌}
use mathlib.Core.Path.{◌≡◌, refl}
use Prim.Native.Nat.{ℕ, ◌+◌, ◌-◌, ◌*◌, ◌/◌, ◌≤◌, ◌<◌}
use native.Mathlib.Nat.{div-lt_iff_lt-mul, mul-lt-mul_of_pos_left}
use native.Mathlib.Omega.{arith}
use lib.Dec.{eqb}
use borrow.Author.Tests.{eqb-false}
use Rattle.params.specs.Limits.{slices}
use Rattle.word.specs.Word.{half, low_half}
use Rattle.word.proofs.Half.{product_lt}
use Rattle.position.specs.Position.{reference_lane, finished_length, area}
use Rattle.position.proofs.Accepted.{Filled}
use Rattle.position.proofs.Referring.{area_own, area_other, finished_some, not_first}

-- x = floor(J² / 2^32), of the random word's low half J
abbrev pub square : ℕ → ℕ
square x = low_half x * low_half x / half

pub square-lt : (x : ℕ) → square x < half
square-lt x = omega (arith, product_lt 32 {a = low_half x} {b = low_half x} (omega arith) (omega arith))

-- where there is an area, what the square takes of it is less than all
pub share-lt : (a x : ℕ) → 1 ≤ a → a * square x / half < a
share-lt a x h =
    (div-lt_iff_lt-mul {k = half} {x = a * square x} {y = a} (omega arith)).1 (mul-lt-mul_of_pos_left (square-lt x) h)

-- whether the random word x refers to the own lane
abbrev pub own : ℕ → ℕ → ℕ → ℕ → ℕ → Bool
own p r sl l x = eqb (reference_lane p r sl l x) l

pub record AreaBound (p s r sl l k x : ℕ) : Type 0 where
  -- what `finished_length` takes away is there
  pub of_lane : s ≤ slices * s
  -- what `area` takes away is there, in the own lane and in another
  pub of_own : own p r sl l x ≡ true → 1 ≤ finished_length s r sl + k
  pub of_other : own p r sl l x ≡ false → cond (eqb k 0) 1 0 ≤ finished_length s r sl
  -- what `place` takes away is there
  pub some : 1 ≤ area s r sl k (own p r sl l x)
  pub share : area s r sl k (own p r sl l x) * square x / half ≤ area s r sl k (own p r sl l x) - 1

module _ {p s t r sl l k : ℕ} (two : 2 ≤ s) (f : Filled p s t r sl l k) (x : ℕ) where
  from_one : 1 ≤ p
  from_one = omega arith

  other : own p r sl l x ≡ false → reference_lane p r sl l x ≢ l
  other e = eqb-false (reference_lane p r sl l x) l e

  some_of : (b : Bool) → own p r sl l x ≡ b → 1 ≤ area s r sl k b
  some_of true e = (area_own p s from_one two r sl l k x f.slice f.lane f.inside f.from).0
  some_of false e = (area_other p s from_one two r sl l k x f.slice f.lane f.inside f.from (other e)).0

  at_most_one : (v : Bool) → cond v 1 0 ≤ 1
  at_most_one true = omega arith
  at_most_one false = omega arith

  pub area_bound : AreaBound p s r sl l k x
  area_bound =
      let some : 1 ≤ area s r sl k (own p r sl l x) = some_of (own p r sl l x) refl in
      record {
        of_lane = omega arith;
        of_own = λ e. omega (arith, (area_own p s from_one two r sl l k x f.slice f.lane f.inside f.from).1);
        of_other = λ e.
            omega (
              arith,
              at_most_one (eqb k 0),
              finished_some s r sl two f.slice
                  (not_first p s from_one two r sl l k x f.slice f.lane f.inside f.from (other e)),
            );
        some = some;
        share = omega (arith, share-lt (area s r sl k (own p r sl l x)) x some);
      }
