-- Where the reference block lies, once over slice and lane and for all three algorithms: the random word `x` is any number.
-- Assumes nothing.
use mathlib.Core.Path.{◌≡◌, refl, sym, ap, ◌∙◌, subst}
use mathlib.Core.Logic.{◌≢◌, ◌⊎◌, inl, inr}
use mathlib.Core.Bool.{Bool, true, false, cond, ◌&&◌}
use Prim.Native.Nat.{ℕ, ◌+◌, ◌-◌, ◌*◌, ◌/◌, ◌%◌, ◌≤◌, ◌<◌}
use native.Mathlib.Omega.{arith}
use native.Mathlib.Nat.{mod-lt, mod-eq_of_lt, mod-eq-sub-mod, mul-le-mul_right}
use lib.Dec.{ltb, eqb}
use lib.Arith.{digits_div, digits_lt}
use borrow.Author.Tests.{ltb-true, ltb-false, eqb-true, eqb-false, eq-eqb, ne_eqb}
use Rattle.params.specs.Limits.{slices}
use Rattle.word.specs.Word.{high_half}
use Rattle.position.specs.Position.{first_block, index, previous_column, reference_lane, finished_length, area, place, area_start, reference_column}
use Rattle.position.proofs.Lane.{slice_le}

-- a number that goes at most once round
pub mod_once : (n q : ℕ) → n < q + q → ((n % q ≡ n) × (n < q)) ⊎ ((n % q + q ≡ n) × (q ≤ n))
mod_once n q h = go (ltb n q) refl
  where
    go : (t : Bool) → ltb n q ≡ t → ((n % q ≡ n) × (n < q)) ⊎ ((n % q + q ≡ n) × (q ≤ n))
    go true e = inl (mod-eq_of_lt (ltb-true n q e), ltb-true n q e)
    go false e =
        let g : q ≤ n = ltb-false n q e in
        let b : n - q < q = omega arith in
        let m : n % q ≡ n - q = mod-eq-sub-mod g ∙ mod-eq_of_lt b in
        inr (omega arith, g)

place-lt : (a x : ℕ) → 1 ≤ a → place a x < a
unfolding place
place-lt a x h = omega arith

module _ (s r sl : ℕ) (two : 2 ≤ s) (four : sl < slices) where
  pub segments : sl * s + s ≤ slices * s
  segments = slice_le s sl four

  finished_zero : eqb r 0 ≡ true → finished_length s r sl ≡ sl * s
  unfolding finished_length
  finished_zero e = ap (λ (t : Bool). cond t (sl * s) (slices * s - s)) e

  finished_later : eqb r 0 ≡ false → finished_length s r sl ≡ 3 * s
  unfolding finished_length
  finished_later e = ap (λ (t : Bool). cond t (sl * s) (slices * s - s)) e ∙ omega arith

  -- but for the very first segment, a finished segment is there
  pub finished_some : eqb r 0 && eqb sl 0 ≡ false → s ≤ finished_length s r sl
  finished_some h = go (eqb r 0) refl h
    where
      go : (t : Bool) → eqb r 0 ≡ t → t && eqb sl 0 ≡ false → s ≤ finished_length s r sl
      go true e f =
          let n : sl ≢ 0 = eqb-false sl 0 f in
          let o : 1 ≤ sl = omega arith in
          omega (arith, finished_zero e, mul-le-mul_right s o)
      go false e f = omega (arith, finished_later e)

  -- the columns that a place reaches. `u` blocks of this segment stand before the end of what may be referred to, less `e`
  module _ (z u e : ℕ) (short : u < s) (one : 1 ≤ e) (at : z + e ≤ finished_length s r sl + u) where
    reaches_zero : eqb r 0 ≡ true → (area_start s r sl + z) % (slices * s) + e ≤ sl * s + u
    unfolding area_start
    reaches_zero t =
        let st : area_start s r sl ≡ 0 = simp t in
        let h : area_start s r sl + z < slices * s = omega (arith, finished_zero t, segments) in
        omega (arith, mod-eq_of_lt h, finished_zero t)

    reaches : ((area_start s r sl + z) % (slices * s) + e ≤ sl * s + u)
        ⊎ ((sl * s + s ≤ (area_start s r sl + z) % (slices * s)) × ((area_start s r sl + z) % (slices * s) + e ≤ slices * s + sl * s + u))
    unfolding area_start
    reaches = go (eqb r 0) refl (ltb (sl + 1) slices) refl
      where
        Goal : Type 0
        Goal =
            ((area_start s r sl + z) % (slices * s) + e ≤ sl * s + u)
            ⊎ ((sl * s + s ≤ (area_start s r sl + z) % (slices * s)) × ((area_start s r sl + z) % (slices * s) + e ≤ slices * s + sl * s + u))

        round : area_start s r sl ≡ sl * s + s → finished_length s r sl ≡ 3 * s
            → (((area_start s r sl + z) % (slices * s) ≡ area_start s r sl + z) × (area_start s r sl + z < slices * s))
            ⊎ (((area_start s r sl + z) % (slices * s) + slices * s ≡ area_start s r sl + z) × (slices * s ≤ area_start s r sl + z))
            → Goal
        round st wh (inl m) = inr (omega arith, omega arith)
        round st wh (inr m) = inl (omega arith)

        go : (t : Bool) → eqb r 0 ≡ t → (v : Bool) → ltb (sl + 1) slices ≡ v → Goal
        go true t v w = inl (reaches_zero t)
        go false t true w =
            let st : area_start s r sl ≡ (sl + 1) * s = simp (t, w) in
            let st' : area_start s r sl ≡ sl * s + s = omega arith in
            let wh : finished_length s r sl ≡ 3 * s = finished_later t in
            round st' wh (mod_once (area_start s r sl + z) (slices * s) (omega (arith, segments)))
        go false t false w =
            let st : area_start s r sl ≡ 0 = simp (t, w) in
            let three : sl ≡ 3 = omega (arith, ltb-false (sl + 1) slices w) in
            let prod : sl * s ≡ 3 * s = ap (λ (b : ℕ). b * s) three in
            let wh : finished_length s r sl ≡ 3 * s = finished_later t in
            let h : area_start s r sl + z < slices * s = omega arith in
            inl (omega (arith, mod-eq_of_lt h))

-- ---- a block by its lane and reaches

pub same_lane : (s : ℕ) (a b c d : ℕ) → c < slices * s → d < slices * s → index s a c ≡ index s b d → a ≡ b
same_lane s a b c d hc hd e = sym (digits_div a hc) ∙ ap (λ (n : ℕ). n / (slices * s)) e ∙ digits_div b hd

pub index-lt : (p s : ℕ) (a c : ℕ) → a < p → c < slices * s → index s a c < p * (slices * s)
index-lt p s a c ha hc = digits_lt ha hc

-- ---- the facts of a block that a step fills: lane l, block k of the segment, and any random word x

module _
    (p s : ℕ) (one : 1 ≤ p) (two : 2 ≤ s) (r sl l k x : ℕ)
    (four : sl < slices) (lane : l < p) (inside : k < s) (from : first_block r sl ≤ k)
  where
    pub ref_lane : reference_lane p r sl l x < p
    unfolding reference_lane
    ref_lane = go (eqb r 0 && eqb sl 0)
      where
        go : (t : Bool) → cond t l (high_half x % p) < p
        go true = lane
        go false = mod-lt (high_half x) one

    pub ref_column : reference_column p s r sl l k x < slices * s
    unfolding reference_column
    ref_column =
        mod-lt (area_start s r sl + place (area s r sl k (eqb (reference_lane p r sl l x) l)) x) (omega arith)

    -- in the first segment the reference lane is the own lane
    first_own : eqb r 0 && eqb sl 0 ≡ true → reference_lane p r sl l x ≡ l
    unfolding reference_lane
    first_own e = ap (λ (t : Bool). cond t l (high_half x % p)) e

    -- so another lane is referred to only where a segment is finished
    pub not_first : reference_lane p r sl l x ≢ l → eqb r 0 && eqb sl 0 ≡ false
    not_first n = go (eqb r 0 && eqb sl 0) refl
      where
        go : (t : Bool) → eqb r 0 && eqb sl 0 ≡ t → t ≡ false
        go true e = absurd (n (first_own e))
        go false e = refl

    -- the area is at least 1, in every slice, for the own lane and any other
    pub area_own : (1 ≤ area s r sl k true) × (area s r sl k true + 1 ≡ finished_length s r sl + k)
    unfolding area
    area_own = go (eqb r 0 && eqb sl 0) refl
      where
        go : (t : Bool) → eqb r 0 && eqb sl 0 ≡ t
            → (1 ≤ finished_length s r sl + k - 1) × (finished_length s r sl + k - 1 + 1 ≡ finished_length s r sl + k)
        go true e =
            let h : 2 ≤ k = subst (λ (t : Bool). cond t 2 0 ≤ k) e from in
            (omega arith, omega arith)
        go false e = (omega (arith, finished_some s r sl two four e), omega (arith, finished_some s r sl two four e))

    pub area_other : reference_lane p r sl l x ≢ l → (1 ≤ area s r sl k false) × (area s r sl k false ≤ finished_length s r sl)
    unfolding area
    area_other n = go (eqb k 0) refl
      where
        some : s ≤ finished_length s r sl
        some = finished_some s r sl two four (not_first n)

        go : (v : Bool) → eqb k 0 ≡ v → (1 ≤ area s r sl k false) × (area s r sl k false ≤ finished_length s r sl)
        go true e = rw e (omega (arith, some), omega arith)
        go false e = rw e (omega (arith, some), omega arith)

    column_is : (own : Bool) → eqb (reference_lane p r sl l x) l ≡ own
        → reference_column p s r sl l k x ≡ (area_start s r sl + place (area s r sl k own) x) % (slices * s)
    unfolding reference_column
    column_is own e = ap (λ (t : Bool). (area_start s r sl + place (area s r sl k t) x) % (slices * s)) e

    -- another lane's block is not in this slice; in pass 0 it is in a slice before
    pub ref_other : reference_lane p r sl l x ≢ l → (reference_column p s r sl l k x < sl * s) ⊎ (sl * s + s ≤ reference_column p s r sl l k x)
    ref_other n = go (reaches s r sl two four (place a x) 0 1 (omega arith) (omega arith) (omega (arith, place-lt a x b.0, b.1)))
      where
        a : ℕ
        a = area s r sl k false

        b : (1 ≤ a) × (a ≤ finished_length s r sl)
        b = area_other n

        c : ℕ
        c = (area_start s r sl + place a x) % (slices * s)

        is : reference_column p s r sl l k x ≡ c
        is = column_is false (ne_eqb (reference_lane p r sl l x) l n)

        go : (c + 1 ≤ sl * s + 0) ⊎ ((sl * s + s ≤ c) × (c + 1 ≤ slices * s + sl * s + 0))
            → (reference_column p s r sl l k x < sl * s) ⊎ (sl * s + s ≤ reference_column p s r sl l k x)
        go (inl h) = inl (omega (arith, is))
        go (inr h) = inr (omega (arith, is))

    pub ref_other_zero : reference_lane p r sl l x ≢ l → eqb r 0 ≡ true → reference_column p s r sl l k x < sl * s
    ref_other_zero n t =
        let a : ℕ = area s r sl k false in
        let b : (1 ≤ a) × (a ≤ finished_length s r sl) = area_other n in
        let is : reference_column p s r sl l k x ≡ (area_start s r sl + place a x) % (slices * s) = column_is false (ne_eqb (reference_lane p r sl l x) l n) in
        omega (arith, is, reaches_zero s r sl two four (place a x) 0 1 (omega arith) (omega arith) (omega (arith, place-lt a x b.0)) t)

    -- the own lane's block is before the previous one, or behind this slice and, going round, before the previous one
    pub ref_own : reference_lane p r sl l x ≡ l
        → (reference_column p s r sl l k x + 2 ≤ sl * s + k)
        ⊎ ((sl * s + s ≤ reference_column p s r sl l k x) × (reference_column p s r sl l k x + 2 ≤ slices * s + sl * s + k))
    ref_own n = go (reaches s r sl two four (place a x) k 2 inside (omega arith) (omega (arith, place-lt a x b.0, b.1)))
      where
        a : ℕ
        a = area s r sl k true

        b : (1 ≤ a) × (a + 1 ≡ finished_length s r sl + k)
        b = area_own

        c : ℕ
        c = (area_start s r sl + place a x) % (slices * s)

        is : reference_column p s r sl l k x ≡ c
        is = column_is true (eq-eqb (reference_lane p r sl l x) l n)

        go : (c + 2 ≤ sl * s + k) ⊎ ((sl * s + s ≤ c) × (c + 2 ≤ slices * s + sl * s + k))
            → (reference_column p s r sl l k x + 2 ≤ sl * s + k)
            ⊎ ((sl * s + s ≤ reference_column p s r sl l k x) × (reference_column p s r sl l k x + 2 ≤ slices * s + sl * s + k))
        go (inl h) = inl (omega (arith, is))
        go (inr h) = inr (omega (arith, is), omega (arith, is))

    pub ref_own_zero : reference_lane p r sl l x ≡ l → eqb r 0 ≡ true → reference_column p s r sl l k x + 2 ≤ sl * s + k
    ref_own_zero n t =
        let a : ℕ = area s r sl k true in
        let b : (1 ≤ a) × (a + 1 ≡ finished_length s r sl + k) = area_own in
        let is : reference_column p s r sl l k x ≡ (area_start s r sl + place a x) % (slices * s) = column_is true (eq-eqb (reference_lane p r sl l x) l n) in
        omega (arith, is, reaches_zero s r sl two four (place a x) k 2 inside (omega arith) (omega (arith, place-lt a x b.0)) t)

    in_lane : sl * s + k < slices * s
    in_lane = omega (arith, segments s r sl two four)

    -- the reference block is not the block itself
    pub ref_not_current : index s (reference_lane p r sl l x) (reference_column p s r sl l k x) ≢ index s l (sl * s + k)
    ref_not_current e = go (ref_own n)
      where
        n : reference_lane p r sl l x ≡ l
        n = same_lane s (reference_lane p r sl l x) l (reference_column p s r sl l k x) (sl * s + k) ref_column in_lane e

        c : reference_column p s r sl l k x ≡ sl * s + k
        c = omega (arith, e, ap (λ (a : ℕ). a * (slices * s)) n)

        go : (reference_column p s r sl l k x + 2 ≤ sl * s + k)
            ⊎ ((sl * s + s ≤ reference_column p s r sl l k x) × (reference_column p s r sl l k x + 2 ≤ slices * s + sl * s + k)) → ⊥
        go (inl h) = omega (arith, c)
        go (inr h) = omega (arith, c)

    -- nor, in the own lane, the previous one
    pub ref_not_previous : reference_lane p r sl l x ≡ l → reference_column p s r sl l k x ≢ previous_column s sl k
    unfolding previous_column
    ref_not_previous n e = go (eqb (sl * s + k) 0) refl (ref_own n) e
      where
        go : (t : Bool) → eqb (sl * s + k) 0 ≡ t
            → (reference_column p s r sl l k x + 2 ≤ sl * s + k)
            ⊎ ((sl * s + s ≤ reference_column p s r sl l k x) × (reference_column p s r sl l k x + 2 ≤ slices * s + sl * s + k))
            → reference_column p s r sl l k x ≡ cond t (slices * s - 1) (sl * s + k - 1) → ⊥
        go true t (inl h) e = omega (arith, eqb-true (sl * s + k) 0 t)
        go true t (inr h) e = omega (arith, eqb-true (sl * s + k) 0 t)
        go false t (inl h) e = omega arith
        go false t (inr h) e = omega arith

    -- nor a block of this slice in another lane
    pub ref_not_beside : (b i : ℕ) → b ≢ l → i < s → index s (reference_lane p r sl l x) (reference_column p s r sl l k x) ≢ index s b (sl * s + i)
    ref_not_beside b i n h e = go (ref_other (λ q. n (sym m ∙ q)))
      where
        i' : sl * s + i < slices * s
        i' = omega (arith, segments s r sl two four)

        m : reference_lane p r sl l x ≡ b
        m = same_lane s (reference_lane p r sl l x) b (reference_column p s r sl l k x) (sl * s + i) ref_column i' e

        c : reference_column p s r sl l k x ≡ sl * s + i
        c = omega (arith, e, ap (λ (a : ℕ). a * (slices * s)) m)

        go : (reference_column p s r sl l k x < sl * s) ⊎ (sl * s + s ≤ reference_column p s r sl l k x) → ⊥
        go (inl g) = omega (arith, c)
        go (inr g) = omega (arith, c)
