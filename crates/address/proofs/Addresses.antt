-- Which segments are addressed, which address block is whose, and which of its words: as facts on numbers, which a definition that is
-- wrong in the same way as the code does not meet. Assumes nothing.
use mathlib.Core.Bool.{Bool, true, false, ◌&&◌, ◌||◌, and-eq-true_iff}
use mathlib.Core.Logic.{◌↔◌, ◌⊎◌, inl, inr}
use mathlib.Core.Path.{◌≡◌, refl}
use Prim.Native.Nat.{ℕ, ◌+◌, ◌<◌}
use native.Mathlib.Omega.{arith}
use lib.Dec.{ltb, eqb}
use borrow.Author.Tests.{eqb-true, eqb-false, ltb-true}
use Rattle.params.specs.declared.Params.{Params}
use Rattle.address.specs.Address.{addressed, address_counter, address_place}

-- Argon2i always, Argon2id in pass 0, slices 0 and 1, and no other
abbrev pub Addressed : Params → ℕ → ℕ → Type 0
Addressed P r sl = (P.algorithm ≡ 1) ⊎ ((P.algorithm ≡ 2) × (r ≡ 0) × ((sl ≡ 0) ⊎ (sl ≡ 1)))

two_slices : (sl : ℕ) → sl < 2 → (sl ≡ 0) ⊎ (sl ≡ 1)
two_slices sl h = go (eqb sl 0) refl
  where
    go : (t : Bool) → eqb sl 0 ≡ t → (sl ≡ 0) ⊎ (sl ≡ 1)
    go true e = inl (eqb-true sl 0 e)
    go false e = inr (omega (arith, eqb-false sl 0 e))

pub addressed_exactly : (P : Params) (r sl : ℕ) → (addressed P r sl ≡ true) ↔ Addressed P r sl
addressed_exactly P r sl = (to (eqb P.algorithm 1) refl, from)
  where
    to : (t : Bool) → eqb P.algorithm 1 ≡ t → t || eqb P.algorithm 2 && eqb r 0 && ltb sl 2 ≡ true → Addressed P r sl
    to true e h = inl (eqb-true P.algorithm 1 e)
    to false e h =
        let both = (and-eq-true_iff (eqb P.algorithm 2 && eqb r 0) (ltb sl 2)).0 h in
        let two = (and-eq-true_iff (eqb P.algorithm 2) (eqb r 0)).0 both.0 in
        inr (eqb-true P.algorithm 2 two.0, eqb-true r 0 two.1, two_slices sl (ltb-true sl 2 both.1))

    from : Addressed P r sl → addressed P r sl ≡ true
    from (inl e) = rw e
    from (inr (e, z, inl o)) = rw (e, z, o)
    from (inr (e, z, inr o)) = rw (e, z, o)

-- the first 128 blocks take the words of the first address block, each its own; the next 128 those of the next, in the same order
pub counter_first : (k : ℕ) → k < 128 → address_counter k ≡ 1
counter_first k h = omega arith

pub counter_next : (k : ℕ) → address_counter (k + 128) ≡ address_counter k + 1
counter_next k = omega arith

pub place_first : (k : ℕ) → k < 128 → address_place k ≡ k
place_first k h = omega arith

pub place_next : (k : ℕ) → address_place (k + 128) ≡ address_place k
place_next k = omega arith
