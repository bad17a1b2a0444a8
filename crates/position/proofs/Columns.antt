-- The columns of a lane: a block that the lane has and the one before it lie in the lane and follow each other, and what the promises of
-- `column` and `previous_column` then come to. For the proofs of the code, and for those of the crates above. Assumes nothing.
use mathlib.Core.Bool.{Bool, true, false, cond, and-eq-true_iff}
use mathlib.Core.Logic.{◌≢◌}
use mathlib.Core.Path.{◌≡◌, refl, sym, ap, ◌∙◌}
use Prim.Native.Nat.{ℕ, ◌+◌, ◌-◌, ◌*◌, ◌%◌, ◌<◌}
use native.Mathlib.Nat.{mod_self, mod-eq_of_lt}
use native.Mathlib.Omega.{arith}
use lib.Dec.{ltb, eqb}
use borrow.Author.Tests.{eqb-true, eqb-false, ltb-true, lt-ltb}
use Rattle.params.specs.Limits.{slices, segment}
use Rattle.params.specs.declared.Params.{Params}
use Rattle.position.specs.Position.{column, in_lane, index, previous_column}
use Rattle.position.specs.Promises.{ColumnPromise, PreviousColumnPromise, IndexPromise}
use Rattle.position.specs.declared.BlockNumber.{BlockNumber}
use Rattle.position.specs.declared.LaneNumber.{LaneNumber}
use Rattle.position.proofs.Lane.{slice_le}

-- the test as facts, both ways
pub in_lane_facts : (s sl k : ℕ) → in_lane s sl k ≡ true → (sl < slices) × (k < s)
in_lane_facts s sl k e =
    let both = (and-eq-true_iff (ltb sl slices) (ltb k s)).0 e in
    (ltb-true sl slices both.0, ltb-true k s both.1)

module _ (s sl k : ℕ) (four : sl < slices) (inside : k < s) where
  pub in_lane_lem : in_lane s sl k ≡ true
  in_lane_lem = rw (lt-ltb sl slices four, lt-ltb k s inside)

  pub column-lt : column s sl k < slices * s
  column-lt = omega (arith, slice_le s sl four)

  pub previous_lt : previous_column s sl k < slices * s
  unfolding previous_column
  previous_lt = go (eqb (column s sl k) 0)
    where
      go : (t : Bool) → cond t (slices * s - 1) (column s sl k - 1) < slices * s
      go true = omega arith
      go false = omega (arith, column-lt)

  -- after the previous column comes the column itself, going round
  pub previous_next : (previous_column s sl k + 1) % (slices * s) ≡ column s sl k
  unfolding previous_column
  previous_next = go (eqb (column s sl k) 0) refl
    where
      go : (t : Bool) → eqb (column s sl k) 0 ≡ t → (previous_column s sl k + 1) % (slices * s) ≡ column s sl k
      go true e =
          let z : column s sl k ≡ 0 = eqb-true (column s sl k) 0 e in
          let last : previous_column s sl k + 1 ≡ slices * s = rw e (omega arith) in
          ap (λ (n : ℕ). n % (slices * s)) last ∙ mod_self (slices * s) ∙ sym z
      go false e =
          let n : column s sl k ≢ 0 = eqb-false (column s sl k) 0 e in
          let next : previous_column s sl k + 1 ≡ column s sl k = rw e (omega arith) in
          ap (λ (n : ℕ). n % (slices * s)) next ∙ mod-eq_of_lt column-lt

module _ {P : Params} {sl k : ℕ} {c : BlockNumber} (four : sl < slices) (inside : k < segment P) where
  pub column_is : ColumnPromise P sl k c → c.0 ≡ column (segment P) sl k
  column_is p = p.result ∙ rw (in_lane_lem (segment P) sl k four inside)

  pub previous_column_is : PreviousColumnPromise P sl k c → c.0 ≡ previous_column (segment P) sl k
  previous_column_is p = p.result ∙ rw (in_lane_lem (segment P) sl k four inside)

  -- and the numbers in memory of the two
  module _ {l : LaneNumber} {n : ℕ} (i : IndexPromise P l c n) where
    pub current_index_lem : ColumnPromise P sl k c → n ≡ index (segment P) l.0 (column (segment P) sl k)
    current_index_lem p = i.result ∙ ap (λ (a : ℕ). index (segment P) l.0 a) (column_is p)

    pub previous_index_lem : PreviousColumnPromise P sl k c → n ≡ index (segment P) l.0 (previous_column (segment P) sl k)
    previous_index_lem p = i.result ∙ ap (λ (a : ℕ). index (segment P) l.0 a) (previous_column_is p)
