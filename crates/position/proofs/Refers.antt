-- `refers`: of where a reference lies, the half that needs no run, for every pass, slice, lane and block that a step fills and any random
-- word. Assumes nothing.
use mathlib.Core.Logic.{◌≢◌}
use mathlib.Core.Path.{◌≡◌, ap}
use Prim.Native.Nat.{ℕ, ◌*◌, ◌≤◌, ◌<◌}
use native.Mathlib.Omega.{arith}
use Rattle.params.specs.Limits.{slices}
use Rattle.position.specs.Position.{column, index, previous_column, reference_lane, reference_column, reference}
use Rattle.position.proofs.Accepted.{Filled}
use Rattle.position.proofs.Columns.{previous_lt}
use Rattle.position.proofs.Referring.{same_lane, index-lt, ref_lane, ref_column, ref_not_current, ref_not_previous, ref_not_beside}

pub record Refers (p s r sl l k x : ℕ) : Type 0 where
  -- it is a block of the memory
  pub in_memory_lem : reference p s r sl l k x < p * (slices * s)
  -- not the current block
  pub not_current : reference p s r sl l k x ≢ index s l (column s sl k)
  -- not the previous one
  pub not_previous : reference p s r sl l k x ≢ index s l (previous_column s sl k)
  -- not in another lane's segment of the current slice
  pub not_beside : (b i : ℕ) → b ≢ l → i < s → reference p s r sl l k x ≢ index s b (column s sl i)

module _ {p s t r sl l k : ℕ} (two : 2 ≤ s) (f : Filled p s t r sl l k) (x : ℕ) where
  from_one : 1 ≤ p
  from_one = omega arith

  pub refers : Refers p s r sl l k x
  refers =
      let c : reference_column p s r sl l k x < slices * s = ref_column p s from_one two r sl l k x f.slice f.lane f.inside f.from in
      record {
        in_memory_lem = index-lt p s (reference_lane p r sl l x) (reference_column p s r sl l k x)
            (ref_lane p s from_one two r sl l k x f.slice f.lane f.inside f.from) c;
        not_current = ref_not_current p s from_one two r sl l k x f.slice f.lane f.inside f.from;
        not_previous = λ e.
            let n : reference_lane p r sl l x ≡ l
            = same_lane s (reference_lane p r sl l x) l (reference_column p s r sl l k x) (previous_column s sl k) c
            (previous_lt s sl k f.slice f.inside) e in
            ref_not_previous p s from_one two r sl l k x f.slice f.lane f.inside f.from n
            (omega (arith, e, ap (λ (a : ℕ). a * (slices * s)) n));
        not_beside = ref_not_beside p s from_one two r sl l k x f.slice f.lane f.inside f.from;
      }
