-- The numbers of a reference position, bounded by the lane, once over slice and lane. Assumes nothing.
use mathlib.Core.Bool.{Bool, true, false, cond}
use mathlib.Core.Path.{◌≡◌, refl}
use Prim.Native.Nat.{ℕ, ◌+◌, ◌-◌, ◌*◌, ◌≤◌, ◌<◌}
use native.Mathlib.Nat.{mul-le-mul_right}
use native.Mathlib.Omega.{arith}
use lib.Dec.{eqb, ltb}
use Rattle.params.specs.Limits.{slices}
use Rattle.position.specs.Position.{finished_length, area, place, area_start}

-- the segments to a slice's end lie within the lane
pub slice_le : (s sl : ℕ) → sl < slices → sl * s + s ≤ slices * s
slice_le s sl four = omega (arith, mul-le-mul_right s four)

-- the finished segments are at most a lane without one segment
pub finished_le : (s r sl : ℕ) → sl < slices → finished_length s r sl + s ≤ slices * s
unfolding finished_length
finished_le s r sl four = go (eqb r 0)
  where
    go : (zero : Bool) → cond zero (sl * s) (slices * s - s) + s ≤ slices * s
    go true = slice_le s sl four
    go false = omega arith

-- an area is at most a lane
pub area_le : (s r sl k : ℕ) (own : Bool) → sl < slices → k < s → area s r sl k own ≤ slices * s
unfolding area
area_le s r sl k true four inside = omega (arith, finished_le s r sl four)
area_le s r sl k false four inside = omega (arith, finished_le s r sl four)

pub place-le : (a x : ℕ) → place a x ≤ a
unfolding place
place-le a x = omega arith

pub start_le : (s r sl : ℕ) → sl < slices → area_start s r sl ≤ slices * s
unfolding area_start
start_le s r sl four = go (eqb r 0) refl (ltb (sl + 1) slices) refl
  where
    go : (t : Bool) → eqb r 0 ≡ t → (u : Bool) → ltb (sl + 1) slices ≡ u → area_start s r sl ≤ slices * s
    go true e u h = simp e (omega arith)
    go false e true h = simp (e, h) (omega (arith, slice_le s sl four))
    go false e false h = simp (e, h) (omega arith)
