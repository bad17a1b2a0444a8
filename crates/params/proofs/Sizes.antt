-- Bounds of the sizes, over any memory cost m and any number of lanes p. Assumes nothing.
use Prim.Native.Nat.{ℕ, ◌≤◌, ◌*◌, ◌/◌}
use native.Mathlib.Omega.{arith}
use native.Mathlib.Nat.{div-le_self, div-div-eq-div-mul, mul-div-le, mul_assoc, mul_comm}
use Rattle.params.specs.Limits.{segment_length, slices}

-- q = 4s is at most m
pub lane_le : (m p : ℕ) → slices * segment_length m p ≤ m
unfolding segment_length
lane_le m p = omega (arith, div-div-eq-div-mul m slices p, div-le_self (m / slices) p)

-- m' = pq is at most m
pub blocks_le : (m p : ℕ) → p * (slices * segment_length m p) ≤ m
unfolding segment_length
blocks_le m p = rw (← mul_assoc p slices (m / (slices * p)), mul_comm p slices) (mul-div-le m (slices * p))
