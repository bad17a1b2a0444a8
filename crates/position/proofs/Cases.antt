-- Document 01, "Cases": what P1 to P8 say of sizes and positions, one record, one statement. Each line cites a definition that the
-- promises use. Assumes nothing.
use mathlib.Core.Bool.{true, false}
use mathlib.Core.Path.{◌≡◌, refl}
use Prim.Native.Nat.{ℕ, ◌-◌, ◌*◌, ◌^◌}
use native.Mathlib.Nat.{zero-mod}
use native.Mathlib.Omega.{arith}
use borrow.Author.Tests.{eq-eqb}
use Rattle.params.specs.Limits.{slices, segment, segment_length, blocks}
use Rattle.params.specs.declared.Params.{Params}
use Rattle.position.specs.Position.{reference_lane, finished_length, area, place, area_start, reference_column}

pub record PositionCases : Type 0 where
  -- P1: m = 8, p = 1 gives s = 2, m' = 8
  pub p1_segment : (P : Params) → P.memory ≡ 8 → P.lanes ≡ 1 → segment P ≡ 2
  pub p1_blocks : (P : Params) → P.memory ≡ 8 → P.lanes ≡ 1 → blocks P ≡ 8
  -- P2: m = 32, p = 4 has m' = 32
  pub p2_blocks : (P : Params) → P.memory ≡ 32 → P.lanes ≡ 4 → blocks P ≡ 32
  -- P3: m = 47, p = 4 gives m' = 32
  pub p3_blocks : (P : Params) → P.memory ≡ 47 → P.lanes ≡ 4 → blocks P ≡ 32
  -- P4: pass 0, slice 0, block 2 has area 1, and place 0 for any word: it refers to block 0
  pub p4_area : (s : ℕ) → area s 0 0 2 true ≡ 1
  pub p4_place : (x : ℕ) → place 1 x ≡ 0
  pub p4_block : (p s l x : ℕ) → reference_column p s 0 0 l 2 x ≡ 0
  -- P5: s = 2, pass 0, slice 1, another lane: areas 1, 2 for blocks 0, 1
  pub p5_first : area 2 0 1 0 false ≡ 1
  pub p5_second : area 2 0 1 1 false ≡ 2
  -- P6: s = 2, pass 1, own lane: 5, 6, in every slice
  pub p6_first : (sl : ℕ) → area 2 1 sl 0 true ≡ 5
  pub p6_second : (sl : ℕ) → area 2 1 sl 1 true ≡ 6
  -- P7: area 6: J = 0 gives 5; J = 2^31 gives 4; J = 2^32 - 1 gives 0
  pub p7_least : place 6 0 ≡ 5
  pub p7_half : place 6 (2 ^ 31) ≡ 4
  pub p7_most : place 6 (2 ^ 32 - 1) ≡ 0
  -- P8: s = 2, pass 1, place 5: slice 1 gives block 1, slice 3 gives block 5
  pub p8_place : place (area 2 1 1 1 true) 0 ≡ 5
  pub p8_slice_one : reference_column 1 2 1 1 0 1 0 ≡ 1
  pub p8_slice_three : reference_column 1 2 1 3 0 1 0 ≡ 5

one_block : (s : ℕ) → area s 0 0 2 true ≡ 1
unfolding area finished_length
one_block s = omega arith

-- an area of one block has one place
one_place : (x : ℕ) → place 1 x ≡ 0
unfolding place
one_place x = omega arith

from_zero : (s : ℕ) → area_start s 0 0 ≡ 0
unfolding area_start
from_zero s = refl

block-zero : (p s l x : ℕ) → reference_column p s 0 0 l 2 x ≡ 0
unfolding reference_column reference_lane
block-zero p s l x = rw (eq-eqb l l refl, one_block s, one_place x, from_zero s) (zero-mod (slices * s))

pub cases : PositionCases
unfolding segment_length finished_length area place area_start reference_lane reference_column
cases =
    record {
      p1_segment = λ P m p. rw (m, p);
      p1_blocks = λ P m p. rw (m, p);
      p2_blocks = λ P m p. rw (m, p);
      p3_blocks = λ P m p. rw (m, p);
      p4_area = one_block;
      p4_place = one_place;
      p4_block = block-zero;
      p5_first = refl;
      p5_second = refl;
      p6_first = λ sl. refl;
      p6_second = λ sl. refl;
      p7_least = refl;
      p7_half = refl;
      p7_most = refl;
      p8_place = refl;
      p8_slice_one = refl;
      p8_slice_three = refl;
    }
