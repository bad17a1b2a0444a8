-- Document 01, "The rules of filling": where the reference block lies. r is the pass, sl the slice, l the lane, k the block within the
-- segment; p is the number of lanes and s the segment length; x is the random word. As in RFC 9106, a column is a block's place in its lane.
use Rattle.std.specs.Prelude.{ℕ, ◌+◌, ◌-◌, ◌*◌, ◌/◌, ◌%◌, Bool, cond, not, ◌&&◌, List, [], ◌∷◌, ◌++◌, leb, ltb, eqb}
use Rattle.answer.specs.Answers.{Row, ◌when◌}
use Rattle.params.specs.Limits.{slices, cost_rows, segment_length}
use Rattle.position.specs.declared.Reference.{Reference}
use Rattle.word.specs.Word.{half, low_half, high_half}

-- "The job": the first block of a segment that a step fills, 2 in pass 0, slice 0, else 0
abbrev pub first_block : ℕ → ℕ → ℕ
first_block r sl = cond (eqb r 0 && eqb sl 0) 2 0

-- the column of block k of a slice
abbrev pub column : ℕ → ℕ → ℕ → ℕ
column s sl k = sl * s + k

-- a lane with segments of s blocks has block k of this slice
abbrev pub in_lane : ℕ → ℕ → ℕ → Bool
in_lane s sl k = ltb sl slices && ltb k s

-- "The job": the number in memory of a lane's block, where a lane has q blocks: lane times lane length plus column
abbrev pub in_memory : ℕ → ℕ → ℕ → ℕ
in_memory q l c = l * q + c

-- and where a lane has segments of s blocks
abbrev pub index : ℕ → ℕ → ℕ → ℕ
index s l c = in_memory (slices * s) l c

-- "Random word": the column of the block before; before a lane's first block, in a later pass, stands its last
unfoldable pub previous_column : ℕ → ℕ → ℕ → ℕ
previous_column s sl k = cond (eqb (column s sl k) 0) (slices * s - 1) (column s sl k - 1)

-- "Reference lane": the own lane in pass 0, slice 0; else the high 32 bits mod p
unfoldable pub reference_lane : ℕ → ℕ → ℕ → ℕ → ℕ → ℕ
reference_lane p r sl l x = cond (eqb r 0 && eqb sl 0) l (high_half x % p)

-- how many blocks the finished segments have: slice · s in pass 0, q - s later
unfoldable pub finished_length : ℕ → ℕ → ℕ → ℕ
finished_length s r sl = cond (eqb r 0) (sl * s) (slices * s - s)

-- "Area": in the own lane these and the blocks of this segment, but the previous one; in another these, less 1 if k = 0
unfoldable pub area : ℕ → ℕ → ℕ → ℕ → Bool → ℕ
area s r sl k own = cond own (finished_length s r sl + k - 1) (finished_length s r sl - cond (eqb k 0) 1 0)

-- with J the low 32 bits, x = floor(J² / 2^32), place = area - 1 - floor(area · x / 2^32)
unfoldable pub place : ℕ → ℕ → ℕ
place a x = a - 1 - a * (low_half x * low_half x / half) / half

-- (slice + 1) · s in later passes with slice under 3, else 0
unfoldable pub area_start : ℕ → ℕ → ℕ → ℕ
area_start s r sl = cond (not (eqb r 0) && ltb (sl + 1) slices) ((sl + 1) * s) 0

-- the block is (start + place) mod q
unfoldable pub reference_column : ℕ → ℕ → ℕ → ℕ → ℕ → ℕ → ℕ → ℕ
reference_column p s r sl l k x =
    (area_start s r sl + place (area s r sl k (eqb (reference_lane p r sl l x) l)) x) % (slices * s)

-- the number in memory of the reference block
abbrev pub reference : ℕ → ℕ → ℕ → ℕ → ℕ → ℕ → ℕ → ℕ
reference p s r sl l k x = index s (reference_lane p r sl l x) (reference_column p s r sl l k x)

-- pass, slice, lane and block are those of a block that a step fills
unfoldable pub fills : ℕ → ℕ → ℕ → ℕ → ℕ → ℕ → ℕ → Bool
fills p s t r sl l k = ltb r t && ltb sl slices && ltb l p && leb (first_block r sl) k && ltb k s

-- 17: position not consistent
abbrev pub position_invalid : ℕ → ℕ → ℕ → ℕ → ℕ → ℕ → ℕ → Row
position_invalid p s t r sl l k = 17 when not (fills p s t r sl l k)

-- the reference position gives 3 to 7 for bad parameters in that order, then 17
abbrev pub position_rows : ℕ → ℕ → ℕ → ℕ → ℕ → ℕ → ℕ → List Row
position_rows p m t r sl l k = cost_rows p m t ++ (position_invalid p (segment_length m p) t r sl l k ∷ [])

-- refused, zeros
abbrev pub no_reference : Reference
no_reference = record { lane = record { 0 = 0 }; block = record { 0 = 0 } }
