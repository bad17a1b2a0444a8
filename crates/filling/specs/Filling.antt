-- Document 01, "The rules of filling": one block, and all of them in the order of RFC 9106. P are the parameters, r is the pass, sl the
-- slice, l the lane, k the block within the segment, w the memory.
use Rattle.std.specs.Prelude.{ℕ, ◌-◌, Bool, cond, ◌&&◌, ◌||◌, List, leb, ltb, eqb, get_or}
use Rattle.block.specs.Block.{compress, xors}
use Rattle.params.specs.Limits.{slices, segment, v10}
use Rattle.params.specs.declared.Params.{Params}
use Rattle.address.specs.Address.{random_word}
use Rattle.position.specs.Position.{first_block, column, index, previous_column, reference}
use Rattle.memory.specs.Loop.{loop}
use Rattle.memory.specs.Memory.{block, put}

-- the block itself, and the previous one
abbrev pub current_index : Params → ℕ → ℕ → ℕ → ℕ
current_index P sl l k = index (segment P) l (column (segment P) sl k)

abbrev pub previous_index : Params → ℕ → ℕ → ℕ → ℕ
previous_index P sl l k = index (segment P) l (previous_column (segment P) sl k)

-- "Random word", with word 0 of the previous block
abbrev pub word_for : Params → ℕ → ℕ → ℕ → ℕ → List ℕ → ℕ
word_for P r sl l k w = random_word P r sl l k (get_or (block (previous_index P sl l k) w) 0 0)

-- the number in memory of the reference block
abbrev pub reference_index : Params → ℕ → ℕ → ℕ → ℕ → List ℕ → ℕ
reference_index P r sl l k w = reference P.lanes (segment P) r sl l k (word_for P r sl l k w)

-- the compression of the previous block and the reference block
unfoldable pub new_block : Params → ℕ → ℕ → ℕ → ℕ → List ℕ → List ℕ
new_block P r sl l k w = compress (block (previous_index P sl l k) w) (block (reference_index P r sl l k w) w)

-- "Store": pass 0 or version 16 overwrites; otherwise XOR with what stood there
abbrev pub overwrites : Params → ℕ → Bool
overwrites P r = eqb r 0 || eqb P.version v10

abbrev pub stored : Params → ℕ → List ℕ → List ℕ → List ℕ
stored P r old new = cond (overwrites P r) new (xors old new)

unfoldable pub stored_block : Params → ℕ → ℕ → ℕ → ℕ → List ℕ → List ℕ
stored_block P r sl l k w = stored P r (block (current_index P sl l k) w) (new_block P r sl l k w)

-- the memory once that block is filled
unfoldable pub fill : Params → ℕ → ℕ → ℕ → ℕ → List ℕ → List ℕ
fill P r sl l k w = put (current_index P sl l k) (stored_block P r sl l k w) w

-- the memory once the blocks of lane l's segment before one, from another on, are filled
abbrev pub fill_blocks : Params → ℕ → ℕ → ℕ → ℕ → ℕ → List ℕ → List ℕ
fill_blocks P r sl l from to w = loop (to - from) from (λ k. fill P r sl l k) w

-- there is such a segment, and these are blocks of it that are filled
abbrev pub in_segment : Params → ℕ → ℕ → ℕ → ℕ → ℕ → Bool
in_segment P r sl l from to =
    ltb r P.passes && ltb sl slices && ltb l P.lanes && leb (first_block r sl) from && leb to (segment P)

-- RFC 9106, 3.2: passes, slices, lanes, blocks
unfoldable pub fill_segment : Params → ℕ → ℕ → ℕ → List ℕ → List ℕ
fill_segment P r sl l w = fill_blocks P r sl l (first_block r sl) (segment P) w

unfoldable pub fill_slice : Params → ℕ → ℕ → List ℕ → List ℕ
fill_slice P r sl w = loop P.lanes 0 (λ l. fill_segment P r sl l) w

unfoldable pub fill_pass : Params → ℕ → List ℕ → List ℕ
fill_pass P r w = loop slices 0 (λ sl. fill_slice P r sl) w

unfoldable pub fill_all : Params → List ℕ → List ℕ
fill_all P w = loop P.passes 0 (λ r. fill_pass P r) w
