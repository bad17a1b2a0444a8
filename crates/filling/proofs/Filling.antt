-- Filling a block writes that block alone: the memory stays as long, what the block then holds, and that every other word is as it was. Assumes nothing.
use mathlib.Core.Path.{◌≡◌, sym, ap, ◌∙◌}
use mathlib.Core.Logic.{◌≢◌}
use mathlib.Core.Bool.{Bool, true, false, cond}
use mathlib.Core.List.{List}
use Prim.Native.Nat.{ℕ, ◌+◌, ◌-◌, ◌*◌, ◌/◌, ◌≤◌, ◌<◌}
use native.Mathlib.Omega.{arith}
use lib.ListN.{length, get_or}
use Rattle.block.specs.Block.{block_words, xors, compress}
use Rattle.block.proofs.Laws.{length-xors, length-compress}
use Rattle.params.specs.Limits.{slices, segment, blocks}
use Rattle.params.specs.declared.Params.{Params}
use Rattle.address.specs.Address.{addressed, address_block, address_counter, address_place, addressed_word, random_word}
use Rattle.position.specs.Position.{column, reference}
use Rattle.position.proofs.Columns.{column-lt}
use Rattle.filling.specs.Filling.{current_index, previous_index, word_for, reference_index, new_block, overwrites, stored, stored_block, fill, fill_blocks}
use Rattle.memory.specs.Loop.{loop}
use Rattle.memory.specs.Memory.{block, put}
use Rattle.memory.proofs.Lent.{fits_at}
use Rattle.memory.proofs.Memory.{length-put, block-put_same, put_outside}

-- a block is stored whole
pub stored_length : (P : Params) (r sl l k : ℕ) (w : List ℕ) → length (stored_block P r sl l k w) ≡ block_words
unfolding stored_block new_block
stored_length P r sl l k w = go (overwrites P r)
  where
    go : (t : Bool)
        → length (cond t (new_block P r sl l k w) (xors (block (current_index P sl l k) w) (new_block P r sl l k w))) ≡ block_words
    go true = length-compress (block (previous_index P sl l k) w) (block (reference_index P r sl l k w) w)
    go false = length-xors (block (current_index P sl l k) w) (new_block P r sl l k w)

module _
    (P : Params) (two : 2 ≤ segment P) (r sl l k : ℕ) (four : sl < slices) (lane : l < P.lanes) (inside : k < segment P)
    (w : List ℕ) (fits : block_words * blocks P ≤ length w)
  where
    -- the block lies in the memory
    pub room : block_words * current_index P sl l k + block_words ≤ length w
    room = fits_at P w fits l (column (segment P) sl k) lane (column-lt (segment P) sl k four inside)

    -- the memory stays as long
    pub fill_length : length (fill P r sl l k w) ≡ length w
    unfolding fill
    fill_length = length-put (current_index P sl l k) (stored_block P r sl l k w) w room (stored_length P r sl l k w)

    -- the block is what is stored
    pub fill_block : block (current_index P sl l k) (fill P r sl l k w) ≡ stored_block P r sl l k w
    unfolding fill
    fill_block = block-put_same (current_index P sl l k) (stored_block P r sl l k w) w room (stored_length P r sl l k w)

    -- a word outside of the block is as it was
    pub fill_outside : (i : ℕ) → i / block_words ≢ current_index P sl l k → get_or (fill P r sl l k w) i 0 ≡ get_or w i 0
    unfolding fill
    fill_outside i n = put_outside (current_index P sl l k) (stored_block P r sl l k w) w room (stored_length P r sl l k w) i n

-- the random word, where an address block gives it, and where the previous block does
pub word_addressed : (P : Params) (r sl l k : ℕ) (w : List ℕ) → addressed P r sl ≡ true
    → word_for P r sl l k w ≡ get_or (address_block P r sl l (address_counter k)) (address_place k) 0
unfolding random_word addressed_word
word_addressed P r sl l k w e = rw e

pub word_dependent : (P : Params) (r sl l k : ℕ) (w : List ℕ) → addressed P r sl ≡ false
    → word_for P r sl l k w ≡ get_or (block (previous_index P sl l k) w) 0 0
unfolding random_word
word_dependent P r sl l k w e = rw e

-- and as a step finds it
pub from_addresses : (P : Params) (r sl l k : ℕ) (w : List ℕ) {x : ℕ} → addressed P r sl ≡ true → x ≡ addressed_word P r sl l k
    → x ≡ word_for P r sl l k w
unfolding addressed_word
from_addresses P r sl l k w e p = p ∙ sym (word_addressed P r sl l k w e)

-- the memory once a block is filled, made from its parts
module _ (P : Params) (r sl l k : ℕ) (w : List ℕ) (x before from at : ℕ) (previous referred new : List ℕ) where
  pub fill_parts : x ≡ word_for P r sl l k w → before ≡ previous_index P sl l k → from ≡ reference P.lanes (segment P) r sl l k x
      → at ≡ current_index P sl l k → previous ≡ block before w → referred ≡ block from w → new ≡ compress previous referred
      → put at (stored P r (block at w) new) w ≡ fill P r sl l k w
  unfolding fill stored_block new_block
  fill_parts ex eb ef ea ep er en = rw (en, ep, er, ea, eb, ef, ex)

-- one block of a segment
pub one_block : (P : Params) (r sl l k : ℕ) (w : List ℕ) → fill_blocks P r sl l k (k + 1) w ≡ fill P r sl l k w
one_block P r sl l k w =
    let one : k + 1 - k ≡ 1 = omega arith in
    ap (λ (n : ℕ). loop n k (λ i. fill P r sl l i) w) one
