-- Two lanes that fill blocks of one slice can be swapped, since neither reads what the other writes. So a slice filled in rounds (block k of
-- every lane, then block k + 1) is the slice filled lane after lane, as RFC 9106 has it. Assumes nothing.
use mathlib.Core.Path.{◌≡◌, refl, sym, ap, ◌∙◌}
use mathlib.Core.Logic.{◌≢◌}
use mathlib.Core.Bool.{Bool, true, false, cond, ◌&&◌}
use lib.Dec.{eqb}
use mathlib.Core.List.{List}
use Prim.Native.Nat.{ℕ, zero, suc, ◌+◌, ◌-◌, ◌*◌, ◌≤◌, ◌<◌}
use native.Mathlib.Omega.{arith}
use lib.ListN.{length}
use Rattle.block.specs.Block.{block_words}
use Rattle.params.specs.Limits.{slices, segment, lane_length, blocks}
use Rattle.params.specs.declared.Params.{Params}
use Rattle.position.specs.Position.{first_block, column, index, previous_column, reference}
use Rattle.position.proofs.Columns.{column-lt, previous_lt}
use Rattle.position.proofs.Referring.{same_lane, ref_not_beside}
use Rattle.filling.specs.Filling.{current_index, stored_block, fill, fill_segment, fill_slice}
use Rattle.memory.specs.Loop.{loop}
use Rattle.memory.specs.Memory.{block, put}
use Rattle.memory.proofs.Lent.{fits_at}
use Rattle.memory.proofs.Loop.{loop_last, loop_last-zero}
use Rattle.filling.proofs.Filling.{stored_length, fill_length}
use Rattle.memory.proofs.Memory.{block-put_other, put_comm}
use Rattle.filling.proofs.Stored.{same_stored}

module _ (P : Params) (one : 1 ≤ P.lanes) (two : 2 ≤ segment P) (r sl : ℕ) (four : sl < slices) where
  -- what is stored does not depend on a block of this slice in another lane
  module _
      (l k : ℕ) (lane : l < P.lanes) (inside : k < segment P) (from : first_block r sl ≤ k)
      (b i : ℕ) (other : b < P.lanes) (inside' : i < segment P) (apart : b ≢ l)
      (y w : List ℕ) (fits : block_words * blocks P ≤ length w) (full : length y ≡ block_words)
    where
      w' : List ℕ
      w' = put (current_index P sl b i) y w

      room : block_words * current_index P sl b i + block_words ≤ length w
      room = fits_at P w fits b (column (segment P) sl i) other (column-lt (segment P) sl i four inside')

      -- a block of the own lane is not it
      own_block : (c : ℕ) → c < lane_length P → block (index (segment P) l c) w' ≡ block (index (segment P) l c) w
      unfolding w'
      own_block c h =
          block-put_other (current_index P sl b i) (index (segment P) l c) y w room full
          (λ e. apart (sym (same_lane (segment P) l b c (column (segment P) sl i) h (column-lt (segment P) sl i four inside') e)))

      stored_apart : stored_block P r sl l k w' ≡ stored_block P r sl l k w
      unfolding w'
      stored_apart =
          same_stored P r sl l k w' w
          (own_block (previous_column (segment P) sl k) (previous_lt (segment P) sl k four inside))
          (λ x.
          block-put_other (current_index P sl b i) (reference P.lanes (segment P) r sl l k x) y w room full
          (ref_not_beside P.lanes (segment P) one two r sl l k x four lane inside from b i apart inside'))
          (λ later. own_block (column (segment P) sl k) (column-lt (segment P) sl k four inside))

  -- two lanes fill in either order
  pub fill_comm : (a i b k : ℕ) → a < P.lanes → b < P.lanes → i < segment P → k < segment P → first_block r sl ≤ i → first_block r sl ≤ k
      → a ≢ b → (w : List ℕ) → block_words * blocks P ≤ length w
      → fill P r sl b k (fill P r sl a i w) ≡ fill P r sl a i (fill P r sl b k w)
  unfolding fill w'
  fill_comm a i b k la lb hi hk fi fk n w fits =
      let ca : ℕ = current_index P sl a i in
      let cb : ℕ = current_index P sl b k in
      let va : List ℕ = stored_block P r sl a i w in
      let vb : List ℕ = stored_block P r sl b k w in
      let fa : length va ≡ block_words = stored_length P r sl a i w in
      let fb : length vb ≡ block_words = stored_length P r sl b k w in
      let ia : column (segment P) sl i < lane_length P = column-lt (segment P) sl i four hi in
      let ib : column (segment P) sl k < lane_length P = column-lt (segment P) sl k four hk in
      ap (λ (v : List ℕ). put cb v (put ca va w)) (stored_apart b k lb hk fk a i la hi n va w fits fa)
      ∙ put_comm ca cb va vb w
      (fits_at P w fits a (column (segment P) sl i) la ia) (fits_at P w fits b (column (segment P) sl k) lb ib)
      fa fb
      (λ e. n (same_lane (segment P) a b (column (segment P) sl i) (column (segment P) sl k) ia ib e))
      ∙ ap (λ (v : List ℕ). put ca v (put cb vb w)) (sym (stored_apart a i la hi fi b k lb hk (λ e. n (sym e)) vb w fits fb))

-- ---- rounds

-- no word of Argon2: `f l k` fills block k of lane l, from block `from` on, and fillings of two lanes can be swapped on `Good` memory
module _ (f : ℕ → ℕ → List ℕ → List ℕ) (from : ℕ) where
  -- block k of the first n lanes
  abbrev round : ℕ → ℕ → List ℕ → List ℕ
  round n k w = loop n 0 (λ l. f l k) w

  -- m blocks of lane l
  abbrev part : ℕ → ℕ → List ℕ → List ℕ
  part m l w = loop m from (λ k. f l k) w

  -- m blocks of the first n lanes, lane after lane
  abbrev parts : ℕ → ℕ → List ℕ → List ℕ
  parts n m w = loop n 0 (λ l. part m l) w

  module _
      (p s : ℕ) (Good : List ℕ → Type 0)
      (kept : (l k : ℕ) (w : List ℕ) → l < p → from ≤ k → k < s → Good w → Good (f l k w))
      (comm : (a i b k : ℕ) → a < p → b < p → from ≤ i → from ≤ k → i < s → k < s → a ≢ b → (w : List ℕ) → Good w → f b k (f a i w) ≡ f a i (f b k w))
    where
      part-last : (m l : ℕ) (w : List ℕ) → part (suc m) l w ≡ f l (from + m) (part m l w)
      part-last m l w = loop_last m from (λ k. f l k) w

      parts_last : (n m : ℕ) (w : List ℕ) → parts (suc n) m w ≡ part m n (parts n m w)
      parts_last n m w = loop_last-zero n (λ l. part m l) w

      round_last : (n k : ℕ) (w : List ℕ) → round (suc n) k w ≡ f n k (round n k w)
      round_last n k w = loop_last-zero n (λ l. f l k) w

      part_good : (m l : ℕ) (w : List ℕ) → l < p → from + m ≤ s → Good w → Good (part m l w)
      part_good zero l w hl hm g = g
      part_good (suc m) l w hl hm g =
          rw (part-last m l w) (kept l (from + m) (part m l w) hl (omega arith) (omega arith) (part_good m l w hl (omega arith) g))

      parts_good : (n m : ℕ) (w : List ℕ) → n ≤ p → from + m ≤ s → Good w → Good (parts n m w)
      parts_good zero m w hn hm g = g
      parts_good (suc n) m w hn hm g =
          rw (parts_last n m w) (part_good m n (parts n m w) (omega arith) hm (parts_good n m w (omega arith) hm g))

      round_good : (n k : ℕ) (w : List ℕ) → n ≤ p → from ≤ k → k < s → Good w → Good (round n k w)
      round_good zero k w hn hf hk g = g
      round_good (suc n) k w hn hf hk g =
          rw (round_last n k w) (kept n k (round n k w) (omega arith) hf hk (round_good n k w (omega arith) hf hk g))

      -- a block of lane a before or after m blocks of lane b
      past_part : (a k b m : ℕ) (w : List ℕ) → a < p → b < p → a ≢ b → from ≤ k → k < s → from + m ≤ s → Good w
          → f a k (part m b w) ≡ part m b (f a k w)
      past_part a k b zero w ha hb n hf hk hm g = refl
      past_part a k b (suc m) w ha hb n hf hk hm g =
          ap (λ (v : List ℕ). f a k v) (part-last m b w)
          ∙ comm b (from + m) a k hb ha (omega arith) hf (omega arith) hk (λ e. n (sym e)) (part m b w) (part_good m b w hb (omega arith) g)
          ∙ ap (λ (v : List ℕ). f b (from + m) v) (past_part a k b m w ha hb n hf hk (omega arith) g)
          ∙ sym (part-last m b (f a k w))

      -- block k of the lanes before b, before or after m blocks of lane b
      round_past : (n k b m : ℕ) (w : List ℕ) → n ≤ b → b < p → from ≤ k → k < s → from + m ≤ s → Good w
          → round n k (part m b w) ≡ part m b (round n k w)
      round_past zero k b m w hn hb hf hk hm g = refl
      round_past (suc n) k b m w hn hb hf hk hm g =
          round_last n k (part m b w)
          ∙ ap (λ (v : List ℕ). f n k v) (round_past n k b m w (omega arith) hb hf hk hm g)
          ∙ past_part n k b m (round n k w) (omega arith) hb (λ e. omega (arith, e)) hf hk hm (round_good n k w (omega arith) hf hk g)
          ∙ ap (λ (v : List ℕ). part m b v) (sym (round_last n k w))

      -- one more round
      round_parts : (n m : ℕ) (w : List ℕ) → n ≤ p → from + suc m ≤ s → Good w → round n (from + m) (parts n m w) ≡ parts n (suc m) w
      round_parts zero m w hn hm g = refl
      round_parts (suc n) m w hn hm g =
          round_last n (from + m) (parts (suc n) m w)
          ∙ ap (λ (v : List ℕ). f n (from + m) (round n (from + m) v)) (parts_last n m w)
          ∙ ap (λ (v : List ℕ). f n (from + m) v)
          (round_past n (from + m) n m (parts n m w) (omega arith) (omega arith) (omega arith) (omega arith) (omega arith)
          (parts_good n m w (omega arith) (omega arith) g)
          ∙ ap (λ (v : List ℕ). part m n v) (round_parts n m w (omega arith) hm g))
          ∙ sym (part-last m n (parts n (suc m) w))
          ∙ sym (parts_last n (suc m) w)

      -- in rounds or lane after lane
      pub rounds_parts : (m : ℕ) (w : List ℕ) → from + m ≤ s → Good w → loop m from (λ k. round p k) w ≡ parts p m w
      rounds_parts zero w hm g = sym (none p)
        where
          none : (n : ℕ) → parts n zero w ≡ w
          none zero = refl
          none (suc n) = parts_last n zero w ∙ none n
      rounds_parts (suc m) w hm g =
          loop_last m from (λ k. round p k) w
          ∙ ap (λ (v : List ℕ). round p (from + m) v) (rounds_parts m w (omega arith) g)
          ∙ round_parts p m w (omega arith) hm g

-- a slice in rounds is the slice lane after lane
pub slice_order : (P : Params) (r sl : ℕ) → 1 ≤ P.lanes → 2 ≤ segment P → sl < slices → (w : List ℕ) → block_words * blocks P ≤ length w
    → loop (segment P - first_block r sl) (first_block r sl) (λ k. loop P.lanes 0 (λ l. fill P r sl l k)) w ≡ fill_slice P r sl w
unfolding fill_slice fill_segment
slice_order P r sl one two four w fits =
    rounds_parts (λ l k. fill P r sl l k) (first_block r sl) P.lanes (segment P) (λ v. block_words * blocks P ≤ length v)
    (λ l k v hl hf hk g. omega (arith, fill_length P two r sl l k four hl hk v g, g))
    (λ a i b k ha hb fi fk hi hk n v g. fill_comm P one two r sl four a i b k ha hb hi hk fi fk n v g)
    (segment P - first_block r sl) w (first_le (eqb r 0 && eqb sl 0)) fits
  where
    first_le : (t : Bool) → cond t 2 0 + (segment P - cond t 2 0) ≤ segment P
    first_le true = omega arith
    first_le false = omega arith
