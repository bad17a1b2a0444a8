-- Argon2, word for word, with the two hashes, the compression and the XOR of blocks as arguments, so that it can be computed with quicker
-- ones. Assumes nothing.
use mathlib.Core.Bool.{cond}
use mathlib.Core.List.{List, [], ◌∷◌, ◌++◌}
use mathlib.Core.Path.{◌≡◌, refl, ap, ◌∙◌, fun_ext}
use Prim.Native.Nat.{ℕ, zero, suc, ◌-◌, ◌*◌}
use lib.ListN.{get_or, replicate}
use Rattle.word.specs.Word.{bytes, words_of}
use Rattle.blake2b.specs.Blake2b.{blake2b}
use Rattle.blake2b_long.specs.Long.{long}
use Rattle.block.specs.Block.{block_bytes, block_words, zeros, xors, compress}
use Rattle.params.specs.Limits.{slices, segment, blocks}
use Rattle.params.specs.declared.Params.{Params}
use Rattle.address.specs.Address.{addressed, beginning, address_counter, address_place, address_block, addressed_word, random_word}
use Rattle.position.specs.Position.{first_block, index, reference}
use Rattle.initial.specs.Initial.{le32, initial_hash_bytes, hash_input, initial_hash, first_words}
use Rattle.memory.specs.Start.{start_lane, start_memory}
use Rattle.memory.specs.Tag.{last_blocks, tag_of}
use Rattle.argon2.specs.Argon2.{filled, argon2}
use Rattle.filling.specs.Filling.{current_index, previous_index, overwrites, new_block, stored_block, fill, fill_segment, fill_slice, fill_pass, fill_all}
use Rattle.memory.specs.Loop.{loop}
use Rattle.memory.specs.Memory.{block, put}
use Rattle.figures_quick.proofs.QuickBlock.{xors_by, compress_quick, xors_quick, compress_quick_lem}
use Rattle.figures_quick.proofs.QuickHash.{blake2b_by, long_by, blake2b_quick, long_quick}
use Rattle.figures_quick.proofs.Xor.{quick}

module _ (compression : List ℕ → List ℕ → List ℕ) where
  unfoldable pub address_of : Params → ℕ → ℕ → ℕ → ℕ → List ℕ
  address_of P r sl l counter =
      compression (beginning [])
      (compression (beginning []) (beginning (r ∷ l ∷ sl ∷ blocks P ∷ P.passes ∷ P.algorithm ∷ counter ∷ [])))

  unfoldable pub word_of : Params → ℕ → ℕ → ℕ → ℕ → ℕ → ℕ
  word_of P r sl l k v = cond (addressed P r sl) (get_or (address_of P r sl l (address_counter k)) (address_place k) 0) v

  unfoldable pub new_of : Params → ℕ → ℕ → ℕ → ℕ → List ℕ → List ℕ
  new_of P r sl l k w =
      let previous = block (previous_index P sl l k) w in
      compression previous (block (reference P.lanes (segment P) r sl l k (word_of P r sl l k (get_or previous 0 0))) w)

module _ (compression xor : List ℕ → List ℕ → List ℕ) where
  unfoldable pub fill_of : Params → ℕ → ℕ → ℕ → ℕ → List ℕ → List ℕ
  fill_of P r sl l k w =
      let new = new_of compression P r sl l k w in
      put (current_index P sl l k) (cond (overwrites P r) new (xor (block (current_index P sl l k) w) new)) w

  unfoldable pub fill_segment_of : Params → ℕ → ℕ → ℕ → List ℕ → List ℕ
  fill_segment_of P r sl l w = loop (segment P - first_block r sl) (first_block r sl) (λ k. fill_of P r sl l k) w

  unfoldable pub fill_slice_of : Params → ℕ → ℕ → List ℕ → List ℕ
  fill_slice_of P r sl w = loop P.lanes 0 (λ l. fill_segment_of P r sl l) w

  unfoldable pub fill_pass_of : Params → ℕ → List ℕ → List ℕ
  fill_pass_of P r w = loop slices 0 (λ sl. fill_slice_of P r sl) w

  unfoldable pub fill_all_of : Params → List ℕ → List ℕ
  fill_all_of P w = loop P.passes 0 (λ r. fill_pass_of P r) w

module _ (variable : ℕ → List ℕ → List ℕ) where
  unfoldable pub first_of : List ℕ → ℕ → ℕ → List ℕ
  first_of h l b = words_of block_words (variable block_bytes (h ++ le32 b ++ le32 l))

  unfoldable pub start_of : List ℕ → ℕ → ℕ → List ℕ → List ℕ
  start_of h p s w = loop p 0 (λ l w. put (index s l 1) (first_of h l 1) (put (index s l 0) (first_of h l 0) w)) w

module _ (xor : List ℕ → List ℕ → List ℕ) where
  unfoldable pub last_of : ℕ → ℕ → List ℕ → List ℕ
  last_of zero s w = zeros
  last_of (suc n) s w = xor (last_of n s w) (block (index s n (slices * s - 1)) w)

module _ (variable : ℕ → List ℕ → List ℕ) (xor : List ℕ → List ℕ → List ℕ) where
  unfoldable pub tag_by : Params → ℕ → List ℕ → List ℕ
  tag_by P n w = variable n (bytes (last_of xor P.lanes (segment P) w))

unfoldable pub argon2_of : (ℕ → List ℕ → List ℕ) → (ℕ → List ℕ → List ℕ) → (List ℕ → List ℕ → List ℕ) → (List ℕ → List ℕ → List ℕ)
    → Params → ℕ → List ℕ → List ℕ → List ℕ → List ℕ → List ℕ
argon2_of hash variable compression xor P tag password salt secret ad =
    tag_by variable xor P tag
    (fill_all_of compression xor P
    (start_of variable (hash initial_hash_bytes (hash_input P tag password salt secret ad)) P.lanes (segment P)
    (replicate (block_words * blocks P) 0)))

fill_of_lem : (P : Params) (r sl l k : ℕ) (w : List ℕ) → fill P r sl l k w ≡ fill_of compress xors P r sl l k w
unfolding fill stored_block new_block random_word addressed_word address_block fill_of new_of word_of address_of
fill_of_lem P r sl l k w = refl

fill_all_of_lem : (P : Params) (w : List ℕ) → fill_all P w ≡ fill_all_of compress xors P w
unfolding fill_all fill_pass fill_slice fill_segment fill_all_of fill_pass_of fill_slice_of fill_segment_of
fill_all_of_lem P w =
    ap (λ (f : ℕ → ℕ → ℕ → ℕ → List ℕ → List ℕ).
    loop P.passes 0
    (λ r. loop slices 0 (λ sl. loop P.lanes 0 (λ l. loop (segment P - first_block r sl) (first_block r sl) (λ k. f r sl l k)))) w)
    (fun_ext (λ r. fun_ext (λ sl. fun_ext (λ l. fun_ext (λ k. fun_ext (λ v. fill_of_lem P r sl l k v))))))

start_of_lem : (h : List ℕ) (p s : ℕ) (w : List ℕ) → start_memory h p s w ≡ start_of long h p s w
unfolding start_memory start_lane first_words start_of first_of
start_of_lem h p s w = refl

last_of_lem : (n s : ℕ) (w : List ℕ) → last_blocks n s w ≡ last_of xors n s w
unfolding last_blocks last_of
last_of_lem zero s w = refl
last_of_lem (suc n) s w = ap (λ (z : List ℕ). xors z (block (index s n (slices * s - 1)) w)) (last_of_lem n s w)

argon2_of_lem : (P : Params) (tag : ℕ) (password salt secret ad : List ℕ)
    → argon2 P tag password salt secret ad ≡ argon2_of blake2b long compress xors P tag password salt secret ad
unfolding argon2 filled tag_of initial_hash argon2_of tag_by
argon2_of_lem P tag password salt secret ad =
    ap (λ (w : List ℕ). long tag (bytes (last_blocks P.lanes (segment P) w)))
    (fill_all_of_lem P _ ∙ ap (fill_all_of compress xors P) (start_of_lem _ P.lanes (segment P) _))
    ∙ ap (λ (z : List ℕ). long tag (bytes z)) (last_of_lem P.lanes (segment P) _)

-- with every XOR by digits of four bits, and each line of a block permuted once
pub argon2_quick : (P : Params) (tag : ℕ) (password salt secret ad : List ℕ)
    → argon2 P tag password salt secret ad ≡ argon2_of (blake2b_by quick) (long_by quick) compress_quick (xors_by quick) P tag password salt secret ad
argon2_quick P tag password salt secret ad =
    argon2_of_lem P tag password salt secret ad
    ∙ ap (λ (f : ℕ → List ℕ → List ℕ). argon2_of f long compress xors P tag password salt secret ad) (fun_ext (λ n. fun_ext (λ m. blake2b_quick n m)))
    ∙ ap (λ (f : ℕ → List ℕ → List ℕ). argon2_of (blake2b_by quick) f compress xors P tag password salt secret ad) (fun_ext (λ n. fun_ext (λ m. long_quick n m)))
    ∙ ap (λ (f : List ℕ → List ℕ → List ℕ). argon2_of (blake2b_by quick) (long_by quick) f xors P tag password salt secret ad)
    (fun_ext (λ a. fun_ext (λ b. compress_quick_lem a b)))
    ∙ ap (λ (f : List ℕ → List ℕ → List ℕ). argon2_of (blake2b_by quick) (long_by quick) compress_quick f P tag password salt secret ad)
    (fun_ext (λ a. fun_ext (λ b. xors_quick a b)))
