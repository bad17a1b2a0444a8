-- What is stored, by version and pass. It is made of the previous block, the reference block and, in later passes alone, what stood there;
-- and filling leaves every other block as it was. Assumes nothing.
use mathlib.Core.Path.{◌≡◌, refl, sym, ap, ◌∙◌}
use mathlib.Core.Logic.{◌≢◌}
use mathlib.Core.Bool.{Bool, true, false, cond, ◌||◌, true≢false}
use mathlib.Core.List.{List}
use Prim.Native.Nat.{ℕ, ◌*◌, ◌≤◌, ◌<◌}
use native.Mathlib.Omega.{arith}
use lib.Dec.{eqb}
use lib.ListN.{length, get_or}
use borrow.Author.Tests.{eq-eqb, ne_eqb}
use Rattle.block.specs.Block.{block_words, compress, xors}
use Rattle.params.specs.Limits.{slices, segment, blocks}
use Rattle.params.specs.declared.Params.{Params}
use Rattle.address.specs.Address.{random_word}
use Rattle.position.specs.Position.{reference}
use Rattle.filling.specs.Filling.{current_index, previous_index, word_for, reference_index, new_block, overwrites, stored, stored_block, fill}
use Rattle.memory.specs.Memory.{block}
use Rattle.filling.proofs.Filling.{room, stored_length}
use Rattle.memory.proofs.Memory.{block-put_other}

-- pass 0 overwrites, whatever the version
pub overwrites_zero : (P : Params) → overwrites P 0 ≡ true
overwrites_zero P = refl

-- what is stored: the new block in pass 0; in version 19, every pass from 1 on, its XOR with what stood there; in version 16 the new block
pub stored_zero : (P : Params) (old new : List ℕ) → stored P 0 old new ≡ new
stored_zero P old new = refl

pub stored_19 : (P : Params) (r : ℕ) (old new : List ℕ) → P.version ≡ 19 → 1 ≤ r → stored P r old new ≡ xors old new
stored_19 P r old new e h =
    ap (λ (v : ℕ). cond (eqb r 0 || eqb v 16) new (xors old new)) e
    ∙ ap (λ (t : Bool). cond (t || eqb 19 16) new (xors old new)) (ne_eqb r 0 (λ z. omega (arith, z)))

pub stored_16 : (P : Params) (r : ℕ) (old new : List ℕ) → P.version ≡ 16 → stored P r old new ≡ new
stored_16 P r old new e =
    ap (λ (t : Bool). cond (eqb r 0 || t) new (xors old new)) (eq-eqb P.version 16 e) ∙ go (eqb r 0)
  where
    go : (t : Bool) → cond (t || true) new (xors old new) ≡ new
    go true = refl
    go false = refl

-- two memories that agree on the blocks that are read, and in later passes on what stood there
module _
    (P : Params) (r sl l k : ℕ) (v w : List ℕ)
    (previous : block (previous_index P sl l k) v ≡ block (previous_index P sl l k) w)
    (referred : (x : ℕ) → block (reference P.lanes (segment P) r sl l k x) v ≡ block (reference P.lanes (segment P) r sl l k x) w)
  where
    pub same_new : new_block P r sl l k v ≡ new_block P r sl l k w
    unfolding new_block
    same_new =
        ap (λ (b : List ℕ). compress b (block (reference_index P r sl l k v) v)) previous
        ∙ ap (λ (b : List ℕ). compress (block (previous_index P sl l k) w) b) (referred (word_for P r sl l k v))
        ∙ ap
        (λ (b : List ℕ).
        compress (block (previous_index P sl l k) w) (block (reference P.lanes (segment P) r sl l k (random_word P r sl l k (get_or b 0 0))) w))
        previous

    pub same_stored : (r ≢ 0 → block (current_index P sl l k) v ≡ block (current_index P sl l k) w) → stored_block P r sl l k v ≡ stored_block P r sl l k w
    unfolding stored_block
    same_stored stood =
        ap (λ (b : List ℕ). cond (overwrites P r) b (xors (block (current_index P sl l k) v) b)) same_new
        ∙ go (overwrites P r) refl
      where
        go : (t : Bool) → overwrites P r ≡ t
            → cond t (new_block P r sl l k w) (xors (block (current_index P sl l k) v) (new_block P r sl l k w))
            ≡ cond t (new_block P r sl l k w) (xors (block (current_index P sl l k) w) (new_block P r sl l k w))
        go true e = refl
        go false e =
            ap (λ (b : List ℕ). xors b (new_block P r sl l k w))
            (stood (λ z. true≢false (sym (overwrites_zero P) ∙ ap (overwrites P) (sym z) ∙ e)))

-- every other block is as it was
pub fill_other : (P : Params) → 2 ≤ segment P → (r sl l k : ℕ) → sl < slices → l < P.lanes → k < segment P
    → (w : List ℕ) → block_words * blocks P ≤ length w → (b : ℕ) → b ≢ current_index P sl l k → block b (fill P r sl l k w) ≡ block b w
unfolding fill
fill_other P two r sl l k four lane inside w fits b n =
    block-put_other (current_index P sl l k) b (stored_block P r sl l k w) w (room P two r sl l k four lane inside w fits) (stored_length P r sl l k w) n
