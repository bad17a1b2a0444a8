-- The bytes of words and the words of bytes: how many there are, each one, and one more. Assumes nothing.
use Prim.Native.Nat.{ℕ, suc, ◌+◌, ◌-◌, ◌*◌, ◌/◌, ◌%◌, ◌<◌, ◌≤◌}
use mathlib.Core.List.{List, [], ◌∷◌, ◌++◌, append_assoc, append-nil}
use mathlib.Core.Path.{◌≡◌, refl, sym, ap, ◌∙◌}
use native.Mathlib.Decide.{dec_lt}
use native.Mathlib.Nat.{zero-add}
use native.Mathlib.Numerals.{add-one}
use native.Mathlib.Omega.{arith}
use lib.ListN.{length, take, drop, get_or, set, length-append, get_or-append, drop_of_length-le}
use lib.Seq.{get_or-append-add, paste-suc, take_all, take-suc}
use Rattle.word.specs.Word.{word_bytes, to_le, bytes, words_of}
use Rattle.word.proofs.Table.{length-table}

pub length-bytes : (h : List ℕ) → length (bytes h) ≡ word_bytes * length h
length-bytes [] = refl
length-bytes (w ∷ ws) = omega (arith, length-bytes ws, length-append (to_le word_bytes w) (bytes ws))

pub length-words_of : (n : ℕ) (b : List ℕ) → length (words_of n b) ≡ n
unfolding words_of
length-words_of n b = length-table _ n

-- ---- byte i is byte i % 8 of word i / 8
pub bytes_at : (h : List ℕ) (i : ℕ) → i < word_bytes * length h → get_or (bytes h) i 0 ≡ get_or (to_le word_bytes (get_or h (i / word_bytes) 0)) (i % word_bytes) 0
bytes_at [] i l = absurd (omega arith)
bytes_at (w ∷ ws) i l =
    elim (dec_lt i word_bytes) [
      | yes s ↦ near s
      | no b ↦ far b (bytes_at ws (i - word_bytes))
    ]
  where
    near : i < word_bytes → get_or (bytes (w ∷ ws)) i 0 ≡ get_or (to_le word_bytes (get_or (w ∷ ws) (i / word_bytes) 0)) (i % word_bytes) 0
    near s =
        let q : i / word_bytes ≡ 0 = omega arith in
        let r : i % word_bytes ≡ i = omega arith in
        get_or-append (to_le word_bytes w) (bytes ws) 0 i s ∙ rw (q, r)

    far : (i < word_bytes → ⊥)
        → (i - word_bytes < word_bytes * length ws
        → get_or (bytes ws) (i - word_bytes) 0 ≡ get_or (to_le word_bytes (get_or ws ((i - word_bytes) / word_bytes) 0)) ((i - word_bytes) % word_bytes) 0)
        → get_or (bytes (w ∷ ws)) i 0 ≡ get_or (to_le word_bytes (get_or (w ∷ ws) (i / word_bytes) 0)) (i % word_bytes) 0
    far b rec =
        let j = i - word_bytes in
        let e : i ≡ word_bytes + j = omega arith in
        let q : i / word_bytes ≡ suc (j / word_bytes) = omega arith in
        let r : i % word_bytes ≡ j % word_bytes = omega arith in
        ap (λ (k : ℕ). get_or (bytes (w ∷ ws)) k 0) e
        ∙ get_or-append-add (to_le word_bytes w) (bytes ws) j 0
        ∙ rec (omega arith)
        ∙ rw (q, r)

-- ---- the bytes of words are those of each
pub bytes-append : (a b : List ℕ) → bytes (a ++ b) ≡ bytes a ++ bytes b
bytes-append [] b = refl
bytes-append (x ∷ a) b =
    ap (λ (l : List ℕ). to_le word_bytes x ++ l) (bytes-append a b) ∙ sym (append_assoc (to_le word_bytes x) (bytes a) (bytes b))

-- one word more
pub bytes_more : (w : List ℕ) (n : ℕ) → n < length w → bytes (take (n + 1) w) ≡ bytes (take n w) ++ to_le word_bytes (get_or w n 0)
bytes_more w n h =
    ap (λ (m : ℕ). bytes (take m w)) (add-one n)
    ∙ ap bytes (take-suc w n 0 h)
    ∙ bytes-append (take n w) (get_or w n 0 ∷ [])
    ∙ ap (λ (l : List ℕ). bytes (take n w) ++ l) (append-nil (to_le word_bytes (get_or w n 0)))

-- ---- a loop that stores the front of b in o, byte after byte
pub stored_more : (b o : List ℕ) (i : ℕ) {v : ℕ} {o' : List ℕ} → i < length o → i < length b → v ≡ get_or b i 0 → o' ≡ take i b ++ drop i o
    → set o' i v ≡ take (i + 1) b ++ drop (i + 1) o
stored_more b o i {v} ho hb e e' =
    rw (e', e, add-one)
    (ap (λ (k : ℕ). set (take i b ++ drop k o) k (get_or b i 0)) (sym (zero-add i)) ∙ paste-suc o 0 b i 0 (omega arith) hb ∙ rw zero-add)

-- .. until the store is full, or the bytes are out
pub store_full : (b o : List ℕ) (i : ℕ) → i ≡ length o → i ≤ length b → take i b ++ drop i o ≡ take (length o) b ++ drop (length b) o
store_full b o i e h =
    ap (λ (l : List ℕ). take i b ++ l) (drop_of_length-le o {i = i} (omega arith) ∙ sym (drop_of_length-le o {i = length b} (omega arith)))
    ∙ ap (λ (k : ℕ). take k b ++ drop (length b) o) e

pub store_out : (b o : List ℕ) (i : ℕ) → i ≡ length b → i ≤ length o → take i b ++ drop i o ≡ take (length o) b ++ drop (length b) o
store_out b o i e h =
    ap (λ (l : List ℕ). l ++ drop i o) (take_all i b (omega arith) ∙ sym (take_all (length o) b (omega arith)))
    ∙ ap (λ (k : ℕ). take (length o) b ++ drop k o) e

-- words whose bytes fill the store
pub store_whole : (w o : List ℕ) {o' : List ℕ} → word_bytes * length w ≡ length o → o' ≡ take (length o) (bytes w) ++ drop (word_bytes * length w) o → o' ≡ bytes w
store_whole w o l e =
    e
    ∙ ap (λ (r : List ℕ). take (length o) (bytes w) ++ r) (drop_of_length-le o {i = word_bytes * length w} (omega arith))
    ∙ append-nil (take (length o) (bytes w))
    ∙ take_all (length o) (bytes w) (omega (arith, length-bytes w))
