-- The state after a message's bytes is the RFC's: `streamed`. However the message is cut, the state is the same: `cut`.
-- `state_of` says what the engine holds after any message, for any h₀, and a byte more is shown to keep it so. Assumes nothing.
use Prim.Native.Nat.{ℕ, zero, suc, ◌+◌, ◌-◌, ◌*◌, ◌/◌, ◌<◌, ◌≤◌}
use mathlib.Core.Bool.{true, false}
use mathlib.Core.List.{List, [], ◌∷◌, ◌++◌, append_assoc, append-nil}
use mathlib.Core.Path.{◌≡◌, refl, sym, ap, ◌∙◌}
use native.Mathlib.Decide.{dec_lt}
use native.Mathlib.Omega.{arith}
use borrow.Author.Tests.{lt-ltb, le-ltb}
use lib.ListN.{set, drop, length, replicate, length-append, length-drop}
use lib.Seq.{take_all, take-append-le, drop-append-le, drop_at, set-append_seam}
use Rattle.word.specs.Word.{bytes}
use Rattle.blake2b_compression.specs.Compression.{block_bytes, F, words, offset, count_of}
use Rattle.blake2b_compression.proofs.Counting.{seen_low, seen_high, F_seen}
use Rattle.blake2b_compression.specs.declared.Count.{Count}
use Rattle.blake2b.specs.declared.Engine.{Engine}
use Rattle.blake2b.specs.Blake2b.{pad, block, chain, before, final}
use Rattle.blake2b.specs.Stream.{count, fresh, flushed, put, feed_byte, feed_all, sealed}
use Rattle.blake2b.proofs.Feeding.{same_state}

-- ---- blocks: a longer message has the same ones, as far as the shorter is full
block-append : (i : ℕ) (msg more : List ℕ) → block_bytes * i + block_bytes ≤ length msg → block i (msg ++ more) ≡ block i msg
unfolding block
block-append i msg more h =
    rw (drop-append-le (block_bytes * i) msg more (omega arith), take-append-le block_bytes (drop (block_bytes * i) msg) more (simp length-drop (omega arith)))

chain-append : (h₀ : List ℕ) (i : ℕ) (msg more : List ℕ) → block_bytes * i ≤ length msg → chain h₀ i (msg ++ more) ≡ chain h₀ i msg
unfolding chain
chain-append h₀ zero msg more h = refl
chain-append h₀ (suc i) msg more h =
    rw (chain-append h₀ i msg more (omega arith), block-append i msg more (omega arith))

-- a byte after a part of a block
pad_more : (r : List ℕ) (b : ℕ) → length r < block_bytes → set (pad r) (length r) b ≡ pad (r ++ b ∷ [])
unfolding pad
pad_more r b h =
    let e : block_bytes - length r ≡ suc (block_bytes - length (r ++ b ∷ [])) = omega (arith, length-append r (b ∷ [])) in
    rw e (set-append_seam r 0 (replicate (block_bytes - length (r ++ b ∷ [])) 0) b ∙ sym (append_assoc r (b ∷ []) (replicate (block_bytes - length (r ++ b ∷ [])) 0)))

block_more : (i : ℕ) (msg : List ℕ) (b : ℕ) → block_bytes * i ≤ length msg → length msg - block_bytes * i < block_bytes
    → set (block i msg) (length msg - block_bytes * i) b ≡ block i (msg ++ b ∷ [])
unfolding block
block_more i msg b h k =
    let r = drop (block_bytes * i) msg in
    let n : length r ≡ length msg - block_bytes * i = length-drop (block_bytes * i) msg in
    rw (drop-append-le (block_bytes * i) msg (b ∷ []) h, take_all block_bytes r (omega arith), take_all block_bytes (r ++ b ∷ []) (omega (arith, length-append r (b ∷ []))), ← n)
    (pad_more r b (omega arith))

-- a byte after a full block
block_next : (i : ℕ) (msg : List ℕ) (b : ℕ) → length msg ≡ block_bytes * i → set (replicate block_bytes 0) 0 b ≡ block i (msg ++ b ∷ [])
unfolding block pad
block_next i msg b h = rw (drop_at msg (b ∷ []) (block_bytes * i) h)

-- ---- the state after a message that begins at h₀
unfoldable pub state_of : List ℕ → List ℕ → Engine
state_of h₀ msg =
    record {
      h = chain h₀ (before msg) msg;
      buffer = block (before msg) msg;
      filled = length msg - block_bytes * before msg;
      count = count_of (block_bytes * before msg);
    }

nothing : (h₀ : List ℕ) → fresh h₀ ≡ state_of h₀ []
unfolding fresh state_of count_of chain before block pad
nothing h₀ = refl

-- of a count, two words are kept
two_words : {l l' g g' : ℕ} → l ≡ l' → g ≡ g' → ◌≡◌ {A = Count} (record { low = l; high = g }) (record { low = l'; high = g' })
two_words p q = λ i. record { low = p i; high = q i }

counted_block : (t : ℕ) → count_of (offset (count_of t) + block_bytes) ≡ count_of (t + block_bytes)
unfolding count_of offset
counted_block t = two_words (seen_low t block_bytes) (seen_high t block_bytes)

-- a byte more: there is room, or the block was full
module _ (h₀ msg : List ℕ) (b : ℕ) where
  room : length msg - block_bytes * before msg < block_bytes → put (state_of h₀ msg) b ≡ state_of h₀ (msg ++ b ∷ [])
  unfolding put state_of before
  room h =
      let l = length-append msg (b ∷ []) in
      let k : (length (msg ++ b ∷ []) - 1) / block_bytes ≡ (length msg - 1) / block_bytes = omega arith in
      let f : block_bytes * ((length msg - 1) / block_bytes) ≤ length msg = omega arith in
      rw k (same_state (sym (chain-append h₀ _ msg (b ∷ []) f)) (block_more _ msg b f h) (omega arith) refl)

  full : block_bytes ≤ length msg - block_bytes * before msg → put (flushed (state_of h₀ msg)) b ≡ state_of h₀ (msg ++ b ∷ [])
  unfolding put flushed state_of before count offset count_of chain
  full h =
      let i = (length msg - 1) / block_bytes in
      let l = length-append msg (b ∷ []) in
      let k : (length (msg ++ b ∷ []) - 1) / block_bytes ≡ suc i = omega arith in
      let f : block_bytes * i + block_bytes ≤ length msg = omega arith in
      let e : length msg ≡ block_bytes * suc i = omega arith in
      let d : block_bytes * i + block_bytes ≡ block_bytes * suc i = omega arith in
      rw k
      (same_state
      (F_seen (chain h₀ i msg) (words (block i msg)) (block_bytes * i) block_bytes false
      ∙ rw (d, chain-append h₀ i msg (b ∷ []) (omega arith), block-append i msg (b ∷ []) f))
      (block_next (suc i) msg b e)
      (omega arith)
      (counted_block (block_bytes * i) ∙ rw d))

  byte_more : feed_byte (state_of h₀ msg) b ≡ state_of h₀ (msg ++ b ∷ [])
  unfolding feed_byte
  byte_more =
      elim (dec_lt (state_of h₀ msg).filled block_bytes) [
        | yes h ↦ rw (lt-ltb (state_of h₀ msg).filled block_bytes h) (room (unfold state_of in h))
        | no h ↦ rw (le-ltb (state_of h₀ msg).filled block_bytes (omega arith)) (full (unfold state_of in omega arith))
      ]

bytes_more : (h₀ msg more : List ℕ) → feed_all (state_of h₀ msg) more ≡ state_of h₀ (msg ++ more)
unfolding feed_all
bytes_more h₀ msg [] = rw (append-nil msg)
bytes_more h₀ msg (b ∷ bs) =
    ap (λ (s : Engine). feed_all s bs) (byte_more h₀ msg b) ∙ bytes_more h₀ (msg ++ b ∷ []) bs ∙ ap (state_of h₀) (append_assoc msg (b ∷ []) bs)

-- the state after a message is the one that the definition has
pub fed_is : (h₀ msg : List ℕ) → feed_all (fresh h₀) msg ≡ state_of h₀ msg
fed_is h₀ msg = ap (λ (s : Engine). feed_all s msg) (nothing h₀) ∙ bytes_more h₀ [] msg

-- .. and its last compression is the definition's
last_is : (h₀ msg : List ℕ)
    → F (state_of h₀ msg).h (words (state_of h₀ msg).buffer) (count (state_of h₀ msg) + (state_of h₀ msg).filled) true ≡ final h₀ msg
unfolding state_of count offset count_of final before
last_is h₀ msg =
    let i = (length msg - 1) / block_bytes in
    let e : block_bytes * i + (length msg - block_bytes * i) ≡ length msg = omega arith in
    F_seen (chain h₀ i msg) (words (block i msg)) (block_bytes * i) (length msg - block_bytes * i) true ∙ rw e

pub sealed_is : (h₀ msg : List ℕ) → sealed (state_of h₀ msg) ≡ bytes (final h₀ msg)
unfolding sealed
sealed_is h₀ msg = ap bytes (last_is h₀ msg)

-- the stream's bytes are the RFC's, by blocks
pub streamed : (h₀ msg : List ℕ) → sealed (feed_all (fresh h₀) msg) ≡ bytes (final h₀ msg)
streamed h₀ msg = ap sealed (fed_is h₀ msg) ∙ sealed_is h₀ msg

-- the cut does not matter
pub cut : (s : Engine) (a b : List ℕ) → feed_all s (a ++ b) ≡ feed_all (feed_all s a) b
unfolding feed_all
cut s [] b = refl
cut s (x ∷ a) b = cut (feed_byte s x) a b
