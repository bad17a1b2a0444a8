-- Taking bytes one by one, as the loop does. Assumes nothing.
use Prim.Native.Nat.{ℕ, ◌+◌, ◌*◌, ◌^◌, ◌<◌, ◌≤◌}
use mathlib.Core.Bool.{false}
use mathlib.Core.List.{List}
use mathlib.Core.Path.{◌≡◌, refl, sym, ap, ◌∙◌}
use native.Mathlib.Numerals.{add-one}
use borrow.Author.Tests.{lt-ltb, le-ltb}
use lib.Dec.{lit<}
use lib.ListN.{drop, length, replicate, drop_of_length-le}
use lib.Seq.{drop-cons}
use Rattle.blake2b_compression.specs.declared.Count.{Count}
use Rattle.blake2b_compression.specs.Compression.{◌!◌, block_bytes, F, words, count_of}
use Rattle.blake2b_compression.proofs.Counting.{compressed}
use Rattle.blake2b.specs.declared.Engine.{Engine}
use Rattle.blake2b.specs.Stream.{count, flushed, put, feed_byte, feed_all}

-- an engine by its fields
abbrev pub state : List ℕ → List ℕ → ℕ → Count → Engine
state h b f c = record { h = h; buffer = b; filled = f; count = c }

pub same_state : {h h' v v' : List ℕ} {f f' : ℕ} {c c' : Count} → h ≡ h' → v ≡ v' → f ≡ f' → c ≡ c' → state h v f c ≡ state h' v' f' c'
same_state p q r s = λ i. state (p i) (q i) (r i) (s i)

-- the two ways into a byte's store
pub full_turn : (s s' : Engine) → block_bytes ≤ s.filled → s' ≡ flushed s → (s'.filled < block_bytes) × ((x : ℕ) → put s' x ≡ feed_byte s x)
unfolding feed_byte flushed
full_turn s s' h e = (rw e (lit< tt), λ x. rw (le-ltb s.filled block_bytes h) (ap (λ (u : Engine). put u x) e))

pub room_turn : (s s' : Engine) → s.filled < block_bytes → s' ≡ s → (s'.filled < block_bytes) × ((x : ℕ) → put s' x ≡ feed_byte s x)
unfolding feed_byte
room_turn s s' h e = (rw e h, λ x. rw (lt-ltb s.filled block_bytes h) (ap (λ (u : Engine). put u x) e))

pub flushed_is : (s : Engine) {g : List ℕ} {c : Count} → g ≡ F s.h (words s.buffer) (c.low + c.high * 2 ^ 64) false → c ≡ count_of (count s + block_bytes)
    → state g (replicate block_bytes 0) 0 c ≡ flushed s
unfolding flushed
flushed_is s e p = same_state (compressed s.h s.buffer (count s + block_bytes) false e p) refl refl p

-- what is left to take leads to the same state, one byte on and at the end
pub fed : (s s' r : Engine) (p : List ℕ) (i : ℕ) → i < length p → s' ≡ feed_byte s (p ! i) → feed_all s (drop i p) ≡ r → feed_all s' (drop (i + 1) p) ≡ r
unfolding feed_all
fed s s' r p i h e inv = rw (add-one, e) (ap (feed_all s) (sym (drop-cons p i 0 h)) ∙ inv)

pub all_fed : (s r : Engine) (p : List ℕ) (i : ℕ) → length p ≤ i → feed_all s (drop i p) ≡ r → s ≡ r
unfolding feed_all
all_fed s r p i h inv = ap (feed_all s) (sym (drop_of_length-le p h)) ∙ inv
