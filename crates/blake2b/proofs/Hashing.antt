-- Begin, feed and end, and the front of what end gives: the hash. Assumes nothing.
use Prim.Native.Nat.{ℕ, ◌≤◌}
use mathlib.Core.List.{List}
use mathlib.Core.Path.{◌≡◌, sym, ap, ◌∙◌}
use native.Mathlib.Omega.{arith}
use lib.ListN.{take, length, length-take}
use lib.Seq.{take_all}
use Rattle.word.specs.Table.{table}
use Rattle.word.specs.Word.{bytes}
use Rattle.word.proofs.Bytes.{length-bytes}
use Rattle.blake2b_compression.specs.Compression.{fold, F}
use Rattle.blake2b.specs.declared.Engine.{Engine}
use Rattle.blake2b.specs.Blake2b.{max_output, final, initial, blake2b}
use Rattle.blake2b.specs.Stream.{fresh, feed_all, sealed}
use Rattle.blake2b.proofs.Streaming.{streamed}

pub length-final : (h₀ msg : List ℕ) → length (bytes (final h₀ msg)) ≡ max_output
unfolding final F fold table
length-final h₀ msg = length-bytes (final h₀ msg)

pub length-blake2b : (n : ℕ) (msg : List ℕ) → n ≤ max_output → length (blake2b n msg) ≡ n
unfolding blake2b
length-blake2b n msg h = length-take n (bytes (final (initial n) msg)) ∙ omega (arith, length-final (initial n) msg)

-- an engine for an output of n bytes that was fed msg
pub ended : (n : ℕ) (msg : List ℕ) {h : List ℕ} {s t : Engine} {d : List ℕ} → h ≡ initial n → s ≡ fresh h → t ≡ feed_all s msg → d ≡ sealed t
    → d ≡ bytes (final (initial n) msg)
ended n msg o p q r =
    r ∙ ap sealed (q ∙ ap (λ (u : Engine). feed_all u msg) (p ∙ ap fresh o)) ∙ streamed (initial n) msg

-- the first n of its bytes are the hash
pub front : (n : ℕ) (msg : List ℕ) {d : List ℕ} → d ≡ bytes (final (initial n) msg) → take n d ≡ blake2b n msg
unfolding blake2b
front n msg e = ap (take n) e

-- .. and all of them, for an output of 64
pub whole : (msg : List ℕ) {d : List ℕ} → d ≡ bytes (final (initial max_output) msg) → d ≡ blake2b max_output msg
whole msg {d} e = sym (take_all max_output d (omega (arith, ap length e, length-final (initial max_output) msg))) ∙ front max_output msg e
