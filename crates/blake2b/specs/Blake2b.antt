-- BLAKE2b, unkeyed, as RFC 7693 defines it over its compression function F: words and bytes are natural numbers, vectors are lists.
use Rattle.std.specs.Prelude.{ℕ, zero, suc, ◌+◌, ◌-◌, ◌*◌, ◌/◌, ◌^◌, true, false, List, ◌++◌, length, take, drop, set, replicate}
use Rattle.word.specs.Word.{bytes}
use Rattle.blake2b_compression.specs.Compression.{◌!◌, ◌⊕◌, block_bytes, IV, F, words}

-- 2.1, the most bytes of a hash
abbrev pub max_output : ℕ
max_output = 64

-- 3.3, zeros after the bytes that a block lacks
unfoldable pub pad : List ℕ → List ℕ
pad bytes = bytes ++ replicate (block_bytes - length bytes) 0

-- 3.3, d[i]: block i of the message
unfoldable pub block : ℕ → List ℕ → List ℕ
block i msg = pad (take block_bytes (drop (block_bytes * i) msg))

-- 2.5, the fanout and the depth of a hash that is no tree, bytes 2 and 3 of the parameter block: 0x01010000
abbrev pub fanout : ℕ
fanout = 1

abbrev pub depth : ℕ
depth = 1

abbrev pub sequential : ℕ
sequential = fanout * 2 ^ 16 + depth * 2 ^ 24

-- 2.5, the first word of the parameter block: no key, an output of n bytes
unfoldable pub parameter : ℕ → ℕ
parameter n = sequential ⊕ n

-- 3.3, h[0] := h[0] ^ 0x01010000 ^ nn
unfoldable pub initial : ℕ → List ℕ
initial n = set IV 0 (IV ! 0 ⊕ parameter n)

-- 3.3, h₀ after the first i blocks, none of which is the last
unfoldable pub chain : List ℕ → ℕ → List ℕ → List ℕ
chain h₀ zero msg = h₀
chain h₀ (suc i) msg = F (chain h₀ i msg) (words (block i msg)) (block_bytes * suc i) false

-- 3.3, dd - 1, the blocks before the last one; the empty message has one block
unfoldable pub before : List ℕ → ℕ
before msg = (length msg - 1) / block_bytes

-- 3.3, h₀ after the whole message
unfoldable pub final : List ℕ → List ℕ → List ℕ
final h₀ msg = F (chain h₀ (before msg) msg) (words (block (before msg) msg)) (length msg) true

-- 3.3, the hash of msg, of n bytes
unfoldable pub blake2b : ℕ → List ℕ → List ℕ
blake2b n msg = take n (bytes (final (initial n) msg))
