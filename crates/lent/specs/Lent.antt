-- Lent memory by the protocol of oracle/README.md: what it holds before a call, and the digest of what it holds after.
use Rattle.std.specs.Prelude.{ℕ, ◌+◌, ◌*◌, ◌/◌, ◌%◌, ◌^◌, cond, List, ◌==◌, bit_xor}
use Rattle.word.specs.Table.{table}
use Rattle.word.specs.Word.{bytes}
use Rattle.blake2b_long.specs.Long.{long}

-- splitmix64: what a step adds to its state, and the factors of its output
abbrev pub step : ℕ
step = 0x9e3779b97f4a7c15

abbrev pub first_factor : ℕ
first_factor = 0xbf58476d1ce4e5b9

abbrev pub second_factor : ℕ
second_factor = 0x94d049bb133111eb

-- z ^ z >> n
abbrev pub shifted : ℕ → ℕ → ℕ
shifted n z = bit_xor z (z / 2 ^ n)

-- its output at the state z
unfoldable pub mixed : ℕ → ℕ
mixed z = shifted 31 (shifted 27 (shifted 30 z * first_factor % 2 ^ 64) * second_factor % 2 ^ 64)

-- SEED: place i holds 0 with seed 0, else output i from the state seed
unfoldable pub drawn : ℕ → ℕ → ℕ
drawn seed i = cond (seed == 0) 0 (mixed ((seed + (i + 1) * step) % 2 ^ 64))

-- the lent words, and the bytes of an output
unfoldable pub dirtied : ℕ → ℕ → List ℕ
dirtied seed n = table (drawn seed) n

unfoldable pub dirtied_bytes : ℕ → ℕ → List ℕ
dirtied_bytes seed n = table (λ i. drawn seed i % 256) n

-- DIGEST: the variable-length hash, 32 bytes, of all lent words, 8 bytes little-endian each
abbrev pub digest_bytes : ℕ
digest_bytes = 32

unfoldable pub digest : List ℕ → List ℕ
digest w = long digest_bytes (bytes w)

-- z ^ z << n, where the shift wraps at 64 bits
abbrev pub raised : ℕ → ℕ → ℕ
raised n z = bit_xor z (z * 2 ^ n % 2 ^ 64)

-- Marsaglia's xorshift of 64 bits, by 13, 7 and 17
unfoldable pub xorshift : ℕ → ℕ
xorshift x = raised 17 (shifted 7 (raised 13 x))
