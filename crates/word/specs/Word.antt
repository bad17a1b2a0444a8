-- 64-bit words: rotation (RFC 7693, 2.3), the little-endian order of their bytes (2.4), and their halves (RFC 9106, 3.4 and 3.6).
use Rattle.std.specs.Prelude.{ℕ, zero, suc, ◌+◌, ◌-◌, ◌*◌, ◌/◌, ◌%◌, ◌^◌, cond, List, [], ◌∷◌, ◌++◌, leb, length, take, drop}
use Rattle.word.specs.Table.{table}

-- 2.1, the bytes of a word
abbrev pub word_bytes : ℕ
word_bytes = 8

-- 2.3, x >>> n: the low n bits of the 64-bit word x go to the top
unfoldable pub rotr : ℕ → ℕ → ℕ
rotr n x = x / 2 ^ n + (x % 2 ^ n) * 2 ^ (64 - n)

-- 2.4, the number that a list of bytes is, the first byte the lowest
abbrev pub from_le : List ℕ → ℕ
from_le [] = 0
from_le (b ∷ bs) = b + 256 * from_le bs

-- the number at the n bytes of s from at on; 0 where s has fewer there
unfoldable pub number_at : ℕ → List ℕ → ℕ → ℕ
number_at n s at = cond (leb (at + n) (length s)) (from_le (take n (drop at s))) 0

-- the word at the eight bytes of s from at on
abbrev pub word_at : List ℕ → ℕ → ℕ
word_at s at = number_at word_bytes s at

-- 2.4, the first n words of some bytes
unfoldable pub words_of : ℕ → List ℕ → List ℕ
words_of n bytes = table (λ i. word_at bytes (word_bytes * i)) n

-- 2.4, the n lowest bytes of x, the lowest first
abbrev pub to_le : ℕ → ℕ → List ℕ
to_le zero x = []
to_le (suc n) x = x % 256 ∷ to_le n (x / 256)

-- 2.4, the bytes of words
abbrev pub bytes : List ℕ → List ℕ
bytes [] = []
bytes (w ∷ ws) = to_le word_bytes w ++ bytes ws

-- RFC 9106, 3.4 and 3.6, the numbers of 32 bits: a word's low half is what it leaves by these, its high half how many of these it has
abbrev pub half : ℕ
half = 2 ^ 32

abbrev pub low_half : ℕ → ℕ
low_half x = x % half

abbrev pub high_half : ℕ → ℕ
high_half x = x / half

-- RFC 9106, 3.1, the most bytes of an input and of a tag: as many as 4 bytes can count
abbrev pub max_length : ℕ
max_length = 2 ^ 32 - 1
