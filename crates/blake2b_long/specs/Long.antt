-- The variable-length hash H' of RFC 9106, 3.3; document 01, "Variable hash".
use Rattle.std.specs.Prelude.{ℕ, ◌+◌, ◌-◌, ◌*◌, ◌/◌, List, [], ◌∷◌, ◌++◌, take, replicate}
use Rattle.word.specs.Word.{to_le}
use Rattle.blake2b.specs.Blake2b.{max_output, blake2b}

-- 3.3, the bytes of LE32
abbrev pub length_bytes : ℕ
length_bytes = 4

-- 3.3, the bytes of W_i, the first half of a hash
abbrev pub half_hash : ℕ
half_hash = 32

-- 3.3, r = ceil(T / 32) - 2; 0 up to 64
unfoldable pub halves : ℕ → ℕ
halves n = (n + (half_hash - 1)) / half_hash - 2

-- 01, the lengths that are put out: W_1 to W_r, then what remains
unfoldable pub pieces : ℕ → List ℕ
pieces n = replicate (halves n) half_hash ++ (n - half_hash * halves n) ∷ []

-- 3.3, the pieces' bytes, where the first one is a hash of x: W_1 || W_2 || .. || V_(r+1)
unfoldable pub joined : List ℕ → List ℕ → List ℕ
joined x [] = []
joined x (n ∷ []) = blake2b n x
joined x (n ∷ m ∷ more) = take n (blake2b max_output x) ++ joined (blake2b max_output x) (m ∷ more)

-- 3.3, H'^T(A), where T is n
unfoldable pub long : ℕ → List ℕ → List ℕ
long n input = joined (to_le length_bytes n ++ input) (pieces n)
