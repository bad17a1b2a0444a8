-- The compression of RFC 9106, sections 3.5 and 3.6, on blocks as lists of words.
use Rattle.std.specs.Prelude.{ℕ, ◌+◌, ◌*◌, ◌/◌, ◌%◌, ◌^◌, List, [], ◌∷◌, bit_xor, slice_index, slice_set}
use Rattle.word.specs.Table.{table}
use Rattle.word.specs.Word.{word_bytes, rotr, low_half}

-- 3.2, the bytes of a block
abbrev pub block_bytes : ℕ
block_bytes = 1024

-- 3.2, its words of 64 bits
abbrev pub block_words : ℕ
block_words = block_bytes / word_bytes

-- 3.5, the words of a 16-byte register
abbrev pub register_words : ℕ
register_words = 2

-- 3.5, a block is a matrix of registers, of so many rows and columns
abbrev pub side : ℕ
side = 8

-- 3.5, the words of a row, and of a column
abbrev pub row_words : ℕ
row_words = side * register_words

-- 3.5, the block of zeros
abbrev pub zeros : List ℕ
zeros = table (λ n. 0) block_words

-- 3.6, a + b + 2 * trunc(a) * trunc(b), mod 2^64, where trunc(a) is the low half of a
unfoldable pub multiply_add : ℕ → ℕ → ℕ
multiply_add a b = (a + b + 2 * (low_half a * low_half b)) % 2 ^ 64

-- 3.6, the rotations of GB
abbrev pub R1 : ℕ
R1 = 32

abbrev pub R2 : ℕ
R2 = 24

abbrev pub R3 : ℕ
R3 = 16

abbrev pub R4 : ℕ
R4 = 63

-- 3.6, GB(a, b, c, d): the four words after it
unfoldable pub quarter : ℕ → ℕ → ℕ → ℕ → List ℕ
quarter a b c d =
    let a1 = multiply_add a b in
    let d1 = rotr R1 (bit_xor d a1) in
    let c1 = multiply_add c d1 in
    let b1 = rotr R2 (bit_xor b c1) in
    let a2 = multiply_add a1 b1 in
    let d2 = rotr R3 (bit_xor d1 a2) in
    let c2 = multiply_add c1 d2 in
    let b2 = rotr R4 (bit_xor b1 c2) in
    a2 ∷ b2 ∷ c2 ∷ d2 ∷ []

-- 3.6, GB(v_a, v_b, v_c, v_d) of the words v
unfoldable pub quarter_at : List ℕ → ℕ → ℕ → ℕ → ℕ → List ℕ
quarter_at v a b c d =
    let q = quarter (slice_index v a) (slice_index v b) (slice_index v c) (slice_index v d) in
    slice_set (slice_set (slice_set (slice_set v a (slice_index q 0)) b (slice_index q 1)) c (slice_index q 2)) d (slice_index q 3)

-- 3.6, P: the eight steps, by columns and by diagonals, on sixteen words
unfoldable pub permutation : List ℕ → List ℕ
permutation v =
    let v1 = quarter_at v 0 4 8 12 in
    let v2 = quarter_at v1 1 5 9 13 in
    let v3 = quarter_at v2 2 6 10 14 in
    let v4 = quarter_at v3 3 7 11 15 in
    let v5 = quarter_at v4 0 5 10 15 in
    let v6 = quarter_at v5 1 6 11 12 in
    let v7 = quarter_at v6 2 7 8 13 in
    quarter_at v7 3 4 9 14

-- 3.6, where word k of a line of registers stands: word k % 2 of its register k / 2, the line being `first`, `first + step`, ..
abbrev pub place : ℕ → ℕ → ℕ → ℕ
place first step k = register_words * (first + step * (k / register_words)) + k % register_words

-- the words of such a line of the block q
unfoldable pub registers : ℕ → ℕ → List ℕ → List ℕ
registers first step q = table (λ k. slice_index q (place first step k)) row_words

-- 3.5, row i: registers 8i, 8i + 1, .., 8i + 7
abbrev pub row : ℕ → List ℕ → List ℕ
row i q = registers (side * i) 1 q

-- 3.5, column i: registers i, i + 8, .., i + 56
abbrev pub column : ℕ → List ℕ → List ℕ
column i q = registers i side q

-- 3.5, R to Q, P on every row: word n of Q stands in row n / 16
unfoldable pub rows : List ℕ → List ℕ
rows q = table (λ n. slice_index (permutation (row (n / row_words) q)) (n % row_words)) block_words

-- 3.5, Q to Z, P on every column: word n of Z stands in column n % 16 / 2
unfoldable pub columns : List ℕ → List ℕ
columns q =
    table (λ n. slice_index (permutation (column (n % row_words / register_words) q)) (register_words * (n / row_words) + n % register_words))
    block_words

-- 3.5, X XOR Y, word by word
unfoldable pub xors : List ℕ → List ℕ → List ℕ
xors x y = table (λ n. bit_xor (slice_index x n) (slice_index y n)) block_words

-- 3.5, G(X, Y) = Z XOR R, where R = X XOR Y
unfoldable pub compress : List ℕ → List ℕ → List ℕ
compress x y = let r = xors x y in xors (columns (rows r)) r
