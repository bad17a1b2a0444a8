-- BLAKE2b's compression function F, as RFC 7693 defines it: words and bytes are natural numbers, vectors are lists.
use Rattle.std.specs.Prelude.{ℕ, zero, suc, ◌+◌, ◌*◌, ◌/◌, ◌%◌, ◌^◌, Bool, cond, List, [], ◌∷◌, ◌++◌, length, bit_xor, slice_index, slice_index_or, slice_set}
use Rattle.word.specs.Table.{table}
use Rattle.word.specs.Word.{rotr, words_of}
use Rattle.blake2b_compression.specs.declared.Count.{Count}

-- 2.1, rounds, and bytes in a block
abbrev pub rounds : ℕ
rounds = 12

abbrev pub block_bytes : ℕ
block_bytes = 128

-- 2.1, the rotations of G
abbrev pub R1 : ℕ
R1 = 32

abbrev pub R2 : ℕ
R2 = 24

abbrev pub R3 : ℕ
R3 = 16

abbrev pub R4 : ℕ
R4 = 63

-- 2.2, words in a message block, m[0..15], and in the state, h[0..7]
abbrev pub block_words : ℕ
block_words = 16

abbrev pub state_words : ℕ
state_words = 8

-- 2.3, v[i]
infixl 90 ◌!◌
abbrev pub ◌!◌ : List ℕ → ℕ → ℕ
v ! i = slice_index v i

-- 2.3, x ^ y, bit by bit
infixl 68 ◌⊕◌
abbrev pub ◌⊕◌ : ℕ → ℕ → ℕ
x ⊕ y = bit_xor x y

-- 2.6, the initialization vector
abbrev pub IV : List ℕ
IV =
    0x6a09e667f3bcc908 ∷ 0xbb67ae8584caa73b ∷ 0x3c6ef372fe94f82b ∷ 0xa54ff53a5f1d36f1
    ∷ 0x510e527fade682d1 ∷ 0x9b05688c2b3e6c1f ∷ 0x1f83d9abfb41bd6b ∷ 0x5be0cd19137e2179 ∷ []

-- 2.7, the message schedule, a row a round
abbrev pub SIGMA : List (List ℕ)
SIGMA =
    (0 ∷ 1 ∷ 2 ∷ 3 ∷ 4 ∷ 5 ∷ 6 ∷ 7 ∷ 8 ∷ 9 ∷ 10 ∷ 11 ∷ 12 ∷ 13 ∷ 14 ∷ 15 ∷ [])
    ∷ (14 ∷ 10 ∷ 4 ∷ 8 ∷ 9 ∷ 15 ∷ 13 ∷ 6 ∷ 1 ∷ 12 ∷ 0 ∷ 2 ∷ 11 ∷ 7 ∷ 5 ∷ 3 ∷ [])
    ∷ (11 ∷ 8 ∷ 12 ∷ 0 ∷ 5 ∷ 2 ∷ 15 ∷ 13 ∷ 10 ∷ 14 ∷ 3 ∷ 6 ∷ 7 ∷ 1 ∷ 9 ∷ 4 ∷ [])
    ∷ (7 ∷ 9 ∷ 3 ∷ 1 ∷ 13 ∷ 12 ∷ 11 ∷ 14 ∷ 2 ∷ 6 ∷ 5 ∷ 10 ∷ 4 ∷ 0 ∷ 15 ∷ 8 ∷ [])
    ∷ (9 ∷ 0 ∷ 5 ∷ 7 ∷ 2 ∷ 4 ∷ 10 ∷ 15 ∷ 14 ∷ 1 ∷ 11 ∷ 12 ∷ 6 ∷ 8 ∷ 3 ∷ 13 ∷ [])
    ∷ (2 ∷ 12 ∷ 6 ∷ 10 ∷ 0 ∷ 11 ∷ 8 ∷ 3 ∷ 4 ∷ 13 ∷ 7 ∷ 5 ∷ 15 ∷ 14 ∷ 1 ∷ 9 ∷ [])
    ∷ (12 ∷ 5 ∷ 1 ∷ 15 ∷ 14 ∷ 13 ∷ 4 ∷ 10 ∷ 0 ∷ 7 ∷ 6 ∷ 3 ∷ 9 ∷ 2 ∷ 8 ∷ 11 ∷ [])
    ∷ (13 ∷ 11 ∷ 7 ∷ 14 ∷ 12 ∷ 1 ∷ 3 ∷ 9 ∷ 5 ∷ 0 ∷ 15 ∷ 4 ∷ 8 ∷ 6 ∷ 2 ∷ 10 ∷ [])
    ∷ (6 ∷ 15 ∷ 14 ∷ 9 ∷ 11 ∷ 3 ∷ 0 ∷ 8 ∷ 12 ∷ 2 ∷ 13 ∷ 7 ∷ 1 ∷ 4 ∷ 10 ∷ 5 ∷ [])
    ∷ (10 ∷ 2 ∷ 8 ∷ 4 ∷ 7 ∷ 6 ∷ 1 ∷ 5 ∷ 15 ∷ 11 ∷ 9 ∷ 14 ∷ 3 ∷ 12 ∷ 13 ∷ 0 ∷ [])
    ∷ []

-- 2.7, SIGMA[i mod 10]
unfoldable pub row : ℕ → List ℕ
row i = slice_index_or SIGMA (i % length SIGMA) []

-- 3.1, v[a] := (v[a] + v[b] + x) mod 2^64
unfoldable pub sum : List ℕ → ℕ → ℕ → ℕ → List ℕ
sum v a b x = slice_set v a ((v ! a + v ! b + x) % 2 ^ 64)

-- 3.1, v[d] := (v[d] ^ v[a]) >>> n
unfoldable pub turn : List ℕ → ℕ → ℕ → ℕ → List ℕ
turn v d a n = slice_set v d (rotr n (v ! d ⊕ v ! a))

-- 3.1, the mixing function G
unfoldable pub G : List ℕ → ℕ → ℕ → ℕ → ℕ → ℕ → ℕ → List ℕ
G v a b c d x y =
    let v₁ = sum v a b x in
    let v₂ = turn v₁ d a R1 in
    let v₃ = sum v₂ c d 0 in
    let v₄ = turn v₃ b c R2 in
    let v₅ = sum v₄ a b y in
    let v₆ = turn v₅ d a R3 in
    let v₇ = sum v₆ c d 0 in
    turn v₇ b c R4

-- 3.2, one round, where x j is m[s[j]]: the columns, then the diagonals
unfoldable pub round : (ℕ → ℕ) → List ℕ → List ℕ
round x v =
    let v₁ = G v 0 4 8 12 (x 0) (x 1) in
    let v₂ = G v₁ 1 5 9 13 (x 2) (x 3) in
    let v₃ = G v₂ 2 6 10 14 (x 4) (x 5) in
    let v₄ = G v₃ 3 7 11 15 (x 6) (x 7) in
    let v₅ = G v₄ 0 5 10 15 (x 8) (x 9) in
    let v₆ = G v₅ 1 6 11 12 (x 10) (x 11) in
    let v₇ = G v₆ 2 7 8 13 (x 12) (x 13) in
    G v₇ 3 4 9 14 (x 14) (x 15)

-- 3.2, v after the first i rounds with the message block m
unfoldable pub mixed : ℕ → List ℕ → List ℕ → List ℕ
mixed zero m v = v
mixed (suc i) m v = round (λ j. m ! (row i ! j)) (mixed i m v)

-- 3.2, what v[14] is flipped by: all bits in the last block
unfoldable pub flips : Bool → ℕ
flips last = cond last 0xffffffffffffffff 0

-- 3.2, the local vector: the state, and the IV with the count t and the mark of the last block
unfoldable pub local : List ℕ → ℕ → Bool → List ℕ
local h t last =
    h ++ IV ! 0 ∷ IV ! 1 ∷ IV ! 2 ∷ IV ! 3 ∷ IV ! 4 ⊕ t % 2 ^ 64 ∷ IV ! 5 ⊕ t / 2 ^ 64 % 2 ^ 64 ∷ IV ! 6 ⊕ flips last ∷ IV ! 7 ∷ []

-- 3.2, h[i] ^ v[i] ^ v[i + 8]
unfoldable pub fold : List ℕ → List ℕ → List ℕ
fold h v = table (λ i. h ! i ⊕ v ! i ⊕ v ! (i + state_words)) state_words

-- 3.2, the compression F of a message block m, with the count t of bytes so far
unfoldable pub F : List ℕ → List ℕ → ℕ → Bool → List ℕ
F h m t last = fold h (mixed rounds m (local h t last))

-- 2.4, the sixteen words of a block's bytes
abbrev pub words : List ℕ → List ℕ
words bytes = words_of block_words bytes

-- 2.2, the offset counter t, of which a count keeps two words
unfoldable pub offset : Count → ℕ
offset t = t.low + t.high * 2 ^ 64

unfoldable pub count_of : ℕ → Count
count_of t = record { low = t % 2 ^ 64; high = t / 2 ^ 64 % 2 ^ 64 }
