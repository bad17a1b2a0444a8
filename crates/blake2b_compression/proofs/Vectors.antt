-- Figures of appendix A and of another implementation hold of the definition, by computation. Assumes nothing.
use Rattle.std.proofs.Common.{◌≡◌, ℕ, ◌+◌, ◌^◌, true, List, [], ◌∷◌, replicate, refl}
use Rattle.word.specs.Table.{table}
use Rattle.word.specs.Word.{rotr, number_at, words_of}
use Rattle.blake2b_compression.specs.Compression.{block_bytes, row, sum, turn, G, round, mixed, flips, local, fold, F, words}

-- h before, for an output of 64 bytes
abbrev start : List ℕ
start =
    0x6a09e667f2bdc948 ∷ 0xbb67ae8584caa73b ∷ 0x3c6ef372fe94f82b ∷ 0xa54ff53a5f1d36f1
    ∷ 0x510e527fade682d1 ∷ 0x9b05688c2b3e6c1f ∷ 0x1f83d9abfb41bd6b ∷ 0x5be0cd19137e2179 ∷ []

-- appendix A: h after a block that is "abc" and zeros
pub abc : F start (words (97 ∷ 98 ∷ 99 ∷ replicate 125 0)) 3 true
    ≡ 0x0d4d1c983fa580ba ∷ 0xe9f6129fb697276a ∷ 0xb7c45a68142f214c ∷ 0xd1a2ffdb6fbb124b
    ∷ 0x2d79ab2a39c5877d ∷ 0x95cc3345ded552c2 ∷ 0x5a92f1dba88ad318 ∷ 0x239900d4ed8623b9 ∷ []
unfolding table rotr number_at words_of row sum turn G round mixed flips local fold F
abc = refl

-- h after a block whose bytes are 0, 1, 2, .., 127, so that each word of the message shows
pub counting : F start (words (table (λ k. k) block_bytes)) block_bytes true
    ≡ 0xdae2479c78e31923 ∷ 0xa1c2be617f80fea5 ∷ 0x32ff193fa07f53a6 ∷ 0x0e7e4bd6bfec7ee8
    ∷ 0x043b33ac39f4cf8c ∷ 0x611ad1ddc4b0190f ∷ 0x39a0100ffec14ae2 ∷ 0x15d1a30dcc5d6c80 ∷ []
unfolding table rotr number_at words_of row sum turn G round mixed flips local fold F
counting = refl

-- the same block with a count over 64 bits, so that both words of the count show
pub counted_over : F start (words (table (λ k. k) block_bytes)) (2 ^ 64 + block_bytes) true
    ≡ 0xfd356aae674fccf1 ∷ 0x9ddf7c9a06ad457b ∷ 0xb216bc26b40427d4 ∷ 0xd8ec840b28e1e216
    ∷ 0x88715151982e9885 ∷ 0x240ee9a50167251e ∷ 0x7a3ed438463f8f29 ∷ 0x7ae1049e24e022e4 ∷ []
unfolding table rotr number_at words_of row sum turn G round mixed flips local fold F
counted_over = refl
