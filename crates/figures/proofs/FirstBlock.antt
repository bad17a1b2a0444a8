-- Words of a first block, as another implementation of BLAKE2b gives them: block 1 of lane 2, from the initial hash of RFC 9106's Argon2id
-- example. Assumes nothing.
use mathlib.Core.List.{List, [], ◌∷◌}
use mathlib.Core.Path.{◌≡◌, refl}
use Prim.Native.Nat.{ℕ}
use lib.ListN.{get_or}
use Rattle.blake2b_compression.specs.Compression.{row, sum, turn, G, round, mixed, flips, local, fold, F}
use Rattle.blake2b.specs.Blake2b.{pad, block, parameter, initial, chain, before, final, blake2b}
use Rattle.blake2b_long.specs.Long.{halves, pieces, joined, long}
use Rattle.word.specs.Table.{table}
use Rattle.word.specs.Word.{rotr, number_at, words_of}
use Rattle.initial.specs.Initial.{first_words}

abbrev hash : List ℕ
hash =
    40 ∷ 137 ∷ 222 ∷ 72 ∷ 126 ∷ 180 ∷ 42 ∷ 229 ∷ 0 ∷ 192 ∷ 0 ∷ 126 ∷ 217 ∷ 37 ∷ 47 ∷ 16
    ∷ 105 ∷ 234 ∷ 222 ∷ 196 ∷ 13 ∷ 87 ∷ 101 ∷ 180 ∷ 133 ∷ 222 ∷ 109 ∷ 194 ∷ 67 ∷ 122 ∷ 103 ∷ 184
    ∷ 84 ∷ 106 ∷ 47 ∷ 10 ∷ 204 ∷ 26 ∷ 8 ∷ 130 ∷ 219 ∷ 143 ∷ 207 ∷ 116 ∷ 113 ∷ 75 ∷ 71 ∷ 46
    ∷ 148 ∷ 223 ∷ 66 ∷ 26 ∷ 93 ∷ 161 ∷ 17 ∷ 47 ∷ 250 ∷ 17 ∷ 67 ∷ 67 ∷ 112 ∷ 161 ∷ 233 ∷ 151 ∷ []

pub first_word : get_or (first_words hash 2 1) 0 0 ≡ 7819741966855469844
unfolding first_words long joined pieces halves blake2b final chain before parameter initial block pad words_of F fold local flips mixed round G turn sum row rotr number_at table
first_word = refl

pub fifth_word : get_or (first_words hash 2 1) 4 0 ≡ 7227846027442399104
unfolding first_words long joined pieces halves blake2b final chain before parameter initial block pad words_of F fold local flips mixed round G turn sum row rotr number_at table
fifth_word = refl
