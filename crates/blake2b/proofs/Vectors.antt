-- Figures of other implementations, and appendix A's, hold of the definition, by computation. Assumes nothing.
use Prim.Native.Nat.{ℕ}
use mathlib.Core.List.{List, [], ◌∷◌}
use mathlib.Core.Path.{◌≡◌, refl}
use Rattle.word.specs.Table.{table}
use Rattle.word.specs.Word.{rotr, number_at, words_of}
use Rattle.blake2b_compression.specs.Compression.{row, sum, turn, G, round, mixed, flips, local, fold, F}
use Rattle.blake2b.specs.Blake2b.{pad, block, parameter, initial, chain, before, final, blake2b}

-- the bytes 0, 1, 2, .., n - 1
abbrev counting : ℕ → List ℕ
counting n = table (λ k. k) n

-- appendix A
pub abc : blake2b 64 (97 ∷ 98 ∷ 99 ∷ [])
    ≡ 186 ∷ 128 ∷ 165 ∷ 63 ∷ 152 ∷ 28 ∷ 77 ∷ 13 ∷ 106 ∷ 39 ∷ 151 ∷ 182 ∷ 159 ∷ 18 ∷ 246 ∷ 233 ∷ 76 ∷ 33 ∷ 47 ∷ 20 ∷ 104 ∷ 90 ∷ 196 ∷ 183 ∷ 75 ∷ 18 ∷ 187 ∷ 111 ∷ 219 ∷ 255 ∷ 162 ∷ 209 ∷ 125 ∷ 135 ∷ 197 ∷ 57 ∷ 42 ∷ 171 ∷ 121 ∷ 45 ∷ 194 ∷ 82 ∷ 213 ∷ 222 ∷ 69 ∷ 51 ∷ 204 ∷ 149 ∷ 24 ∷ 211 ∷ 138 ∷ 168 ∷ 219 ∷ 241 ∷ 146 ∷ 90 ∷ 185 ∷ 35 ∷ 134 ∷ 237 ∷ 212 ∷ 0 ∷ 153 ∷ 35 ∷ []
unfolding table rotr number_at words_of row sum turn G round mixed flips local fold F pad block parameter initial chain before final blake2b
abc = refl

-- no bytes
pub empty : blake2b 64 []
    ≡ 120 ∷ 106 ∷ 2 ∷ 247 ∷ 66 ∷ 1 ∷ 89 ∷ 3 ∷ 198 ∷ 198 ∷ 253 ∷ 133 ∷ 37 ∷ 82 ∷ 210 ∷ 114 ∷ 145 ∷ 47 ∷ 71 ∷ 64 ∷ 225 ∷ 88 ∷ 71 ∷ 97 ∷ 138 ∷ 134 ∷ 226 ∷ 23 ∷ 247 ∷ 31 ∷ 84 ∷ 25 ∷ 210 ∷ 94 ∷ 16 ∷ 49 ∷ 175 ∷ 238 ∷ 88 ∷ 83 ∷ 19 ∷ 137 ∷ 100 ∷ 68 ∷ 147 ∷ 78 ∷ 176 ∷ 75 ∷ 144 ∷ 58 ∷ 104 ∷ 91 ∷ 20 ∷ 72 ∷ 183 ∷ 85 ∷ 213 ∷ 111 ∷ 112 ∷ 26 ∷ 254 ∷ 155 ∷ 226 ∷ 206 ∷ []
unfolding table rotr number_at words_of row sum turn G round mixed flips local fold F pad block parameter initial chain before final blake2b
empty = refl

-- one byte, 0, with an output of 1, 20 and 32 bytes
pub output_1 : blake2b 1 (counting 1)
    ≡ 161 ∷ []
unfolding table rotr number_at words_of row sum turn G round mixed flips local fold F pad block parameter initial chain before final blake2b
output_1 = refl

pub output_20 : blake2b 20 (counting 1)
    ≡ 8 ∷ 42 ∷ 217 ∷ 146 ∷ 251 ∷ 118 ∷ 135 ∷ 28 ∷ 51 ∷ 161 ∷ 185 ∷ 153 ∷ 58 ∷ 8 ∷ 41 ∷ 82 ∷ 254 ∷ 172 ∷ 165 ∷ 230 ∷ []
unfolding table rotr number_at words_of row sum turn G round mixed flips local fold F pad block parameter initial chain before final blake2b
output_20 = refl

pub output_32 : blake2b 32 (counting 1)
    ≡ 3 ∷ 23 ∷ 10 ∷ 46 ∷ 117 ∷ 151 ∷ 183 ∷ 183 ∷ 227 ∷ 216 ∷ 76 ∷ 5 ∷ 57 ∷ 29 ∷ 19 ∷ 154 ∷ 98 ∷ 177 ∷ 87 ∷ 231 ∷ 135 ∷ 134 ∷ 216 ∷ 192 ∷ 130 ∷ 242 ∷ 157 ∷ 207 ∷ 76 ∷ 17 ∷ 19 ∷ 20 ∷ []
unfolding table rotr number_at words_of row sum turn G round mixed flips local fold F pad block parameter initial chain before final blake2b
output_32 = refl

-- a full last block, which is held back
pub full : blake2b 64 (counting 128)
    ≡ 35 ∷ 25 ∷ 227 ∷ 120 ∷ 156 ∷ 71 ∷ 226 ∷ 218 ∷ 165 ∷ 254 ∷ 128 ∷ 127 ∷ 97 ∷ 190 ∷ 194 ∷ 161 ∷ 166 ∷ 83 ∷ 127 ∷ 160 ∷ 63 ∷ 25 ∷ 255 ∷ 50 ∷ 232 ∷ 126 ∷ 236 ∷ 191 ∷ 214 ∷ 75 ∷ 126 ∷ 14 ∷ 140 ∷ 207 ∷ 244 ∷ 57 ∷ 172 ∷ 51 ∷ 59 ∷ 4 ∷ 15 ∷ 25 ∷ 176 ∷ 196 ∷ 221 ∷ 209 ∷ 26 ∷ 97 ∷ 226 ∷ 74 ∷ 193 ∷ 254 ∷ 15 ∷ 16 ∷ 160 ∷ 57 ∷ 128 ∷ 108 ∷ 93 ∷ 204 ∷ 13 ∷ 163 ∷ 209 ∷ 21 ∷ []
unfolding table rotr number_at words_of row sum turn G round mixed flips local fold F pad block parameter initial chain before final blake2b
full = refl

-- one byte more than a block
pub over : blake2b 64 (counting 129)
    ≡ 245 ∷ 151 ∷ 17 ∷ 212 ∷ 74 ∷ 3 ∷ 29 ∷ 95 ∷ 151 ∷ 169 ∷ 65 ∷ 60 ∷ 6 ∷ 93 ∷ 30 ∷ 97 ∷ 76 ∷ 65 ∷ 126 ∷ 222 ∷ 153 ∷ 133 ∷ 144 ∷ 50 ∷ 95 ∷ 73 ∷ 186 ∷ 210 ∷ 253 ∷ 68 ∷ 77 ∷ 62 ∷ 68 ∷ 24 ∷ 190 ∷ 25 ∷ 174 ∷ 196 ∷ 225 ∷ 20 ∷ 73 ∷ 172 ∷ 26 ∷ 87 ∷ 32 ∷ 120 ∷ 152 ∷ 188 ∷ 87 ∷ 215 ∷ 106 ∷ 27 ∷ 207 ∷ 53 ∷ 102 ∷ 41 ∷ 44 ∷ 32 ∷ 198 ∷ 131 ∷ 165 ∷ 196 ∷ 100 ∷ 143 ∷ []
unfolding table rotr number_at words_of row sum turn G round mixed flips local fold F pad block parameter initial chain before final blake2b
over = refl
