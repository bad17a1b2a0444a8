-- Bytes of the variable-length hash H' of RFC 9106, 3.3, with one half and with two, as another implementation of BLAKE2b gives them. Assumes nothing.
use mathlib.Core.List.{[], ◌∷◌}
use mathlib.Core.Path.{◌≡◌, refl}
use Rattle.word.specs.Table.{table}
use Rattle.word.specs.Word.{rotr, number_at, words_of}
use Rattle.blake2b_compression.specs.Compression.{row, sum, turn, G, round, mixed, flips, local, fold, F}
use Rattle.blake2b.specs.Blake2b.{pad, block, parameter, initial, chain, before, final, blake2b}
use Rattle.blake2b_long.specs.Long.{halves, pieces, joined, long}

-- of "abc", W_1 and the last 33 bytes
pub one_half : long 65 (97 ∷ 98 ∷ 99 ∷ [])
    ≡ 119 ∷ 186 ∷ 164 ∷ 71 ∷ 254 ∷ 111 ∷ 119 ∷ 124 ∷ 155 ∷ 203 ∷ 81 ∷ 149 ∷ 69 ∷ 206 ∷ 128 ∷ 186
    ∷ 218 ∷ 240 ∷ 142 ∷ 203 ∷ 151 ∷ 63 ∷ 187 ∷ 79 ∷ 244 ∷ 90 ∷ 247 ∷ 216 ∷ 181 ∷ 105 ∷ 236 ∷ 124
    ∷ 170 ∷ 214 ∷ 95 ∷ 114 ∷ 102 ∷ 157 ∷ 5 ∷ 21 ∷ 60 ∷ 222 ∷ 170 ∷ 86 ∷ 58 ∷ 22 ∷ 43 ∷ 181
    ∷ 174 ∷ 76 ∷ 66 ∷ 33 ∷ 69 ∷ 81 ∷ 89 ∷ 56 ∷ 22 ∷ 0 ∷ 141 ∷ 197 ∷ 96 ∷ 197 ∷ 166 ∷ 83
    ∷ 145 ∷ []
unfolding table rotr number_at words_of row sum turn G round mixed flips local fold F pad block parameter initial chain before final blake2b halves pieces joined long
one_half = refl

-- of "abc", W_1, W_2 and the last 33 bytes
pub two_halves : long 97 (97 ∷ 98 ∷ 99 ∷ [])
    ≡ 200 ∷ 44 ∷ 203 ∷ 84 ∷ 31 ∷ 219 ∷ 236 ∷ 209 ∷ 206 ∷ 128 ∷ 144 ∷ 246 ∷ 31 ∷ 57 ∷ 144 ∷ 92
    ∷ 191 ∷ 75 ∷ 192 ∷ 60 ∷ 235 ∷ 209 ∷ 51 ∷ 160 ∷ 2 ∷ 199 ∷ 186 ∷ 190 ∷ 78 ∷ 162 ∷ 4 ∷ 251
    ∷ 161 ∷ 17 ∷ 85 ∷ 32 ∷ 4 ∷ 197 ∷ 165 ∷ 51 ∷ 140 ∷ 98 ∷ 212 ∷ 199 ∷ 86 ∷ 26 ∷ 245 ∷ 222
    ∷ 38 ∷ 101 ∷ 210 ∷ 77 ∷ 48 ∷ 222 ∷ 148 ∷ 7 ∷ 185 ∷ 186 ∷ 26 ∷ 106 ∷ 179 ∷ 114 ∷ 5 ∷ 77
    ∷ 62 ∷ 111 ∷ 221 ∷ 12 ∷ 122 ∷ 164 ∷ 107 ∷ 72 ∷ 152 ∷ 1 ∷ 137 ∷ 175 ∷ 67 ∷ 243 ∷ 80 ∷ 45
    ∷ 104 ∷ 208 ∷ 7 ∷ 160 ∷ 43 ∷ 28 ∷ 78 ∷ 254 ∷ 4 ∷ 193 ∷ 59 ∷ 159 ∷ 57 ∷ 217 ∷ 50 ∷ 243
    ∷ 53 ∷ []
unfolding table rotr number_at words_of row sum turn G round mixed flips local fold F pad block parameter initial chain before final blake2b halves pieces joined long
two_halves = refl
