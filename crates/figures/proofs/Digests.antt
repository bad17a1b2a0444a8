-- The initial hashes of the three examples of RFC 9106, section 5, as another implementation of BLAKE2b gives them. Assumes nothing.
use mathlib.Core.List.{List, [], ◌∷◌}
use mathlib.Core.Path.{◌≡◌, refl}
use Prim.Native.Nat.{ℕ}
use lib.ListN.{replicate}
use Rattle.blake2b_compression.specs.Compression.{row, sum, turn, G, round, mixed, flips, local, fold, F}
use Rattle.blake2b.specs.Blake2b.{pad, block, parameter, initial, chain, before, final, blake2b}
use Rattle.word.specs.Table.{table}
use Rattle.word.specs.Word.{rotr, number_at, words_of}
use Rattle.params.specs.Limits.{d, i, id, v13}
use Rattle.std.specs.Prelude.{None}
use Rattle.params.specs.declared.Params.{Params}
use Rattle.initial.specs.Initial.{header, hash_input, initial_hash}

-- 32 KiB, three passes, four lanes
abbrev params : ℕ → Params
params algorithm = record { algorithm = algorithm; version = v13; memory = 32; passes = 3; lanes = 4; configured = None }

-- a tag of 32 bytes; password, salt, secret and associated data
abbrev digest : ℕ → List ℕ
digest algorithm = initial_hash (params algorithm) 32 (replicate 32 1) (replicate 16 2) (replicate 8 3) (replicate 12 4)

pub argon2d : digest d
    ≡ 184 ∷ 129 ∷ 151 ∷ 145 ∷ 160 ∷ 53 ∷ 150 ∷ 96 ∷ 187 ∷ 119 ∷ 9 ∷ 200 ∷ 95 ∷ 164 ∷ 143 ∷ 4
    ∷ 213 ∷ 216 ∷ 44 ∷ 5 ∷ 197 ∷ 242 ∷ 21 ∷ 204 ∷ 219 ∷ 136 ∷ 84 ∷ 145 ∷ 113 ∷ 124 ∷ 247 ∷ 87
    ∷ 8 ∷ 44 ∷ 40 ∷ 185 ∷ 81 ∷ 190 ∷ 56 ∷ 20 ∷ 16 ∷ 181 ∷ 252 ∷ 46 ∷ 183 ∷ 39 ∷ 64 ∷ 51
    ∷ 185 ∷ 253 ∷ 199 ∷ 174 ∷ 103 ∷ 43 ∷ 202 ∷ 172 ∷ 93 ∷ 23 ∷ 144 ∷ 151 ∷ 164 ∷ 175 ∷ 49 ∷ 9 ∷ []
unfolding initial_hash hash_input header blake2b final chain before initial parameter block pad words_of F fold local flips mixed round G turn sum row rotr number_at table
argon2d = refl

pub argon2i : digest i
    ≡ 196 ∷ 96 ∷ 101 ∷ 129 ∷ 82 ∷ 118 ∷ 160 ∷ 179 ∷ 231 ∷ 49 ∷ 115 ∷ 28 ∷ 144 ∷ 47 ∷ 31 ∷ 216
    ∷ 12 ∷ 247 ∷ 118 ∷ 144 ∷ 127 ∷ 187 ∷ 123 ∷ 106 ∷ 92 ∷ 167 ∷ 46 ∷ 123 ∷ 86 ∷ 1 ∷ 31 ∷ 238
    ∷ 202 ∷ 68 ∷ 108 ∷ 134 ∷ 221 ∷ 117 ∷ 185 ∷ 70 ∷ 154 ∷ 94 ∷ 104 ∷ 121 ∷ 222 ∷ 196 ∷ 183 ∷ 45
    ∷ 8 ∷ 99 ∷ 251 ∷ 147 ∷ 155 ∷ 152 ∷ 46 ∷ 95 ∷ 57 ∷ 124 ∷ 199 ∷ 209 ∷ 100 ∷ 253 ∷ 218 ∷ 169 ∷ []
unfolding initial_hash hash_input header blake2b final chain before initial parameter block pad words_of F fold local flips mixed round G turn sum row rotr number_at table
argon2i = refl

pub argon2id : digest id
    ≡ 40 ∷ 137 ∷ 222 ∷ 72 ∷ 126 ∷ 180 ∷ 42 ∷ 229 ∷ 0 ∷ 192 ∷ 0 ∷ 126 ∷ 217 ∷ 37 ∷ 47 ∷ 16
    ∷ 105 ∷ 234 ∷ 222 ∷ 196 ∷ 13 ∷ 87 ∷ 101 ∷ 180 ∷ 133 ∷ 222 ∷ 109 ∷ 194 ∷ 67 ∷ 122 ∷ 103 ∷ 184
    ∷ 84 ∷ 106 ∷ 47 ∷ 10 ∷ 204 ∷ 26 ∷ 8 ∷ 130 ∷ 219 ∷ 143 ∷ 207 ∷ 116 ∷ 113 ∷ 75 ∷ 71 ∷ 46
    ∷ 148 ∷ 223 ∷ 66 ∷ 26 ∷ 93 ∷ 161 ∷ 17 ∷ 47 ∷ 250 ∷ 17 ∷ 67 ∷ 67 ∷ 112 ∷ 161 ∷ 233 ∷ 151 ∷ []
unfolding initial_hash hash_input header blake2b final chain before initial parameter block pad words_of F fold local flips mixed round G turn sum row rotr number_at table
argon2id = refl
