-- Document 01, "Random word": a block's random word, from an address block or from the previous block.
use Rattle.std.specs.Prelude.{ℕ, ◌+◌, ◌-◌, ◌/◌, ◌%◌, Bool, cond, ◌&&◌, ◌||◌, List, [], ◌∷◌, ◌++◌, ltb, eqb, length, get_or, replicate}
use Rattle.block.specs.Block.{block_words, compress}
use Rattle.params.specs.Limits.{i, id, blocks}
use Rattle.params.specs.declared.Params.{Params}

-- Argon2i always, Argon2id in pass 0, slices 0 and 1
abbrev pub addressed : Params → ℕ → ℕ → Bool
addressed P r sl = eqb P.algorithm i || eqb P.algorithm id && eqb r 0 && ltb sl 2

-- a block that begins with these words, rest 0
abbrev pub beginning : List ℕ → List ℕ
beginning words = words ++ replicate (block_words - length words) 0

-- the compression, applied twice with a zero block, of words pass, lane, slice, m', t, algorithm, counter, rest 0
unfoldable pub address_block : Params → ℕ → ℕ → ℕ → ℕ → List ℕ
address_block P r sl l counter =
    compress (beginning [])
    (compress (beginning []) (beginning (r ∷ l ∷ sl ∷ blocks P ∷ P.passes ∷ P.algorithm ∷ counter ∷ [])))

-- block k takes word k mod 128 of the address block with counter floor(k / 128) + 1
abbrev pub address_counter : ℕ → ℕ
address_counter k = k / block_words + 1

abbrev pub address_place : ℕ → ℕ
address_place k = k % block_words

unfoldable pub addressed_word : Params → ℕ → ℕ → ℕ → ℕ → ℕ
addressed_word P r sl l k = get_or (address_block P r sl l (address_counter k)) (address_place k) 0

-- the random word of block k; v is word 0 of the previous block
unfoldable pub random_word : Params → ℕ → ℕ → ℕ → ℕ → ℕ → ℕ
random_word P r sl l k v = cond (addressed P r sl) (addressed_word P r sl l k) v
