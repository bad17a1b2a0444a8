-- Document 01, "Initial hash" (RFC 9106, 3.2): what is hashed first, and the blocks that a lane begins with.
use Rattle.std.specs.Prelude.{ℕ, List, ◌++◌, length}
use Rattle.word.specs.Word.{to_le, words_of}
use Rattle.blake2b.specs.Blake2b.{blake2b}
use Rattle.blake2b_long.specs.Long.{long}
use Rattle.block.specs.Block.{block_bytes, block_words}
use Rattle.params.specs.declared.Params.{Params}

-- 4 bytes little-endian
abbrev pub le32 : ℕ → List ℕ
le32 n = to_le 4 n

-- count and bytes
abbrev pub counted : List ℕ → List ℕ
counted bytes = le32 (length bytes) ++ bytes

-- p, tag length, m (not m'), t, version, algorithm
unfoldable pub header : Params → ℕ → List ℕ
header P tag =
    le32 P.lanes ++ le32 tag ++ le32 P.memory ++ le32 P.passes ++ le32 P.version ++ le32 P.algorithm

-- then count and bytes of password, salt, secret, associated data
unfoldable pub hash_input : Params → ℕ → List ℕ → List ℕ → List ℕ → List ℕ → List ℕ
hash_input P tag password salt secret ad =
    header P tag ++ counted password ++ counted salt ++ counted secret ++ counted ad

-- BLAKE2b-64 over that
abbrev pub initial_hash_bytes : ℕ
initial_hash_bytes = 64

unfoldable pub initial_hash : Params → ℕ → List ℕ → List ℕ → List ℕ → List ℕ → List ℕ
initial_hash P tag password salt secret ad = blake2b initial_hash_bytes (hash_input P tag password salt secret ad)

-- block b of lane l, b being 0 or 1: the 1,024-byte variable hash of initial hash h, block number and l, both 4 bytes
unfoldable pub first_words : List ℕ → ℕ → ℕ → List ℕ
first_words h l b = words_of block_words (long block_bytes (h ++ le32 b ++ le32 l))
