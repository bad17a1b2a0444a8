-- RFC 9106's own example of Argon2id (section 5.3): version 19, 32 KiB, four lanes, three passes, a secret and associated data. The definition
-- gives the RFC's tag, by computation: the initial hash, the first blocks, each slice over the memory before it, and the tag, a lemma each.
-- Only the inputs and the tag come from the RFC. Assumes nothing.
use mathlib.Core.List.{List, [], ◌∷◌, ◌++◌}
use mathlib.Core.Path.{◌≡◌, refl, ◌∙◌}
use Prim.Native.Nat.{ℕ}
use lib.ListN.{replicate}
use Rattle.word.specs.Table.{table}
use Rattle.word.specs.Word.{rotr, number_at, words_of}
use Rattle.blake2b_compression.specs.Compression.{row, sum, flips, local}
use Rattle.blake2b.specs.Blake2b.{pad, parameter, initial, before}
use Rattle.blake2b.specs.Blake2b
use Rattle.blake2b_long.specs.Long.{halves, pieces}
use Rattle.block.specs.Block.{multiply_add, registers}
use Rattle.params.specs.Limits.{id, v13, segment_length}
use Rattle.std.specs.Prelude.{None}
use Rattle.params.specs.declared.Params.{Params}
use Rattle.position.specs.Position.{previous_column, reference_lane, finished_length, area, place, area_start, reference_column}
use Rattle.initial.specs.Initial.{header, hash_input}
use Rattle.memory.specs.Memory.{block, put}
use Rattle.argon2.specs.Argon2.{argon2}
use Rattle.figures_quick.proofs.Xor.{pairs, nibble, nibbles, quick}
use Rattle.figures_quick.proofs.QuickHash.{turn_by, GBy, round_by, mixed_by, fold_by, FBy, chain_by, blake2b_by, joined_by, long_by}
use Rattle.figures_quick.proofs.QuickBlock.{rows_of, columns_of, quarter_by, quarter_at_by, permutation_by, xors_by, compress_by, compress_quick}
use Rattle.figures_quick.proofs.Whole.{address_of, word_of, new_of, fill_of, fill_segment_of, fill_slice_of, fill_pass_of, fill_all_of, first_of, start_of, last_of, tag_by, argon2_of, argon2_quick}
use Rattle.figures_rfc.proofs.Blocks.{b0_0_0, b0_0_1, b0_0_2, b0_0_3, b0_0_4, b0_0_5, b0_0_6, b0_0_7, b0_1_0, b0_1_1, b0_1_2, b0_1_3, b0_1_4, b0_1_5, b0_1_6, b0_1_7, b0_2_0, b0_2_1, b0_2_2, b0_2_3, b0_2_4, b0_2_5, b0_2_6, b0_2_7, b0_3_0, b0_3_1, b0_3_2, b0_3_3, b0_3_4, b0_3_5, b0_3_6, b0_3_7, b1_0_0, b1_0_1, b1_0_2, b1_0_3, b1_0_4, b1_0_5, b1_0_6, b1_0_7, b1_1_0, b1_1_1, b1_1_2, b1_1_3, b1_1_4, b1_1_5, b1_1_6, b1_1_7, b1_2_0, b1_2_1, b1_2_2, b1_2_3, b1_2_4, b1_2_5, b1_2_6, b1_2_7, b1_3_0, b1_3_1, b1_3_2, b1_3_3, b1_3_4, b1_3_5, b1_3_6, b1_3_7, b2_0_0, b2_0_1, b2_0_2, b2_0_3, b2_0_4, b2_0_5, b2_0_6, b2_0_7, b2_1_0, b2_1_1, b2_1_2, b2_1_3, b2_1_4, b2_1_5, b2_1_6, b2_1_7, b2_2_0, b2_2_1, b2_2_2, b2_2_3, b2_2_4, b2_2_5, b2_2_6, b2_2_7, b2_3_0, b2_3_1, b2_3_2, b2_3_3, b2_3_4, b2_3_5, b2_3_6, b2_3_7}

abbrev params : Params
params = record { algorithm = id; version = v13; memory = 32; passes = 3; lanes = 4; configured = None }

abbrev password : List ℕ
password = replicate 32 1

abbrev salt : List ℕ
salt = replicate 16 2

abbrev secret : List ℕ
secret = replicate 8 3

abbrev associated : List ℕ
associated = replicate 12 4

-- 5.3, "Tag"
abbrev tag : List ℕ
tag =
    0x0d ∷ 0x64 ∷ 0x0d ∷ 0xf5 ∷ 0x8d ∷ 0x78 ∷ 0x76 ∷ 0x6c ∷ 0x08 ∷ 0xc0 ∷ 0x37 ∷ 0xa3 ∷ 0x4a ∷ 0x8b ∷ 0x53 ∷ 0xc9 ∷ 0xd0 ∷ 0x1e ∷
    0xf0 ∷ 0x45 ∷ 0x2d ∷ 0x75 ∷ 0xb6 ∷ 0x5e ∷ 0xb5 ∷ 0x25 ∷ 0x20 ∷ 0xe9 ∷ 0x6b ∷ 0x01 ∷ 0xe6 ∷ 0x59 ∷ []

-- 5.3, "Pre-hashing digest"
unfoldable h : List ℕ
h =
    0x28 ∷ 0x89 ∷ 0xde ∷ 0x48 ∷ 0x7e ∷ 0xb4 ∷ 0x2a ∷ 0xe5 ∷ 0x00 ∷ 0xc0 ∷ 0x00 ∷ 0x7e ∷ 0xd9 ∷ 0x25 ∷ 0x2f ∷ 0x10 ∷ 0x69 ∷ 0xea ∷
    0xde ∷ 0xc4 ∷ 0x0d ∷ 0x57 ∷ 0x65 ∷ 0xb4 ∷ 0x85 ∷ 0xde ∷ 0x6d ∷ 0xc2 ∷ 0x43 ∷ 0x7a ∷ 0x67 ∷ 0xb8 ∷ 0x54 ∷ 0x6a ∷ 0x2f ∷ 0x0a ∷
    0xcc ∷ 0x1a ∷ 0x08 ∷ 0x82 ∷ 0xdb ∷ 0x8f ∷ 0xcf ∷ 0x74 ∷ 0x71 ∷ 0x4b ∷ 0x47 ∷ 0x2e ∷ 0x94 ∷ 0xdf ∷ 0x42 ∷ 0x1a ∷ 0x5d ∷ 0xa1 ∷
    0x11 ∷ 0x2f ∷ 0xfa ∷ 0x11 ∷ 0x43 ∷ 0x43 ∷ 0x70 ∷ 0xa1 ∷ 0xe9 ∷ 0x97 ∷ []

hash : blake2b_by quick 64 (hash_input params 32 password salt secret associated) ≡ h
unfolding h hash_input header blake2b_by chain_by before parameter initial Rattle.blake2b.specs.Blake2b.block pad words_of FBy fold_by local flips mixed_by round_by GBy turn_by sum row rotr number_at table quick nibbles nibble pairs
hash = refl

first_0_0 : first_of (long_by quick) h 0 0 ≡ b0_0_0
unfolding h b0_0_0 first_of long_by joined_by pieces halves blake2b_by chain_by before parameter initial Rattle.blake2b.specs.Blake2b.block pad words_of FBy fold_by local flips mixed_by round_by GBy turn_by sum row rotr number_at table quick nibbles nibble pairs
first_0_0 = refl

first_0_1 : first_of (long_by quick) h 0 1 ≡ b0_0_1
unfolding h b0_0_1 first_of long_by joined_by pieces halves blake2b_by chain_by before parameter initial Rattle.blake2b.specs.Blake2b.block pad words_of FBy fold_by local flips mixed_by round_by GBy turn_by sum row rotr number_at table quick nibbles nibble pairs
first_0_1 = refl

first_1_0 : first_of (long_by quick) h 1 0 ≡ b0_1_0
unfolding h b0_1_0 first_of long_by joined_by pieces halves blake2b_by chain_by before parameter initial Rattle.blake2b.specs.Blake2b.block pad words_of FBy fold_by local flips mixed_by round_by GBy turn_by sum row rotr number_at table quick nibbles nibble pairs
first_1_0 = refl

first_1_1 : first_of (long_by quick) h 1 1 ≡ b0_1_1
unfolding h b0_1_1 first_of long_by joined_by pieces halves blake2b_by chain_by before parameter initial Rattle.blake2b.specs.Blake2b.block pad words_of FBy fold_by local flips mixed_by round_by GBy turn_by sum row rotr number_at table quick nibbles nibble pairs
first_1_1 = refl

first_2_0 : first_of (long_by quick) h 2 0 ≡ b0_2_0
unfolding h b0_2_0 first_of long_by joined_by pieces halves blake2b_by chain_by before parameter initial Rattle.blake2b.specs.Blake2b.block pad words_of FBy fold_by local flips mixed_by round_by GBy turn_by sum row rotr number_at table quick nibbles nibble pairs
first_2_0 = refl

first_2_1 : first_of (long_by quick) h 2 1 ≡ b0_2_1
unfolding h b0_2_1 first_of long_by joined_by pieces halves blake2b_by chain_by before parameter initial Rattle.blake2b.specs.Blake2b.block pad words_of FBy fold_by local flips mixed_by round_by GBy turn_by sum row rotr number_at table quick nibbles nibble pairs
first_2_1 = refl

first_3_0 : first_of (long_by quick) h 3 0 ≡ b0_3_0
unfolding h b0_3_0 first_of long_by joined_by pieces halves blake2b_by chain_by before parameter initial Rattle.blake2b.specs.Blake2b.block pad words_of FBy fold_by local flips mixed_by round_by GBy turn_by sum row rotr number_at table quick nibbles nibble pairs
first_3_0 = refl

first_3_1 : first_of (long_by quick) h 3 1 ≡ b0_3_1
unfolding h b0_3_1 first_of long_by joined_by pieces halves blake2b_by chain_by before parameter initial Rattle.blake2b.specs.Blake2b.block pad words_of FBy fold_by local flips mixed_by round_by GBy turn_by sum row rotr number_at table quick nibbles nibble pairs
first_3_1 = refl

-- mR-S is the memory after slice S of pass R; slice 0 of pass 0 has no more than the first blocks
unfoldable m0_0 : List ℕ
m0_0 =
    b0_0_0 ++ b0_0_1 ++ replicate 768 0
    ++ b0_1_0 ++ b0_1_1 ++ replicate 768 0
    ++ b0_2_0 ++ b0_2_1 ++ replicate 768 0
    ++ b0_3_0 ++ b0_3_1 ++ replicate 768 0

laid : put 25 b0_3_1 (put 24 b0_3_0 (put 17 b0_2_1 (put 16 b0_2_0 (put 9 b0_1_1 (put 8 b0_1_0 (put 1 b0_0_1 (put 0 b0_0_0 (replicate 4096 0)))))))) ≡ m0_0
unfolding put m0_0 b0_0_0 b0_0_1 b0_1_0 b0_1_1 b0_2_0 b0_2_1 b0_3_0 b0_3_1
laid = refl

begun : start_of (long_by quick) h 4 2 (replicate 4096 0) ≡ m0_0
unfolding start_of
begun = rw (first_0_0, first_0_1, first_1_0, first_1_1, first_2_0, first_2_1, first_3_0, first_3_1, laid)

slice_0_0 : fill_slice_of compress_quick (xors_by quick) params 0 0 m0_0 ≡ m0_0
unfolding fill_slice_of fill_segment_of segment_length
slice_0_0 = refl

-- this slice computes an address block for each of its blocks, so it is taken lane by lane
unfoldable m0_1_0 : List ℕ
m0_1_0 =
    b0_0_0 ++ b0_0_1 ++ b0_0_2 ++ b0_0_3 ++ replicate 512 0
    ++ b0_1_0 ++ b0_1_1 ++ replicate 768 0
    ++ b0_2_0 ++ b0_2_1 ++ replicate 768 0
    ++ b0_3_0 ++ b0_3_1 ++ replicate 768 0

segment_0_1_0 : fill_segment_of compress_quick (xors_by quick) params 0 1 0 m0_0 ≡ m0_1_0
unfolding m0_0 m0_1_0 b0_0_0 b0_0_1 b0_1_0 b0_1_1 b0_2_0 b0_2_1 b0_3_0 b0_3_1 b0_0_2 b0_0_3 fill_segment_of fill_of new_of word_of address_of block put reference_column area_start place area finished_length reference_lane previous_column segment_length compress_quick compress_by xors_by columns_of rows_of registers permutation_by quarter_at_by quarter_by multiply_add rotr table quick nibbles nibble pairs
segment_0_1_0 = refl

unfoldable m0_1_1 : List ℕ
m0_1_1 =
    b0_0_0 ++ b0_0_1 ++ b0_0_2 ++ b0_0_3 ++ replicate 512 0
    ++ b0_1_0 ++ b0_1_1 ++ b0_1_2 ++ b0_1_3 ++ replicate 512 0
    ++ b0_2_0 ++ b0_2_1 ++ replicate 768 0
    ++ b0_3_0 ++ b0_3_1 ++ replicate 768 0

segment_0_1_1 : fill_segment_of compress_quick (xors_by quick) params 0 1 1 m0_1_0 ≡ m0_1_1
unfolding m0_1_0 m0_1_1 b0_0_0 b0_0_1 b0_0_2 b0_0_3 b0_1_0 b0_1_1 b0_2_0 b0_2_1 b0_3_0 b0_3_1 b0_1_2 b0_1_3 fill_segment_of fill_of new_of word_of address_of block put reference_column area_start place area finished_length reference_lane previous_column segment_length compress_quick compress_by xors_by columns_of rows_of registers permutation_by quarter_at_by quarter_by multiply_add rotr table quick nibbles nibble pairs
segment_0_1_1 = refl

unfoldable m0_1_2 : List ℕ
m0_1_2 =
    b0_0_0 ++ b0_0_1 ++ b0_0_2 ++ b0_0_3 ++ replicate 512 0
    ++ b0_1_0 ++ b0_1_1 ++ b0_1_2 ++ b0_1_3 ++ replicate 512 0
    ++ b0_2_0 ++ b0_2_1 ++ b0_2_2 ++ b0_2_3 ++ replicate 512 0
    ++ b0_3_0 ++ b0_3_1 ++ replicate 768 0

segment_0_1_2 : fill_segment_of compress_quick (xors_by quick) params 0 1 2 m0_1_1 ≡ m0_1_2
unfolding m0_1_1 m0_1_2 b0_0_0 b0_0_1 b0_0_2 b0_0_3 b0_1_0 b0_1_1 b0_1_2 b0_1_3 b0_2_0 b0_2_1 b0_3_0 b0_3_1 b0_2_2 b0_2_3 fill_segment_of fill_of new_of word_of address_of block put reference_column area_start place area finished_length reference_lane previous_column segment_length compress_quick compress_by xors_by columns_of rows_of registers permutation_by quarter_at_by quarter_by multiply_add rotr table quick nibbles nibble pairs
segment_0_1_2 = refl

unfoldable m0_1 : List ℕ
m0_1 =
    b0_0_0 ++ b0_0_1 ++ b0_0_2 ++ b0_0_3 ++ replicate 512 0
    ++ b0_1_0 ++ b0_1_1 ++ b0_1_2 ++ b0_1_3 ++ replicate 512 0
    ++ b0_2_0 ++ b0_2_1 ++ b0_2_2 ++ b0_2_3 ++ replicate 512 0
    ++ b0_3_0 ++ b0_3_1 ++ b0_3_2 ++ b0_3_3 ++ replicate 512 0

segment_0_1_3 : fill_segment_of compress_quick (xors_by quick) params 0 1 3 m0_1_2 ≡ m0_1
unfolding m0_1_2 m0_1 b0_0_0 b0_0_1 b0_0_2 b0_0_3 b0_1_0 b0_1_1 b0_1_2 b0_1_3 b0_2_0 b0_2_1 b0_2_2 b0_2_3 b0_3_0 b0_3_1 b0_3_2 b0_3_3 fill_segment_of fill_of new_of word_of address_of block put reference_column area_start place area finished_length reference_lane previous_column segment_length compress_quick compress_by xors_by columns_of rows_of registers permutation_by quarter_at_by quarter_by multiply_add rotr table quick nibbles nibble pairs
segment_0_1_3 = refl

slice_0_1 : fill_slice_of compress_quick (xors_by quick) params 0 1 m0_0 ≡ m0_1
unfolding fill_slice_of
slice_0_1 = rw (segment_0_1_0, segment_0_1_1, segment_0_1_2, segment_0_1_3)

unfoldable m0_2 : List ℕ
m0_2 =
    b0_0_0 ++ b0_0_1 ++ b0_0_2 ++ b0_0_3 ++ b0_0_4 ++ b0_0_5 ++ replicate 256 0
    ++ b0_1_0 ++ b0_1_1 ++ b0_1_2 ++ b0_1_3 ++ b0_1_4 ++ b0_1_5 ++ replicate 256 0
    ++ b0_2_0 ++ b0_2_1 ++ b0_2_2 ++ b0_2_3 ++ b0_2_4 ++ b0_2_5 ++ replicate 256 0
    ++ b0_3_0 ++ b0_3_1 ++ b0_3_2 ++ b0_3_3 ++ b0_3_4 ++ b0_3_5 ++ replicate 256 0

slice_0_2 : fill_slice_of compress_quick (xors_by quick) params 0 2 m0_1 ≡ m0_2
unfolding m0_1 m0_2 b0_0_0 b0_0_1 b0_0_2 b0_0_3 b0_1_0 b0_1_1 b0_1_2 b0_1_3 b0_2_0 b0_2_1 b0_2_2 b0_2_3 b0_3_0 b0_3_1 b0_3_2 b0_3_3 b0_0_4 b0_0_5 b0_1_4 b0_1_5 b0_2_4 b0_2_5 b0_3_4 b0_3_5 fill_slice_of fill_segment_of fill_of new_of word_of address_of block put reference_column area_start place area finished_length reference_lane previous_column segment_length compress_quick compress_by xors_by columns_of rows_of registers permutation_by quarter_at_by quarter_by multiply_add rotr table quick nibbles nibble pairs
slice_0_2 = refl

unfoldable m0_3 : List ℕ
m0_3 =
    b0_0_0 ++ b0_0_1 ++ b0_0_2 ++ b0_0_3 ++ b0_0_4 ++ b0_0_5 ++ b0_0_6 ++ b0_0_7
    ++ b0_1_0 ++ b0_1_1 ++ b0_1_2 ++ b0_1_3 ++ b0_1_4 ++ b0_1_5 ++ b0_1_6 ++ b0_1_7
    ++ b0_2_0 ++ b0_2_1 ++ b0_2_2 ++ b0_2_3 ++ b0_2_4 ++ b0_2_5 ++ b0_2_6 ++ b0_2_7
    ++ b0_3_0 ++ b0_3_1 ++ b0_3_2 ++ b0_3_3 ++ b0_3_4 ++ b0_3_5 ++ b0_3_6 ++ b0_3_7

slice_0_3 : fill_slice_of compress_quick (xors_by quick) params 0 3 m0_2 ≡ m0_3
unfolding m0_2 m0_3 b0_0_0 b0_0_1 b0_0_2 b0_0_3 b0_0_4 b0_0_5 b0_1_0 b0_1_1 b0_1_2 b0_1_3 b0_1_4 b0_1_5 b0_2_0 b0_2_1 b0_2_2 b0_2_3 b0_2_4 b0_2_5 b0_3_0 b0_3_1 b0_3_2 b0_3_3 b0_3_4 b0_3_5 b0_0_6 b0_0_7 b0_1_6 b0_1_7 b0_2_6 b0_2_7 b0_3_6 b0_3_7 fill_slice_of fill_segment_of fill_of new_of word_of address_of block put reference_column area_start place area finished_length reference_lane previous_column segment_length compress_quick compress_by xors_by columns_of rows_of registers permutation_by quarter_at_by quarter_by multiply_add rotr table quick nibbles nibble pairs
slice_0_3 = refl

unfoldable m1_0 : List ℕ
m1_0 =
    b1_0_0 ++ b1_0_1 ++ b0_0_2 ++ b0_0_3 ++ b0_0_4 ++ b0_0_5 ++ b0_0_6 ++ b0_0_7
    ++ b1_1_0 ++ b1_1_1 ++ b0_1_2 ++ b0_1_3 ++ b0_1_4 ++ b0_1_5 ++ b0_1_6 ++ b0_1_7
    ++ b1_2_0 ++ b1_2_1 ++ b0_2_2 ++ b0_2_3 ++ b0_2_4 ++ b0_2_5 ++ b0_2_6 ++ b0_2_7
    ++ b1_3_0 ++ b1_3_1 ++ b0_3_2 ++ b0_3_3 ++ b0_3_4 ++ b0_3_5 ++ b0_3_6 ++ b0_3_7

slice_1_0 : fill_slice_of compress_quick (xors_by quick) params 1 0 m0_3 ≡ m1_0
unfolding m0_3 m1_0 b0_0_0 b0_0_1 b0_0_2 b0_0_3 b0_0_4 b0_0_5 b0_0_6 b0_0_7 b0_1_0 b0_1_1 b0_1_2 b0_1_3 b0_1_4 b0_1_5 b0_1_6 b0_1_7 b0_2_0 b0_2_1 b0_2_2 b0_2_3 b0_2_4 b0_2_5 b0_2_6 b0_2_7 b0_3_0 b0_3_1 b0_3_2 b0_3_3 b0_3_4 b0_3_5 b0_3_6 b0_3_7 b1_0_0 b1_0_1 b1_1_0 b1_1_1 b1_2_0 b1_2_1 b1_3_0 b1_3_1 fill_slice_of fill_segment_of fill_of new_of word_of address_of block put reference_column area_start place area finished_length reference_lane previous_column segment_length compress_quick compress_by xors_by columns_of rows_of registers permutation_by quarter_at_by quarter_by multiply_add rotr table quick nibbles nibble pairs
slice_1_0 = refl

unfoldable m1_1 : List ℕ
m1_1 =
    b1_0_0 ++ b1_0_1 ++ b1_0_2 ++ b1_0_3 ++ b0_0_4 ++ b0_0_5 ++ b0_0_6 ++ b0_0_7
    ++ b1_1_0 ++ b1_1_1 ++ b1_1_2 ++ b1_1_3 ++ b0_1_4 ++ b0_1_5 ++ b0_1_6 ++ b0_1_7
    ++ b1_2_0 ++ b1_2_1 ++ b1_2_2 ++ b1_2_3 ++ b0_2_4 ++ b0_2_5 ++ b0_2_6 ++ b0_2_7
    ++ b1_3_0 ++ b1_3_1 ++ b1_3_2 ++ b1_3_3 ++ b0_3_4 ++ b0_3_5 ++ b0_3_6 ++ b0_3_7

slice_1_1 : fill_slice_of compress_quick (xors_by quick) params 1 1 m1_0 ≡ m1_1
unfolding m1_0 m1_1 b1_0_0 b1_0_1 b0_0_2 b0_0_3 b0_0_4 b0_0_5 b0_0_6 b0_0_7 b1_1_0 b1_1_1 b0_1_2 b0_1_3 b0_1_4 b0_1_5 b0_1_6 b0_1_7 b1_2_0 b1_2_1 b0_2_2 b0_2_3 b0_2_4 b0_2_5 b0_2_6 b0_2_7 b1_3_0 b1_3_1 b0_3_2 b0_3_3 b0_3_4 b0_3_5 b0_3_6 b0_3_7 b1_0_2 b1_0_3 b1_1_2 b1_1_3 b1_2_2 b1_2_3 b1_3_2 b1_3_3 fill_slice_of fill_segment_of fill_of new_of word_of address_of block put reference_column area_start place area finished_length reference_lane previous_column segment_length compress_quick compress_by xors_by columns_of rows_of registers permutation_by quarter_at_by quarter_by multiply_add rotr table quick nibbles nibble pairs
slice_1_1 = refl

unfoldable m1_2 : List ℕ
m1_2 =
    b1_0_0 ++ b1_0_1 ++ b1_0_2 ++ b1_0_3 ++ b1_0_4 ++ b1_0_5 ++ b0_0_6 ++ b0_0_7
    ++ b1_1_0 ++ b1_1_1 ++ b1_1_2 ++ b1_1_3 ++ b1_1_4 ++ b1_1_5 ++ b0_1_6 ++ b0_1_7
    ++ b1_2_0 ++ b1_2_1 ++ b1_2_2 ++ b1_2_3 ++ b1_2_4 ++ b1_2_5 ++ b0_2_6 ++ b0_2_7
    ++ b1_3_0 ++ b1_3_1 ++ b1_3_2 ++ b1_3_3 ++ b1_3_4 ++ b1_3_5 ++ b0_3_6 ++ b0_3_7

slice_1_2 : fill_slice_of compress_quick (xors_by quick) params 1 2 m1_1 ≡ m1_2
unfolding m1_1 m1_2 b1_0_0 b1_0_1 b1_0_2 b1_0_3 b0_0_4 b0_0_5 b0_0_6 b0_0_7 b1_1_0 b1_1_1 b1_1_2 b1_1_3 b0_1_4 b0_1_5 b0_1_6 b0_1_7 b1_2_0 b1_2_1 b1_2_2 b1_2_3 b0_2_4 b0_2_5 b0_2_6 b0_2_7 b1_3_0 b1_3_1 b1_3_2 b1_3_3 b0_3_4 b0_3_5 b0_3_6 b0_3_7 b1_0_4 b1_0_5 b1_1_4 b1_1_5 b1_2_4 b1_2_5 b1_3_4 b1_3_5 fill_slice_of fill_segment_of fill_of new_of word_of address_of block put reference_column area_start place area finished_length reference_lane previous_column segment_length compress_quick compress_by xors_by columns_of rows_of registers permutation_by quarter_at_by quarter_by multiply_add rotr table quick nibbles nibble pairs
slice_1_2 = refl

unfoldable m1_3 : List ℕ
m1_3 =
    b1_0_0 ++ b1_0_1 ++ b1_0_2 ++ b1_0_3 ++ b1_0_4 ++ b1_0_5 ++ b1_0_6 ++ b1_0_7
    ++ b1_1_0 ++ b1_1_1 ++ b1_1_2 ++ b1_1_3 ++ b1_1_4 ++ b1_1_5 ++ b1_1_6 ++ b1_1_7
    ++ b1_2_0 ++ b1_2_1 ++ b1_2_2 ++ b1_2_3 ++ b1_2_4 ++ b1_2_5 ++ b1_2_6 ++ b1_2_7
    ++ b1_3_0 ++ b1_3_1 ++ b1_3_2 ++ b1_3_3 ++ b1_3_4 ++ b1_3_5 ++ b1_3_6 ++ b1_3_7

slice_1_3 : fill_slice_of compress_quick (xors_by quick) params 1 3 m1_2 ≡ m1_3
unfolding m1_2 m1_3 b1_0_0 b1_0_1 b1_0_2 b1_0_3 b1_0_4 b1_0_5 b0_0_6 b0_0_7 b1_1_0 b1_1_1 b1_1_2 b1_1_3 b1_1_4 b1_1_5 b0_1_6 b0_1_7 b1_2_0 b1_2_1 b1_2_2 b1_2_3 b1_2_4 b1_2_5 b0_2_6 b0_2_7 b1_3_0 b1_3_1 b1_3_2 b1_3_3 b1_3_4 b1_3_5 b0_3_6 b0_3_7 b1_0_6 b1_0_7 b1_1_6 b1_1_7 b1_2_6 b1_2_7 b1_3_6 b1_3_7 fill_slice_of fill_segment_of fill_of new_of word_of address_of block put reference_column area_start place area finished_length reference_lane previous_column segment_length compress_quick compress_by xors_by columns_of rows_of registers permutation_by quarter_at_by quarter_by multiply_add rotr table quick nibbles nibble pairs
slice_1_3 = refl

unfoldable m2_0 : List ℕ
m2_0 =
    b2_0_0 ++ b2_0_1 ++ b1_0_2 ++ b1_0_3 ++ b1_0_4 ++ b1_0_5 ++ b1_0_6 ++ b1_0_7
    ++ b2_1_0 ++ b2_1_1 ++ b1_1_2 ++ b1_1_3 ++ b1_1_4 ++ b1_1_5 ++ b1_1_6 ++ b1_1_7
    ++ b2_2_0 ++ b2_2_1 ++ b1_2_2 ++ b1_2_3 ++ b1_2_4 ++ b1_2_5 ++ b1_2_6 ++ b1_2_7
    ++ b2_3_0 ++ b2_3_1 ++ b1_3_2 ++ b1_3_3 ++ b1_3_4 ++ b1_3_5 ++ b1_3_6 ++ b1_3_7

slice_2_0 : fill_slice_of compress_quick (xors_by quick) params 2 0 m1_3 ≡ m2_0
unfolding m1_3 m2_0 b1_0_0 b1_0_1 b1_0_2 b1_0_3 b1_0_4 b1_0_5 b1_0_6 b1_0_7 b1_1_0 b1_1_1 b1_1_2 b1_1_3 b1_1_4 b1_1_5 b1_1_6 b1_1_7 b1_2_0 b1_2_1 b1_2_2 b1_2_3 b1_2_4 b1_2_5 b1_2_6 b1_2_7 b1_3_0 b1_3_1 b1_3_2 b1_3_3 b1_3_4 b1_3_5 b1_3_6 b1_3_7 b2_0_0 b2_0_1 b2_1_0 b2_1_1 b2_2_0 b2_2_1 b2_3_0 b2_3_1 fill_slice_of fill_segment_of fill_of new_of word_of address_of block put reference_column area_start place area finished_length reference_lane previous_column segment_length compress_quick compress_by xors_by columns_of rows_of registers permutation_by quarter_at_by quarter_by multiply_add rotr table quick nibbles nibble pairs
slice_2_0 = refl

unfoldable m2_1 : List ℕ
m2_1 =
    b2_0_0 ++ b2_0_1 ++ b2_0_2 ++ b2_0_3 ++ b1_0_4 ++ b1_0_5 ++ b1_0_6 ++ b1_0_7
    ++ b2_1_0 ++ b2_1_1 ++ b2_1_2 ++ b2_1_3 ++ b1_1_4 ++ b1_1_5 ++ b1_1_6 ++ b1_1_7
    ++ b2_2_0 ++ b2_2_1 ++ b2_2_2 ++ b2_2_3 ++ b1_2_4 ++ b1_2_5 ++ b1_2_6 ++ b1_2_7
    ++ b2_3_0 ++ b2_3_1 ++ b2_3_2 ++ b2_3_3 ++ b1_3_4 ++ b1_3_5 ++ b1_3_6 ++ b1_3_7

slice_2_1 : fill_slice_of compress_quick (xors_by quick) params 2 1 m2_0 ≡ m2_1
unfolding m2_0 m2_1 b2_0_0 b2_0_1 b1_0_2 b1_0_3 b1_0_4 b1_0_5 b1_0_6 b1_0_7 b2_1_0 b2_1_1 b1_1_2 b1_1_3 b1_1_4 b1_1_5 b1_1_6 b1_1_7 b2_2_0 b2_2_1 b1_2_2 b1_2_3 b1_2_4 b1_2_5 b1_2_6 b1_2_7 b2_3_0 b2_3_1 b1_3_2 b1_3_3 b1_3_4 b1_3_5 b1_3_6 b1_3_7 b2_0_2 b2_0_3 b2_1_2 b2_1_3 b2_2_2 b2_2_3 b2_3_2 b2_3_3 fill_slice_of fill_segment_of fill_of new_of word_of address_of block put reference_column area_start place area finished_length reference_lane previous_column segment_length compress_quick compress_by xors_by columns_of rows_of registers permutation_by quarter_at_by quarter_by multiply_add rotr table quick nibbles nibble pairs
slice_2_1 = refl

unfoldable m2_2 : List ℕ
m2_2 =
    b2_0_0 ++ b2_0_1 ++ b2_0_2 ++ b2_0_3 ++ b2_0_4 ++ b2_0_5 ++ b1_0_6 ++ b1_0_7
    ++ b2_1_0 ++ b2_1_1 ++ b2_1_2 ++ b2_1_3 ++ b2_1_4 ++ b2_1_5 ++ b1_1_6 ++ b1_1_7
    ++ b2_2_0 ++ b2_2_1 ++ b2_2_2 ++ b2_2_3 ++ b2_2_4 ++ b2_2_5 ++ b1_2_6 ++ b1_2_7
    ++ b2_3_0 ++ b2_3_1 ++ b2_3_2 ++ b2_3_3 ++ b2_3_4 ++ b2_3_5 ++ b1_3_6 ++ b1_3_7

slice_2_2 : fill_slice_of compress_quick (xors_by quick) params 2 2 m2_1 ≡ m2_2
unfolding m2_1 m2_2 b2_0_0 b2_0_1 b2_0_2 b2_0_3 b1_0_4 b1_0_5 b1_0_6 b1_0_7 b2_1_0 b2_1_1 b2_1_2 b2_1_3 b1_1_4 b1_1_5 b1_1_6 b1_1_7 b2_2_0 b2_2_1 b2_2_2 b2_2_3 b1_2_4 b1_2_5 b1_2_6 b1_2_7 b2_3_0 b2_3_1 b2_3_2 b2_3_3 b1_3_4 b1_3_5 b1_3_6 b1_3_7 b2_0_4 b2_0_5 b2_1_4 b2_1_5 b2_2_4 b2_2_5 b2_3_4 b2_3_5 fill_slice_of fill_segment_of fill_of new_of word_of address_of block put reference_column area_start place area finished_length reference_lane previous_column segment_length compress_quick compress_by xors_by columns_of rows_of registers permutation_by quarter_at_by quarter_by multiply_add rotr table quick nibbles nibble pairs
slice_2_2 = refl

unfoldable m2_3 : List ℕ
m2_3 =
    b2_0_0 ++ b2_0_1 ++ b2_0_2 ++ b2_0_3 ++ b2_0_4 ++ b2_0_5 ++ b2_0_6 ++ b2_0_7
    ++ b2_1_0 ++ b2_1_1 ++ b2_1_2 ++ b2_1_3 ++ b2_1_4 ++ b2_1_5 ++ b2_1_6 ++ b2_1_7
    ++ b2_2_0 ++ b2_2_1 ++ b2_2_2 ++ b2_2_3 ++ b2_2_4 ++ b2_2_5 ++ b2_2_6 ++ b2_2_7
    ++ b2_3_0 ++ b2_3_1 ++ b2_3_2 ++ b2_3_3 ++ b2_3_4 ++ b2_3_5 ++ b2_3_6 ++ b2_3_7

slice_2_3 : fill_slice_of compress_quick (xors_by quick) params 2 3 m2_2 ≡ m2_3
unfolding m2_2 m2_3 b2_0_0 b2_0_1 b2_0_2 b2_0_3 b2_0_4 b2_0_5 b1_0_6 b1_0_7 b2_1_0 b2_1_1 b2_1_2 b2_1_3 b2_1_4 b2_1_5 b1_1_6 b1_1_7 b2_2_0 b2_2_1 b2_2_2 b2_2_3 b2_2_4 b2_2_5 b1_2_6 b1_2_7 b2_3_0 b2_3_1 b2_3_2 b2_3_3 b2_3_4 b2_3_5 b1_3_6 b1_3_7 b2_0_6 b2_0_7 b2_1_6 b2_1_7 b2_2_6 b2_2_7 b2_3_6 b2_3_7 fill_slice_of fill_segment_of fill_of new_of word_of address_of block put reference_column area_start place area finished_length reference_lane previous_column segment_length compress_quick compress_by xors_by columns_of rows_of registers permutation_by quarter_at_by quarter_by multiply_add rotr table quick nibbles nibble pairs
slice_2_3 = refl

all : fill_all_of compress_quick (xors_by quick) params m0_0 ≡ m2_3
unfolding fill_all_of fill_pass_of
all = rw (slice_0_0, slice_0_1, slice_0_2, slice_0_3, slice_1_0, slice_1_1, slice_1_2, slice_1_3, slice_2_0, slice_2_1, slice_2_2, slice_2_3)

tagged : tag_by (long_by quick) (xors_by quick) params 32 m2_3 ≡ tag
unfolding m2_3 b2_0_0 b2_0_1 b2_0_2 b2_0_3 b2_0_4 b2_0_5 b2_0_6 b2_0_7 b2_1_0 b2_1_1 b2_1_2 b2_1_3 b2_1_4 b2_1_5 b2_1_6 b2_1_7 b2_2_0 b2_2_1 b2_2_2 b2_2_3 b2_2_4 b2_2_5 b2_2_6 b2_2_7 b2_3_0 b2_3_1 b2_3_2 b2_3_3 b2_3_4 b2_3_5 b2_3_6 b2_3_7 tag_by last_of block segment_length xors_by long_by joined_by pieces halves blake2b_by chain_by before parameter initial Rattle.blake2b.specs.Blake2b.block pad words_of FBy fold_by local flips mixed_by round_by GBy turn_by sum row rotr number_at table quick nibbles nibble pairs
tagged = refl

pub rfc9106_argon2id : argon2 params 32 password salt secret associated ≡ tag
unfolding argon2_of segment_length
rfc9106_argon2id = argon2_quick params 32 password salt secret associated ∙ rw (hash, begun, all, tagged)
