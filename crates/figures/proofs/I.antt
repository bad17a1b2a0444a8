-- Argon2i, version 19, 8 KiB, one lane, one pass, of "password" and "somesalt", with no secret and no data: the definition gives, by computation,
-- what Debian's `printf %s password | argon2 somesalt -i -v 13 -k 8 -p 1 -t 1 -l 32 -r` prints. Only the tag comes from there: the initial hash
-- and blocks 0 and 1 stand here so that each is computed once, and a lemma checks each. Assumes nothing.
use mathlib.Core.List.{List, [], ◌∷◌}
use mathlib.Core.Path.{◌≡◌, refl, ◌∙◌}
use Prim.Native.Nat.{ℕ}
use lib.ListN.{replicate}
use Rattle.word.specs.Table.{table}
use Rattle.word.specs.Word.{rotr, number_at, words_of}
use Rattle.blake2b_compression.specs.Compression.{row, sum, flips, local}
use Rattle.blake2b.specs.Blake2b.{pad, parameter, initial, before}
use Rattle.blake2b.specs.Blake2b
use Rattle.blake2b_long.specs.Long.{halves, pieces}
use Rattle.block.specs.Block.{multiply_add, registers}
use Rattle.params.specs.Limits.{i, v13, segment_length}
use Rattle.params.specs.declared.Params.{Params}
use Rattle.position.specs.Position.{previous_column, reference_lane, finished_length, area, place, area_start, reference_column}
use Rattle.initial.specs.Initial.{header, hash_input}
use Rattle.memory.specs.Memory.{block, put}
use Rattle.argon2.specs.Argon2.{argon2}
use Rattle.figures.proofs.Inputs.{smallest, password, salt}
use Rattle.figures_quick.proofs.Xor.{pairs, nibble, nibbles, quick}
use Rattle.figures_quick.proofs.QuickHash.{turn_by, GBy, round_by, mixed_by, fold_by, FBy, chain_by, blake2b_by, joined_by, long_by}
use Rattle.figures_quick.proofs.QuickBlock.{rows_of, columns_of, quarter_by, quarter_at_by, permutation_by, xors_by, compress_by, compress_quick}
use Rattle.figures_quick.proofs.Whole.{address_of, word_of, new_of, fill_of, fill_segment_of, fill_slice_of, fill_pass_of, fill_all_of, first_of, start_of, last_of, tag_by, argon2_of, argon2_quick}

abbrev params : Params
params = smallest i v13 1

-- what is printed
abbrev tag : List ℕ
tag =
    0xcb ∷ 0xf2 ∷ 0xbc ∷ 0xe4 ∷ 0x7e ∷ 0x6d ∷ 0x23 ∷ 0x99 ∷ 0x96 ∷ 0x26 ∷ 0x14 ∷ 0x3f ∷ 0xab ∷ 0xc5 ∷ 0xdb ∷ 0x69 ∷ 0x16 ∷ 0x47 ∷
    0x43 ∷ 0xee ∷ 0x00 ∷ 0x0d ∷ 0xdd ∷ 0x3f ∷ 0x88 ∷ 0x95 ∷ 0xa6 ∷ 0xf8 ∷ 0x2c ∷ 0xfb ∷ 0x9a ∷ 0x6e ∷ []

-- the initial hash
unfoldable h : List ℕ
h =
    0xea ∷ 0x86 ∷ 0x3e ∷ 0x62 ∷ 0x47 ∷ 0x45 ∷ 0xaf ∷ 0xbe ∷ 0x45 ∷ 0xa0 ∷ 0xa7 ∷ 0x7a ∷ 0x2f ∷ 0x39 ∷ 0xb9 ∷ 0x79 ∷ 0xb3 ∷ 0x43 ∷
    0xe6 ∷ 0x5a ∷ 0x73 ∷ 0x00 ∷ 0xca ∷ 0xec ∷ 0x56 ∷ 0xa3 ∷ 0x81 ∷ 0x59 ∷ 0x8a ∷ 0x8f ∷ 0xc6 ∷ 0x52 ∷ 0x81 ∷ 0x58 ∷ 0x69 ∷ 0xa1 ∷
    0x11 ∷ 0xd0 ∷ 0x0d ∷ 0xcc ∷ 0xd6 ∷ 0x1d ∷ 0x2c ∷ 0x9d ∷ 0x68 ∷ 0x4f ∷ 0xbc ∷ 0xd4 ∷ 0xa6 ∷ 0x0b ∷ 0xe2 ∷ 0xb5 ∷ 0xc9 ∷ 0x98 ∷
    0x86 ∷ 0x01 ∷ 0xa0 ∷ 0x5d ∷ 0xe8 ∷ 0x37 ∷ 0xfd ∷ 0x6f ∷ 0xdc ∷ 0x99 ∷ []

-- blocks 0 and 1
unfoldable b0 : List ℕ
b0 =
    0x9f4a0427a760e31d ∷ 0x5abe2e271087a8d8 ∷ 0xa85cebcc95006836 ∷ 0xeeb95a3711019232 ∷ 0xda903986c2000765 ∷ 0x751cba5c55be5302 ∷
    0x6a1d499e8534bc15 ∷ 0x196b18e4840093b4 ∷ 0x2d162180ecaefe4f ∷ 0xd939081233900f98 ∷ 0xf50d4e8f5ccf37c3 ∷ 0x3a22caaf8ee75217 ∷
    0xa39fc26fc11e4552 ∷ 0x661fce87cf00a0d9 ∷ 0x0c7f0af1242e5412 ∷ 0x777f832ea012bbbd ∷ 0x99f50b6a9048e310 ∷ 0xb99e0d1d6bae7933 ∷
    0x2f4e1398a411f6a9 ∷ 0xa12c8f983d4674e6 ∷ 0x91478fd80d4ba1f9 ∷ 0x89afac64021997c3 ∷ 0x2e9dce347920db1b ∷ 0xcc867ac207529a1d ∷
    0x9f836b4289ffa007 ∷ 0x219f0a3aae7622c6 ∷ 0x1d63f83bcc2cf315 ∷ 0x3303ec24c51033de ∷ 0x031a4fc4478b5097 ∷ 0xbd94d2aa1ca926c5 ∷
    0xbdb7783de4db6b8b ∷ 0xc5404cdfc12bc3b0 ∷ 0x7589fa29775456ff ∷ 0x52cf477f2dd928b0 ∷ 0x9767675dca65f435 ∷ 0x102546d8557c5dc9 ∷
    0xbcca64e907f5d187 ∷ 0xbd3ae83ab6f36fb7 ∷ 0x3aa0c764b316be51 ∷ 0xdd09cb8e57956edd ∷ 0xaa138d5c9bc56e39 ∷ 0x864b390d47aa13f6 ∷
    0xf18a137cd220a305 ∷ 0x4787110a1981026e ∷ 0x7852c75063de1c34 ∷ 0x8b29559cec49ace3 ∷ 0xbf616217a1feba52 ∷ 0xb8a4865092ce4bed ∷
    0x739aa9ca49bafd65 ∷ 0x84114ed9a9651f79 ∷ 0xd4162a2aba66a94f ∷ 0x05b149c0f066761a ∷ 0xf9988251d4033992 ∷ 0x008506653cb6430d ∷
    0x6e912b93b77ab8d4 ∷ 0xa9e18c7c7d71a8d6 ∷ 0xd82249f8f2214b4b ∷ 0xd6552fa2f7e9e386 ∷ 0x52f27e42215d6d5a ∷ 0x6d3e55d627effb52 ∷
    0x951bff5ceb6ea6f1 ∷ 0x463b6c43a9b6d31f ∷ 0x714a0aba6e4ab787 ∷ 0xdd2a8fb4fc5beab1 ∷ 0x2c0606e3c4a42724 ∷ 0x9fe95f9c2f84342e ∷
    0x0829624219018e1c ∷ 0x30df19e1b2def7a6 ∷ 0x615e1333fced69c2 ∷ 0x6cc1a57f7e1e7ed3 ∷ 0x66578994ca3b0aa1 ∷ 0xd84c56894a870811 ∷
    0x6668864d0908912f ∷ 0x2c17571838eedbe7 ∷ 0x8d968227cca0b459 ∷ 0xc47ec10e8e71419e ∷ 0x29ff16fe112b42a5 ∷ 0xd51475ba18d4600c ∷
    0xec7fe5b0f80366cf ∷ 0xf5a04c9853530763 ∷ 0xb20c21e3ca9ec12c ∷ 0x19135ac55ecbb2e9 ∷ 0xcb27142db6e6905e ∷ 0x4cc60269ab36979d ∷
    0xa7e81496ab3e0f3f ∷ 0x1b3bd31da0338110 ∷ 0xca03a0737f34c30c ∷ 0x33a72cec8dd051d8 ∷ 0xa3baae6da46ae94e ∷ 0xfd4fc8928871a4c3 ∷
    0x1dcfafe432210eff ∷ 0x2ec79d598a6ac9ad ∷ 0xe6eeefe8c130b7ec ∷ 0x8ffc7a12289e693c ∷ 0xa9c9f3deff8d315c ∷ 0xd4c4621bfddf29bc ∷
    0xc1ffc3a5987e8868 ∷ 0x04df749159a4c375 ∷ 0xf2d4a64810e0120e ∷ 0xf9fec671c890b1de ∷ 0x9171adc97f5a9043 ∷ 0xd308e86460b482ed ∷
    0x7ef40efbdb6d65e9 ∷ 0x095d5e9a058dd680 ∷ 0x1842c9eb8be708f9 ∷ 0x0d87d6d861ab5f4c ∷ 0xfecf3eed2236b311 ∷ 0x36efcf0efd4ef478 ∷
    0x51457283342a24fb ∷ 0x63428ba309c0d65a ∷ 0xf6690a989f708bfc ∷ 0xfbf075c22935b3b8 ∷ 0xbb361022e3538d9b ∷ 0x28224ec94a1605c6 ∷
    0xdcef59bbc8e5346a ∷ 0x453758fb7296209a ∷ 0xa556982918b5e4ae ∷ 0x2470f60590aeb068 ∷ 0x0a83bf1296fbb855 ∷ 0x8260b4105c148350 ∷
    0xd5100848b8b1032d ∷ 0xf43e0daa2b2d518a ∷ 0x2371f211602b00a9 ∷ 0xfcb434f502a60535 ∷ 0x473c4b3034323bf2 ∷ 0x9a3e6b659a943514 ∷
    0xe38afab3d5f5692e ∷ 0x9ef64989c2eb2fbc ∷ []

unfoldable b1 : List ℕ
b1 =
    0xed1419d411438084 ∷ 0x7c7f1f79409443b9 ∷ 0xaa7aafaf3faf3d63 ∷ 0xdf056e848cf64894 ∷ 0xf102facb2b019977 ∷ 0x9525547379ba5163 ∷
    0x6fdbf45a1646bb58 ∷ 0x9cd45c3fc00eebe5 ∷ 0xe2822de37e20676a ∷ 0x80e5bfc05ba31cb8 ∷ 0xc0930db0f478fbf4 ∷ 0x6fc86f107ee2ef81 ∷
    0xd79045193db271e5 ∷ 0xda8f6e4780115b7f ∷ 0x1a9beee7cd0def7c ∷ 0xfcf3bee8523243f6 ∷ 0xfdb23e77c36e99bb ∷ 0x405c1f37bb69cc7e ∷
    0x50ff582c00ba3d04 ∷ 0xc34ac9ba9a144a3c ∷ 0x531040369971e3b4 ∷ 0xea29b0d5341c0fb7 ∷ 0x60b442a82fb4c52c ∷ 0x09630d5100d24cd8 ∷
    0x85ba70278c20be2d ∷ 0xa2c3b993911d0415 ∷ 0x17d442b19696fc06 ∷ 0xf9c2e6b75a23e836 ∷ 0x610dbb567d92a685 ∷ 0xe7b369abed56cd5b ∷
    0xb59fcff0f98bb607 ∷ 0xc8b261c63f542088 ∷ 0x4188db31b980218d ∷ 0xa69a3b0d842b4ab7 ∷ 0xbc1b7641a2519e51 ∷ 0x8ed4978189843280 ∷
    0xf8f26f3cc932a0fa ∷ 0x43a7d31774be8b3a ∷ 0xb602b98f4d665dc0 ∷ 0xf9e61c991721ccef ∷ 0x84998ccb84188ffb ∷ 0xc89f5cff09f6c375 ∷
    0x9ec9e66c70bd4f49 ∷ 0x455032e6deaf52c7 ∷ 0x1d6593a6c3f78909 ∷ 0xab620e03f6b94227 ∷ 0xa78dae1980cb3559 ∷ 0x0941f90712aaf8e5 ∷
    0x7079e4671eefd6e7 ∷ 0x404b9ad3aea365c0 ∷ 0x03986e52a9490008 ∷ 0x9515b14d6768651c ∷ 0xcb9e56ebfb274d3c ∷ 0x45d3b0ed53070182 ∷
    0x437f0e29225c31e4 ∷ 0x612ba836a5d116aa ∷ 0x68b4cd24af80f8bd ∷ 0xa9e0cbc38160a019 ∷ 0x18085fd7cd11efe0 ∷ 0x35b1a30e991a1736 ∷
    0x95b8ce2300a99f95 ∷ 0x1392f6d4ec5ccdb5 ∷ 0xfbd25c7d2477055a ∷ 0x380a715f2baeeb0b ∷ 0xd81c5255dabe6a0f ∷ 0x68b037b029cba178 ∷
    0xd7df1ddc4dccb29b ∷ 0x7f0ba6e6df805f33 ∷ 0xf12d4e20aac2a08a ∷ 0x933656169b499ad7 ∷ 0x1836e3c1b04fc85f ∷ 0xc67817e132ddb7ac ∷
    0xebe9fd4f358f8b31 ∷ 0x85e09da9ef6f3ad5 ∷ 0xddc281edcf976e73 ∷ 0xb8c9188beceb7892 ∷ 0xea32dfbc88eb9144 ∷ 0x155f555e50baf1e7 ∷
    0x3dd771d0a4ec22ad ∷ 0x5a2aa5419cd1f307 ∷ 0xc06ece9808e302da ∷ 0x957a5e09d3ccced5 ∷ 0x7fc0639d5c9293b9 ∷ 0x5a14f66940f56011 ∷
    0x012b9ce94921d472 ∷ 0xcd6410a477a302ee ∷ 0x6aabf0cac2568752 ∷ 0xfd42878172687919 ∷ 0x3eec7a830691c3b4 ∷ 0x6a5f2d77d843777a ∷
    0x52c9875ae141382e ∷ 0x025106e3a5e2848c ∷ 0x3ff62d0673ed8abd ∷ 0x7c18cd92d7c62889 ∷ 0x663a6941f132746b ∷ 0x918db81adc549591 ∷
    0x1a2c6c240437bc45 ∷ 0x686fed78f209e908 ∷ 0x6a1905d9ff909d73 ∷ 0x0d8346513ed10352 ∷ 0x2036824bf6326a1e ∷ 0x160e53e95cd62280 ∷
    0xb30ad1c016525294 ∷ 0x89e14f6116f08b74 ∷ 0xf4c78107bd320689 ∷ 0x2f21c5fd6c8df863 ∷ 0x853d69ffd4753573 ∷ 0x233f6309f53d3856 ∷
    0x18256f9d264b4867 ∷ 0xf8ca5685829f3053 ∷ 0x358dfb8d195d324c ∷ 0x078a78c2e305133f ∷ 0xdbfa39c6adcb034e ∷ 0x668ef5a1dbe51e0f ∷
    0xbaa0a7a46cf59e39 ∷ 0x4ac1b4099fba4f66 ∷ 0x7fa1f71ef62d7f91 ∷ 0xcec188d79fb35893 ∷ 0xd2df96289727d58c ∷ 0xb140d4c9e2b1cb15 ∷
    0x342303a06a1da578 ∷ 0x4f244bf4ebaa06c2 ∷ 0xde49fcaac6c7b8dc ∷ 0xbcc74709ad2df808 ∷ 0x6e4ea10f29b6671b ∷ 0xb59eff1b38f45cd6 ∷
    0x25d7220b95eee265 ∷ 0x3d65608b3312d5a8 ∷ []

hash : blake2b_by quick 64 (hash_input params 32 password salt [] []) ≡ h
unfolding h hash_input header blake2b_by chain_by before parameter initial Rattle.blake2b.specs.Blake2b.block pad words_of FBy fold_by local flips mixed_by round_by GBy turn_by sum row rotr number_at table quick nibbles nibble pairs
hash = refl

first_0 : first_of (long_by quick) h 0 0 ≡ b0
unfolding h b0 first_of long_by joined_by pieces halves blake2b_by chain_by before parameter initial Rattle.blake2b.specs.Blake2b.block pad words_of FBy fold_by local flips mixed_by round_by GBy turn_by sum row rotr number_at table quick nibbles nibble pairs
first_0 = refl

first_1 : first_of (long_by quick) h 0 1 ≡ b1
unfolding h b1 first_of long_by joined_by pieces halves blake2b_by chain_by before parameter initial Rattle.blake2b.specs.Blake2b.block pad words_of FBy fold_by local flips mixed_by round_by GBy turn_by sum row rotr number_at table quick nibbles nibble pairs
first_1 = refl

-- all the filling, and the tag
rest : tag_by (long_by quick) (xors_by quick) params 32 (fill_all_of compress_quick (xors_by quick) params (put 1 b1 (put 0 b0 (replicate 1024 0)))) ≡ tag
unfolding b0 b1 tag_by last_of fill_all_of fill_pass_of fill_slice_of fill_segment_of fill_of new_of word_of address_of block put reference_column area_start place area finished_length reference_lane previous_column segment_length compress_quick compress_by xors_by columns_of rows_of registers permutation_by quarter_at_by quarter_by multiply_add long_by joined_by pieces halves blake2b_by chain_by before parameter initial Rattle.blake2b.specs.Blake2b.block pad words_of FBy fold_by local flips mixed_by round_by GBy turn_by sum row rotr number_at table quick nibbles nibble pairs
rest = refl

pub argon2i_one_pass : argon2 params 32 password salt [] [] ≡ tag
unfolding argon2_of start_of segment_length
argon2i_one_pass = argon2_quick params 32 password salt [] [] ∙ rw (hash, first_0, first_1, rest)
