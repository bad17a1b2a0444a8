-- Argon2id, version 19, 8 KiB, one lane, one pass, of "password" and "somesalt", with no secret and no data: the definition gives, by computation,
-- what Debian's `printf %s password | argon2 somesalt -id -v 13 -k 8 -p 1 -t 1 -l 32 -r` prints. Only the tag comes from there: the initial hash
-- and blocks 0 and 1 stand here so that each is computed once, and a lemma checks each. Assumes nothing.
use mathlib.Core.List.{List, [], ◌∷◌}
use mathlib.Core.Path.{◌≡◌, refl, ◌∙◌}
use Prim.Native.Nat.{ℕ}
use lib.ListN.{replicate}
use Rattle.word.specs.Table.{table}
use Rattle.word.specs.Word.{rotr, number_at, words_of}
use Rattle.blake2b_compression.specs.Compression.{row, sum, flips, local}
use Rattle.blake2b.specs.Blake2b.{pad, parameter, initial, before}
use Rattle.blake2b.specs.Blake2b
use Rattle.blake2b_long.specs.Long.{halves, pieces}
use Rattle.block.specs.Block.{multiply_add, registers}
use Rattle.params.specs.Limits.{id, v13, segment_length}
use Rattle.params.specs.declared.Params.{Params}
use Rattle.position.specs.Position.{previous_column, reference_lane, finished_length, area, place, area_start, reference_column}
use Rattle.initial.specs.Initial.{header, hash_input}
use Rattle.memory.specs.Memory.{block, put}
use Rattle.argon2.specs.Argon2.{argon2}
use Rattle.figures.proofs.Inputs.{smallest, password, salt}
use Rattle.figures_quick.proofs.Xor.{pairs, nibble, nibbles, quick}
use Rattle.figures_quick.proofs.QuickHash.{turn_by, GBy, round_by, mixed_by, fold_by, FBy, chain_by, blake2b_by, joined_by, long_by}
use Rattle.figures_quick.proofs.QuickBlock.{rows_of, columns_of, quarter_by, quarter_at_by, permutation_by, xors_by, compress_by, compress_quick}
use Rattle.figures_quick.proofs.Whole.{address_of, word_of, new_of, fill_of, fill_segment_of, fill_slice_of, fill_pass_of, fill_all_of, first_of, start_of, last_of, tag_by, argon2_of, argon2_quick}

abbrev params : Params
params = smallest id v13 1

-- what is printed
abbrev tag : List ℕ
tag =
    0xf1 ∷ 0x37 ∷ 0xf8 ∷ 0xe1 ∷ 0x86 ∷ 0xa4 ∷ 0x03 ∷ 0xa6 ∷ 0x79 ∷ 0xcc ∷ 0xd0 ∷ 0x60 ∷ 0x6e ∷ 0x5a ∷ 0xb5 ∷ 0xdc ∷ 0xda ∷ 0xfe ∷
    0x43 ∷ 0xc1 ∷ 0x64 ∷ 0x08 ∷ 0x55 ∷ 0xac ∷ 0x8c ∷ 0x6e ∷ 0x33 ∷ 0xe9 ∷ 0xbd ∷ 0x63 ∷ 0xee ∷ 0xb3 ∷ []

-- the initial hash
unfoldable h : List ℕ
h =
    0xd2 ∷ 0xf8 ∷ 0x7c ∷ 0xec ∷ 0x38 ∷ 0xbc ∷ 0xe6 ∷ 0x47 ∷ 0x73 ∷ 0xd7 ∷ 0x2e ∷ 0x03 ∷ 0x74 ∷ 0x8f ∷ 0x5d ∷ 0xb0 ∷ 0x72 ∷ 0x49 ∷
    0xc7 ∷ 0x88 ∷ 0x31 ∷ 0xb7 ∷ 0xe0 ∷ 0xde ∷ 0xdd ∷ 0x6a ∷ 0x03 ∷ 0xeb ∷ 0x44 ∷ 0xe6 ∷ 0x6e ∷ 0x27 ∷ 0xd3 ∷ 0xf0 ∷ 0xa4 ∷ 0x41 ∷
    0x51 ∷ 0xe9 ∷ 0x6a ∷ 0x23 ∷ 0xd5 ∷ 0xd0 ∷ 0xeb ∷ 0x5e ∷ 0x4f ∷ 0x91 ∷ 0x94 ∷ 0x22 ∷ 0x46 ∷ 0xd1 ∷ 0x6a ∷ 0x04 ∷ 0x58 ∷ 0x15 ∷
    0x7e ∷ 0x8a ∷ 0xd4 ∷ 0x93 ∷ 0x1a ∷ 0x72 ∷ 0x25 ∷ 0x77 ∷ 0x4a ∷ 0x61 ∷ []

-- blocks 0 and 1
unfoldable b0 : List ℕ
b0 =
    0xe9862f53a8539e8d ∷ 0x21f209355e126938 ∷ 0xe25fcedf2ff149d0 ∷ 0x51575143e84cc27b ∷ 0xd97459bd49c8c230 ∷ 0x9238e979f5fe0199 ∷
    0xe140b590739470d1 ∷ 0x34b5f06685614cfc ∷ 0xab0f42efca2faee7 ∷ 0xb14d33d27d52c3ab ∷ 0xf6af74eba7508c5f ∷ 0x4d6cbb4d7daeb724 ∷
    0x4b74b54a15b5a9a4 ∷ 0x2518a4a5e21b690d ∷ 0xb2fa5991370e4525 ∷ 0xb619687a585e60e0 ∷ 0xef2fb6352acc00f1 ∷ 0x39ddfc950ce9374d ∷
    0x215f7621427066c5 ∷ 0xd16b8537988a4311 ∷ 0x219dedae31bde1da ∷ 0xf2d5e1b6afeca40b ∷ 0xc63fed6540c57a92 ∷ 0x07190388de28544a ∷
    0x0f74b4f2a1cb0eba ∷ 0x3da2d79e1c8262c8 ∷ 0x4a279e1820819118 ∷ 0x959e99fd503547d4 ∷ 0x14026a276438043a ∷ 0x9d36691700606cba ∷
    0xae206cb2f435e22f ∷ 0x57deaa8750d0bdb5 ∷ 0xe80b2f7efe453a8c ∷ 0x0a14450d3d0c7e5b ∷ 0xb78e91e295bc9542 ∷ 0x51c3cfa03c8590e1 ∷
    0x095774f0c2249bc1 ∷ 0xdc738aadeb54b6d8 ∷ 0xca3a8996c8862679 ∷ 0xe586e60fb6fa3a65 ∷ 0xfb9cdb9bdef7db72 ∷ 0xc9918883f162d8cc ∷
    0x029b6d25b5a6c203 ∷ 0xb1308dd3352a7b47 ∷ 0x6bc230b86948fd5d ∷ 0x401792d00ab15c4a ∷ 0x2ddf53c9aa7b7969 ∷ 0xc2d2df86a5ea3850 ∷
    0xc2f1fa5a8edd4b64 ∷ 0x5166b45fb89d0977 ∷ 0xc30e87dbdfdece75 ∷ 0x94ee4ba52061bc53 ∷ 0xcc0adb766c615043 ∷ 0x7a60e28cd2b64c39 ∷
    0x44c0d82de2125c63 ∷ 0xe47b927c94eae21e ∷ 0x2534a57bcb868259 ∷ 0xd032bffc59d96d50 ∷ 0xd5da178b4c7bf831 ∷ 0xd59d30e9100e9ae9 ∷
    0xfb335f53ec9c8d45 ∷ 0xaf4d213a7e5f3907 ∷ 0x42d9aa16916b22ae ∷ 0xf4f23886b7c25c6e ∷ 0x48a348a8a94376d7 ∷ 0xff7dda8f63d4d781 ∷
    0x8aba54eb38b40203 ∷ 0x629f12ce3712baab ∷ 0x00ba4340fc2651d4 ∷ 0x23fa4cffce78c6a9 ∷ 0x5931868f4493d52c ∷ 0x83ba6443ff10a5ca ∷
    0xe65d1994c4f5a97c ∷ 0x06169adbf52e2e32 ∷ 0xd678f75c90d89721 ∷ 0x85f2602d9d45d57f ∷ 0x7814f6579071d651 ∷ 0x3b662a6a13c47ba6 ∷
    0xa176b9a3a30539b2 ∷ 0x52fdf5d9995df8e4 ∷ 0xd0841dc6c6e6f946 ∷ 0xf2369e3c92618d79 ∷ 0xe65c395b5bc1e299 ∷ 0x106355d8f269ba53 ∷
    0x8a99b1ffb6c814ea ∷ 0x11d26488160fb6e4 ∷ 0x872ccc0d0d2279e4 ∷ 0x9f121fbc81156c8f ∷ 0xbbccfe6966e31368 ∷ 0x6f7d3cae9aac572d ∷
    0xfdf044da82667070 ∷ 0xd7fcafb6d03005b9 ∷ 0x8679acdf6afcdff3 ∷ 0xbb789e6d2b2ec3d4 ∷ 0xbc9daef64332aed8 ∷ 0xbeab427ff5b95619 ∷
    0x758e292e7d1192eb ∷ 0x990a9c6f511c20b6 ∷ 0x09aa5feb579ceef0 ∷ 0x79392790c7f8c7ff ∷ 0xe705079165fab61e ∷ 0x357545b4ed442c0b ∷
    0x3d54c680cc6d00a9 ∷ 0x0e29479fb4b55f3e ∷ 0x2c60bd97ad722e8c ∷ 0x2ce7d572441e9db8 ∷ 0x69e66a924374da2f ∷ 0xa7823e8fcb039315 ∷
    0x3bfadf81c773c47d ∷ 0x3bf7164cdc2d614c ∷ 0x4520c3569099ac9e ∷ 0x3d50b9bc4aae11e6 ∷ 0xaa074e7beb4f9706 ∷ 0x6d896dc63e2c9938 ∷
    0x9192401f6de32711 ∷ 0x85e4a427de10db18 ∷ 0xb062bd68d9718362 ∷ 0x3206e7e6fbe7c45d ∷ 0x8f915063fa31a646 ∷ 0x04b4a5a2cda29dda ∷
    0xd788524b70c10808 ∷ 0x68ae6305564a58c1 ∷ 0x43e198c860736e6b ∷ 0x0c8fb4989e93fa45 ∷ 0xa9cfca2c0a42f2e7 ∷ 0xcfbef6885e5c7320 ∷
    0xfcc4e89e1acb698c ∷ 0xb80aa381bf1b779d ∷ []

unfoldable b1 : List ℕ
b1 =
    0x2b810436ade4a1e7 ∷ 0x0ace799c0e481538 ∷ 0xb48b2407a8b298d2 ∷ 0x68691caea27e48de ∷ 0xb511d0199f1cb47c ∷ 0x22f304198292a669 ∷
    0x46ae43c6e8238f11 ∷ 0xe93e1e790450cc9f ∷ 0xc8b055849ae79b2f ∷ 0x21a8bf8ce3129559 ∷ 0x0edb96a86d783f26 ∷ 0xd0ee542e1f6d08a5 ∷
    0x3e8bc812cb38766d ∷ 0x3ba94dd72fc0f644 ∷ 0xbf3f42a32ff4a7a4 ∷ 0x417e22cbc30662d2 ∷ 0xce28d7d62d9cacd2 ∷ 0xa92d2d2150f552f8 ∷
    0xf985034b653e6f7d ∷ 0x25c3526356c9cd25 ∷ 0xed67472c1a37c9c2 ∷ 0x767125a96bd94ad2 ∷ 0x64374d9f2d90f74d ∷ 0xdc4fb86910bd72ba ∷
    0x79f3a602a106963f ∷ 0xe559dd60a560b816 ∷ 0x9a335c1df7f0e731 ∷ 0x35f4fb1ee9454c56 ∷ 0xd06be063238c31f5 ∷ 0x635626f39b2b755f ∷
    0xdee1140cd7bdb09c ∷ 0xafce22912178a6b9 ∷ 0xd0819605e76d3e1f ∷ 0x565d4b641cc219c5 ∷ 0x47dc2387c134e585 ∷ 0xb75e96b77953d737 ∷
    0x5ea11939e72f7258 ∷ 0xd711e536a739ce09 ∷ 0xf94e0dc953efbd78 ∷ 0xda7f7e186e2bd7d4 ∷ 0x5ac936064fede519 ∷ 0xf7bbaad9b3101cbc ∷
    0xde9c5cbb32da3e8b ∷ 0x59b75df197a9613c ∷ 0xb803d6ea052490e5 ∷ 0xc04d4681b3a22058 ∷ 0x89f29dfbdce08f00 ∷ 0x6bd6dfda713ea3a3 ∷
    0x2a99f98de324c11d ∷ 0xddf54cfc4879b4ca ∷ 0x56503894cd990b8e ∷ 0x3775bce74483e425 ∷ 0xa4ad834377c713e6 ∷ 0x04f06bb981a9815c ∷
    0x252f53a68934b3cd ∷ 0x7094d3086d1905b6 ∷ 0x22369fe4424a6a2f ∷ 0x2be250a468542504 ∷ 0x167b8f29bb306743 ∷ 0x8d5fe09fb54cffba ∷
    0x67675fa64cb8c467 ∷ 0x808c801ed93d5672 ∷ 0xed707e5c32118695 ∷ 0x31a1f6c8d68c7f3b ∷ 0x681340beb98541e8 ∷ 0x3c928a10c0165d11 ∷
    0xe0b63606a4e2d0c5 ∷ 0x03f678ce5ea45a6d ∷ 0xc7cc58df22b89d57 ∷ 0x230c09afc6b6b94e ∷ 0xd4ea220b9ef174d1 ∷ 0xcff0aecfaba40a55 ∷
    0x7e908804764d4741 ∷ 0x6411e702b411ce48 ∷ 0x96fd172e37fde64f ∷ 0x75dd2a29abb29e68 ∷ 0x44fd629d8d9f11b4 ∷ 0x73f9f793cf2f8fb2 ∷
    0x858af11fbd733aba ∷ 0xd720bf2d5da16199 ∷ 0xab8aeddce8a894b5 ∷ 0xadc27195ea569075 ∷ 0x4a63a58217ff37af ∷ 0xfda69b4dbda7d559 ∷
    0x6063749c91906f78 ∷ 0xd50912c763844ab2 ∷ 0xb45ce5b2739fedae ∷ 0xcd5d88b40658f6d4 ∷ 0xbbb41de48984f349 ∷ 0x290ba3cc7afc5fe5 ∷
    0xf5b3c25e213f7bc3 ∷ 0x90cb80d0e98741c6 ∷ 0x7b88334abd6c7c37 ∷ 0x2a2b4a4a82c2a3ad ∷ 0x52c10fc76414701e ∷ 0x77d4281d217f6210 ∷
    0x369f3355df29f0e6 ∷ 0x06ad706f5e926f6e ∷ 0xc585f17fad1a147e ∷ 0x3bad6b4cd9ded788 ∷ 0xf5ca627d2429c1e6 ∷ 0xf5714e1dca87d17b ∷
    0xf972959c047c53fe ∷ 0xe55bb6d8da1f440d ∷ 0x773394f49336c19f ∷ 0x73ac0e703b3e1d94 ∷ 0xfba24f8f8325bcaa ∷ 0x4e752c3f44fbf687 ∷
    0xf70004acada443b4 ∷ 0x00fbf615cead5726 ∷ 0xab5edd05e0e60dc6 ∷ 0x3caf839aa465d5f9 ∷ 0x559a68aa05753240 ∷ 0xb5f4328a08deb448 ∷
    0xc0dc297f9631bf0e ∷ 0x45c60b75d7a41122 ∷ 0x285723a49a7f9bab ∷ 0xba17628041f8ceda ∷ 0xd0dfaaa8e4613f78 ∷ 0x0c2da6d0eaca7dc1 ∷
    0x78cb3dedbbd8d70c ∷ 0xa0d406a8941ff6d9 ∷ 0xe63a7dc256cf3547 ∷ 0x799d4d58608c41ad ∷ 0xbd28689c22659ecb ∷ 0x9c5e16b319bc1e00 ∷
    0x8f528644832a0909 ∷ 0x2b6377c15cd8e0af ∷ []

hash : blake2b_by quick 64 (hash_input params 32 password salt [] []) ≡ h
unfolding h hash_input header blake2b_by chain_by before parameter initial Rattle.blake2b.specs.Blake2b.block pad words_of FBy fold_by local flips mixed_by round_by GBy turn_by sum row rotr number_at table quick nibbles nibble pairs
hash = refl

first_0 : first_of (long_by quick) h 0 0 ≡ b0
unfolding h b0 first_of long_by joined_by pieces halves blake2b_by chain_by before parameter initial Rattle.blake2b.specs.Blake2b.block pad words_of FBy fold_by local flips mixed_by round_by GBy turn_by sum row rotr number_at table quick nibbles nibble pairs
first_0 = refl

first_1 : first_of (long_by quick) h 0 1 ≡ b1
unfolding h b1 first_of long_by joined_by pieces halves blake2b_by chain_by before parameter initial Rattle.blake2b.specs.Blake2b.block pad words_of FBy fold_by local flips mixed_by round_by GBy turn_by sum row rotr number_at table quick nibbles nibble pairs
first_1 = refl

-- all the filling, and the tag
rest : tag_by (long_by quick) (xors_by quick) params 32 (fill_all_of compress_quick (xors_by quick) params (put 1 b1 (put 0 b0 (replicate 1024 0)))) ≡ tag
unfolding b0 b1 tag_by last_of fill_all_of fill_pass_of fill_slice_of fill_segment_of fill_of new_of word_of address_of block put reference_column area_start place area finished_length reference_lane previous_column segment_length compress_quick compress_by xors_by columns_of rows_of registers permutation_by quarter_at_by quarter_by multiply_add long_by joined_by pieces halves blake2b_by chain_by before parameter initial Rattle.blake2b.specs.Blake2b.block pad words_of FBy fold_by local flips mixed_by round_by GBy turn_by sum row rotr number_at table quick nibbles nibble pairs
rest = refl

pub argon2id_one_pass : argon2 params 32 password salt [] [] ≡ tag
unfolding argon2_of start_of segment_length
argon2id_one_pass = argon2_quick params 32 password salt [] [] ∙ rw (hash, first_0, first_1, rest)
