-- Words of an address block, by computation; the figures come from an implementation of its own. The seven numbers of its input differ, and
-- m' differs from m. Assumes nothing.
use mathlib.Core.Path.{◌≡◌, refl}
use mathlib.Core.List.{List}
use Prim.Native.Nat.{ℕ}
use lib.ListN.{get_or}
use Rattle.word.specs.Table.{table}
use Rattle.word.specs.Word.{rotr}
use Rattle.block.specs.Block.{multiply_add, quarter, quarter_at, permutation, registers, rows, columns, xors, compress}
use Rattle.params.specs.Limits.{i, v13, segment_length}
use Rattle.std.specs.Prelude.{None}
use Rattle.params.specs.declared.Params.{Params}
use Rattle.address.specs.Address.{address_block}

-- Argon2i, m = 47, p = 4, t = 7: m' = 32
abbrev numbers : Params
numbers = record { algorithm = i; version = v13; memory = 47; passes = 7; lanes = 4; configured = None }

-- pass 4, slice 3, lane 2, counter 5
abbrev some_block : List ℕ
some_block = address_block numbers 4 3 2 5

pub address_block_first : get_or some_block 0 0 ≡ 4884815231115915464
unfolding table rotr multiply_add quarter quarter_at permutation registers rows columns xors compress segment_length address_block
address_block_first = refl

pub address_block-last : get_or some_block 127 0 ≡ 6752838490646319505
unfolding table rotr multiply_add quarter quarter_at permutation registers rows columns xors compress segment_length address_block
address_block-last = refl
