-- The block of zeros begins with no words. Assumes nothing.
use mathlib.Core.List.{[]}
use mathlib.Core.Path.{◌≡◌, refl}
use Rattle.word.specs.Table.{table}
use Rattle.block.specs.Block.{zeros}
use Rattle.address.specs.Address.{beginning}

pub zeros_beginning : zeros ≡ beginning []
unfolding table
zeros_beginning = refl
