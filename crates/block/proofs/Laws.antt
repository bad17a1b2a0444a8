-- What other crates cite of blocks: the lengths of what is made of them. Assumes nothing.
use Rattle.std.proofs.Common.{◌≡◌, ℕ, List, length}
use Rattle.word.proofs.Table.{length-table}
use Rattle.block.specs.Block.{block_words, zeros, xors, compress}

pub length-zeros : length zeros ≡ block_words
length-zeros = length-table _ block_words

pub length-xors : (x y : List ℕ) → length (xors x y) ≡ block_words
unfolding xors
length-xors x y = length-table _ block_words

pub length-compress : (x y : List ℕ) → length (compress x y) ≡ block_words
unfolding compress
length-compress x y = length-xors _ _
