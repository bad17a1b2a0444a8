-- `block::Block::to_bytes` meets its contract: the bytes fill the array. Assumes nothing.
use Rattle.std.proofs.Common.{◌≡◌, ℕ, ◌*◌, List, length, replicate, arith, rules}
use Rattle.word.specs.Word.{word_bytes}
use Rattle.word.proofs.Bytes.{store_whole}
use Rattle.block.specs.Block.{block_bytes, block_words}
use Rattle.block.proofs.Block.to_bytes.Goals as goal

pub returns : goal.returns
returns c =
    let w = c.args.self.words in
    let full : length w ≡ block_words = search rules in
    let room : List ℕ = replicate block_bytes 0 in
    let fits : word_bytes * length w ≡ length room = omega (arith, full) in
    record { result = store_whole w room fits c.store_words.ensures.output }
