-- `block::Block::xor` meets its contract: each call of the closure gives its word. Assumes nothing.
use Rattle.std.proofs.Common.{rules, get_or, bit_xor}
use Rattle.word.proofs.Table.{by_calls}
use Rattle.block.specs.Block.{block_words, xors}
use Rattle.block.proofs.Block.xor.Goals as goal

pub returns : goal.returns
unfolding xors
returns c =
    let a = c.args in
    record {
      result =
          by_calls (λ k. bit_xor (get_or a.x.words k 0) (get_or a.y.words k 0)) (λ k r f h. search rules) block_words c.from_fn.ensures.items;
    }
