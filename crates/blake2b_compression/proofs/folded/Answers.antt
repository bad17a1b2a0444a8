-- `blake2b_compression::folded` meets its contract: each call of the closure gives its word. Assumes nothing.
use Rattle.std.proofs.Common.{◌+◌, rules}
use Rattle.word.proofs.Table.{by_calls}
use Rattle.blake2b_compression.specs.Compression.{◌!◌, ◌⊕◌, state_words, fold}
use Rattle.blake2b_compression.proofs.folded.Goals as goal

pub returns : goal.returns
unfolding fold
returns c =
    let a = c.args in
    by_calls (λ i. a.h ! i ⊕ a.v ! i ⊕ a.v ! (i + state_words)) (λ i r f k. search rules) state_words c.from_fn.ensures.items
