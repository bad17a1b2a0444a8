-- `blake2b_compression::mixing::scheduled` meets its contract: each call of the closure gives its word. Assumes nothing.
use Rattle.std.proofs.Common.{rules}
use Rattle.word.proofs.Table.{by_calls}
use Rattle.blake2b_compression.specs.Compression.{◌!◌, block_words}
use Rattle.blake2b_compression.proofs.mixing.scheduled.Goals as goal

pub returns : goal.returns
returns c =
    by_calls (λ j. c.args.m ! (c.args.s ! j)) (λ j r f' k. search rules) block_words c.from_fn.ensures.items
