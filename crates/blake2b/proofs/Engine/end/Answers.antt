-- `blake2b::Engine::end` meets its contract: the buffer's block is compressed as the last, and its words are laid out. Assumes nothing.
use Prim.Native.Nat.{◌+◌}
use mathlib.Core.Bool.{true}
use mathlib.Core.Path.{◌≡◌, ap, ◌∙◌}
use native.Mathlib.Omega.{arith}
use borrow.Author.Rules.{rules}
use lib.ListN.{length, replicate}
use Rattle.word.specs.Word.{bytes}
use Rattle.word.proofs.Bytes.{store_whole}
use Rattle.blake2b_compression.specs.Compression.{state_words, offset}
use Rattle.blake2b_compression.proofs.Counting.{compressed}
use Rattle.blake2b.specs.Blake2b.{max_output}
use Rattle.blake2b.specs.Stream.{count, sealed}
use Rattle.blake2b.proofs.Engine.end.Goals as goal

pub returns : goal.returns
unfolding sealed count offset
returns c =
    let s = c.args.self in
    let n : length c.compress-h.result ≡ state_words = search rules in
    record {
      result =
          store_whole c.compress-h.result (replicate max_output 0) (omega arith) c.store_words.ensures.output
          ∙ ap bytes (compressed s.h s.buffer (count s + s.filled) true c.compress-h.ensures.result c.add-count.ensures.result);
    }
