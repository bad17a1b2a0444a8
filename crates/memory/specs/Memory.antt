-- Document 01, "Domain and sizes": memory is a list of words; block b has words 128b to 128b + 127.
use Rattle.std.specs.Prelude.{ℕ, ◌+◌, ◌*◌, List, ◌++◌, take, drop}
use Rattle.block.specs.Block.{block_words}

-- the words of block b
unfoldable pub block : ℕ → List ℕ → List ℕ
block b w = take block_words (drop (block_words * b) w)

-- w, with the words x for those of block b
unfoldable pub put : ℕ → List ℕ → List ℕ → List ℕ
put b x w = take (block_words * b) w ++ x ++ drop (block_words * b + block_words) w
