-- `word::load_words` meets its contract: the loop fills the table word by word. Assumes nothing.
use Prim.Native.Nat.{ℕ, ◌*◌, ◌<◌}
use mathlib.Core.Path.{◌≡◌}
use lib.ListN.{get_or}
use Rattle.word.specs.Word.{word_bytes, word_at}
use Rattle.word.proofs.load_words.Given as goal

abbrev pub invariant-loop-n : goal.invariant-loop-n
invariant-loop-n l = (j : ℕ) → j < l.n → get_or l.words j 0 ≡ word_at l.s (word_bytes * j)
