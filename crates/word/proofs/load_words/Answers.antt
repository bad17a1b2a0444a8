-- `word::load_words` meets its contract: the loop fills the table word by word. Assumes nothing.
use Prim.Native.Nat.{◌*◌}
use native.Mathlib.Omega.{arith}
use Rattle.word.specs.Word.{word_bytes, word_at, words_of}
use Rattle.word.proofs.Table.{is_table}
use Rattle.word.proofs.load_words.Goals as goal

pub returns : goal.returns
unfolding words_of
returns c =
    let l = c.loop-n in
    record { words = is_table (λ j. word_at _ (word_bytes * j)) _ l.words l.auto.words (λ j b. l.invariant j (omega arith)) }
