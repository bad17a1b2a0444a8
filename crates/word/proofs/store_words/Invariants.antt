-- `word::store_words` meets its contract. The invariant: the front of the bytes stands in out, before what stood there. Assumes nothing.
use Prim.Native.Nat.{◌*◌, ◌≤◌}
use mathlib.Core.List.{◌++◌}
use mathlib.Core.Path.{◌≡◌}
use lib.ListN.{length, take, drop}
use Rattle.word.specs.Word.{word_bytes, bytes}
use Rattle.word.proofs.store_words.Given as goal

abbrev pub invariant-loop-i : goal.invariant-loop-i
invariant-loop-i l = (l.i ≤ word_bytes * length l.words) × (l.out ≡ take l.i (bytes l.words) ++ drop l.i l.initial.out)
