-- `lent::digest` meets its contract. The invariant: the bytes that are left lead to the same state as all of them. Assumes nothing.
use Rattle.std.proofs.Common.{◌≡◌, drop}
use Rattle.word.specs.Word.{bytes}
use Rattle.blake2b.specs.Stream.{feed_all}
use Rattle.lent.proofs.Feeding.{whole}
use Rattle.lent.proofs.digest.Given as goal

abbrev pub invariant-loop-word : goal.invariant-loop-word
invariant-loop-word l = feed_all l.s (bytes (drop l.word-index l.words)) ≡ whole l.words
