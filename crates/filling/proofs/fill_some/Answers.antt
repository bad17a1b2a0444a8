-- `filling::fill_some` meets its contract: what is left of the segment leads to the same end, and each word is the block's, be it from an address
-- block or from the block before. Assumes nothing.
use mathlib.Core.Path.{sym, ◌∙◌}
use native.Mathlib.Omega.{arith}
use borrow.Author.Rules.{rules}
use Rattle.filling.proofs.Filling.{from_addresses, word_dependent}
use Rattle.filling.proofs.Inner.{fillable}
use Rattle.memory.proofs.Loop.{leads_next}
use Rattle.filling.proofs.fill_some.Goals as goal
use Rattle.filling.proofs.fill_some.Goals.{in-Some, in-None}

pub fill_with-requires : goal.fill_with-requires
fill_with-requires c =
    let l = c.loop-block in (
      fillable c.requires l.invariant.0.long (omega arith) (omega arith),
      elim c.match-addresses.branch [
        | in-Some w ↦ let h = rw w.in-Some.is at l.invariant.1 in from_addresses _ _ _ _ _ _ h.0 (w.word-is ∙ rw (h.1, h.2) at w.word-word.ensures.word)
        | in-None w ↦ let h = rw w.in-None.is at l.invariant.1 in w.word-is ∙ w.previous_word-word.ensures ∙ sym (word_dependent _ _ _ _ _ _ h)
      ],
    )

pub loop-block-preserved : goal.loop-block-preserved
loop-block-preserved c =
    let l = c.loop-block in (
      leads_next l.invariant.0 _ (omega arith) c.fill_with.ensures (search rules),
      elim c.match-addresses.branch [
        | in-Some w ↦ let h = rw w.in-Some.is at l.invariant.1 in let same = w.word-word.ensures.same in rw w.addresses-is (h.0, same.0 ∙ h.1, same.1 ∙ h.2)
        | in-None w ↦ rw w.addresses-is l.invariant.1
      ],
    )
