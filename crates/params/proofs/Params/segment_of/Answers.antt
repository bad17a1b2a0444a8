-- `params::Params::segment_of` meets its contract; a division by no lanes gives 0. Assumes nothing.
use native.Mathlib.Nat.{div-zero}
use borrow.Author.Rules.{rules}
use Rattle.params.specs.Limits.{segment_length}
use Rattle.params.proofs.Params.segment_of.Goals as goal

pub returns-then-lanes-eq0 : goal.returns-then-lanes-eq0
unfolding segment_length
returns-then-lanes-eq0 c = record { result = rw c.if-lanes-eq0.true (rw div-zero) }

pub returns : goal.returns
unfolding segment_length
returns c = search rules
