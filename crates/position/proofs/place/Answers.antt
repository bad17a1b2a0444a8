-- `position::place` meets its contract: the low half is the definition's. Assumes nothing.
use Rattle.position.specs.Position.{place}
use Rattle.position.proofs.place.Goals as goal

pub returns : goal.returns
unfolding place
returns c = rw c.low_half-low.ensures.result
