-- `initial::feed_header` meets its contract: the six numbers are fed in their order. Assumes nothing.
use Rattle.initial.specs.Initial.{header}
use Rattle.initial.proofs.HashInput.{and_then}
use Rattle.initial.proofs.feed_header.Goals as goal

pub returns : goal.returns
unfolding header
returns c =
    let two = and_then _ _ _ c.feed_number-s.ensures c.feed_count-s.ensures in
    let four = and_then _ _ _ (and_then _ _ _ two c.feed_number-s-2.ensures) c.feed_number-s-3.ensures in
    and_then _ _ _ (and_then _ _ _ four c.feed_number-s-4.ensures) c.feed_number.ensures
