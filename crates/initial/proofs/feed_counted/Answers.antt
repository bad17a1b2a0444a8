-- `initial::feed_counted` meets its contract: the count is fed, then the bytes. Assumes nothing.
use Rattle.initial.proofs.HashInput.{and_then}
use Rattle.initial.proofs.feed_counted.Goals as goal

pub returns : goal.returns
returns c = and_then _ _ _ c.feed_count.ensures c.feed.ensures.result
