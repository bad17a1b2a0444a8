-- `initial::initial_hash` meets its contract: what is fed, piece after piece, is the input, and the digest its hash. Assumes nothing.
use Rattle.initial.specs.Initial.{hash_input}
use Rattle.initial.proofs.HashInput.{and_then, all_fed}
use Rattle.initial.proofs.initial_hash.Goals as goal

pub returns : goal.returns
unfolding hash_input
returns c =
    let one = and_then _ _ _ c.feed_header-s.ensures c.feed_counted-s.ensures in
    let two = and_then _ _ _ one c.feed_counted-s-2.ensures in
    record {
      result =
          all_fed _ _ _ _ _ _ c.initial.ensures.result c.begin-s.ensures.result
          (and_then _ _ _ (and_then _ _ _ two c.feed_counted-s-3.ensures) c.feed_counted-s-4.ensures) c.end.ensures.result;
    }
