-- `blake2b_compression::vector` meets its contract. Assumes nothing.
use Rattle.word.specs.Table.{table}
use Rattle.blake2b_compression.proofs.Counting.{tail, vector_is}
use Rattle.blake2b_compression.proofs.vector.Goals as goal

pub returns : goal.returns
unfolding table tail
returns c =
    vector_is c.args.h c.args.low c.args.high c.flips_of-f.result c.args.last
    c.well_formed.0.1.0.1 c.ranges.low.fits c.ranges.high.fits c.flips_of-f.ensures
