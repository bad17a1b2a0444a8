-- `blake2b_compression::Count::add` meets its contract: the carry of the low word goes to the high one. Assumes nothing.
use Rattle.std.proofs.Common.{rules}
use Rattle.blake2b_compression.specs.Compression.{offset}
use Rattle.blake2b_compression.proofs.Counting.{added}
use Rattle.blake2b_compression.proofs.Count.add.Goals as goal

pub returns : goal.returns
unfolding offset
returns c =
    let a = c.args in
    let sum = c.overflowing_add-low.ensures in
    record { result = added a.self.low a.self.high a.n _ (search rules) (search rules) sum.value sum.overflow (search rules) }
