-- `params::Params::block_count` meets its contract: all lanes have at most m blocks. Assumes nothing.
use native.Mathlib.Omega.{arith}
use Rattle.params.proofs.Sizes.{blocks_le}
use Rattle.params.proofs.Params.block_count.Goals as goal

pub overflow_mul-result : goal.overflow_mul-result
overflow_mul-result c =
    let P = c.args.self in
    rw c.lane_length.ensures.result (omega (arith, blocks_le P.memory P.lanes))
