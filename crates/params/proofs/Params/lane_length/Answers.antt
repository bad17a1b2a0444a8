-- `params::Params::lane_length` meets its contract: a lane has at most m blocks. Assumes nothing.
use native.Mathlib.Omega.{arith}
use Rattle.params.proofs.Sizes.{lane_le}
use Rattle.params.proofs.Params.lane_length.Goals as goal

pub overflow_mul-result : goal.overflow_mul-result
overflow_mul-result c = omega (arith, lane_le c.args.self.memory c.args.self.lanes)
