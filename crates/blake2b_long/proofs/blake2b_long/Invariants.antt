-- `blake2b_long::blake2b_long` meets its contract. The invariant: what is written, and the pieces that are left, is the whole. Assumes nothing.
use Prim.Native.Nat.{◌-◌, ◌≤◌}
use mathlib.Core.Path.{◌≡◌}
use lib.ListN.{length}
use Rattle.blake2b.specs.Stream.{sealed}
use Rattle.blake2b_long.specs.Long.{long}
use Rattle.blake2b_long.proofs.Writing.{Ahead}
use Rattle.blake2b_long.proofs.blake2b_long.Given as goal

abbrev pub invariant-loop-at : goal.invariant-loop-at
invariant-loop-at l = (l.at ≤ l.n) × (length l.out ≡ l.n) × Ahead (long l.n l.input) (sealed l.s) l.out l.at (l.n - l.at)

abbrev pub decreases-loop-at : goal.decreases-loop-at
decreases-loop-at l = l.n - l.at
