-- `blake2b_compression::mixing::all_rounds` meets its contract. The invariant: v has had i rounds. Assumes nothing.
use Rattle.std.proofs.Common.{◌≡◌}
use Rattle.blake2b_compression.specs.Compression.{mixed}
use Rattle.blake2b_compression.proofs.mixing.all_rounds.Given as goal

abbrev pub invariant-loop-i : goal.invariant-loop-i
invariant-loop-i l = l.v ≡ mixed l.i l.m l.initial.v
