-- `blake2b_compression::mixing::all_rounds` meets its contract. The invariant: v has had i rounds. Assumes nothing.
use Rattle.std.proofs.Common.{refl}
use Rattle.blake2b_compression.specs.Compression.{mixed}
use Rattle.blake2b_compression.proofs.Rounds.{row_is, held_small, round_more}
use Rattle.blake2b_compression.proofs.mixing.all_rounds.Goals as goal

pub loop-i-init : goal.loop-i-init
unfolding mixed
loop-i-init c = refl

pub scheduled-w-requires : goal.scheduled-w-requires
scheduled-w-requires c = let i = c.loop-i.i in held_small i (row_is i _)

pub loop-i-preserved : goal.loop-i-preserved
loop-i-preserved c =
    let i = c.loop-i.i in
    round_more i _ _ c.one_round-u.ensures c.scheduled-w.ensures (row_is i _) c.loop-i.invariant
