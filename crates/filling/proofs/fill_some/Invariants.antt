-- `filling::fill_some` meets its contract: what is left of the segment leads to the same end, and where the segment takes its words from address
-- blocks, the one that is kept is of the segment. Assumes nothing.
use mathlib.Core.Bool.{true, false}
use mathlib.Core.Path.{◌≡◌}
use Rattle.std.specs.Prelude.{MatchOption}
use Rattle.address.specs.Address.{addressed}
use Rattle.filling.specs.Filling.{fill, fill_blocks}
use Rattle.memory.proofs.Loop.{Leads}
use Rattle.filling.proofs.fill_some.Given as goal

abbrev pub invariant-loop-block : goal.invariant-loop-block
invariant-loop-block l =
    let P = l.params in
    let r = l.segment.pass in
    let sl = l.segment.slice in
    let lane = l.segment.lane.0 in
    let from = l.fn.blocks.start in
    let to = l.fn.blocks.end in
    Leads to (λ k. fill P r sl lane k) (fill_blocks P r sl lane from to l.initial.words) l.initial.words l.words l.block
    × MatchOption l.addresses (addressed P r sl ≡ false) (λ a. (addressed P r sl ≡ true) × (a.params ≡ P) × (a.segment ≡ l.segment))
