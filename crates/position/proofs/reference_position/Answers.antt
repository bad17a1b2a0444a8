-- `position::reference_position` meets its contract where the costs pass and a step fills the block: the area has a place.
-- Assumes nothing.
use Prim.Native.Nat.{ℕ}
use mathlib.Core.Bool.{true}
use mathlib.Core.Path.{◌≡◌, sym, ◌∙◌}
use Rattle.answer.specs.Answers.{first}
use Rattle.params.specs.Limits.{cost_rows, segment_length}
use Rattle.params.proofs.Within.{Within, within, two, segment_most}
use Rattle.position.specs.Position.{fills, reference_column}
use Rattle.position.proofs.Accepted.{Filled, filled, accepts}
use Rattle.position.proofs.Bound.{area_bound}
use Rattle.position.proofs.reference_position.Goals as goal

-- past the tests the costs are within their limits, and the block is one that a step fills
known : (p m t r sl l k s : ℕ) → 0 ≡ first (cost_rows p m t) → s ≡ segment_length m p → fills p s t r sl l k ≡ true
    → Within p m t × Filled p (segment_length m p) t r sl l k
known p m t r sl l k s costs is f = (within p m t (sym costs), filled p (segment_length m p) t r sl l k (rw (← is) f))

pub invariant_of-slice : goal.invariant_of-slice
invariant_of-slice c =
    let a = c.args in
    let s = c.segment_of-length.ensures.result in
    let k = known a.lanes a.memory a.passes a.segment.pass a.segment.slice a.segment.lane.0 a.block _ c.in_ok-check_costs.ensures.answer s (sym c.fills.ensures ∙ c.if-not-fills.false) in
    record { fits = rw s (segment_most k.0); within = k.1.slice }

pub reference_column-block-requires : goal.reference_column-block-requires
reference_column-block-requires c =
    let a = c.args in
    let s = c.segment_of-length.ensures.result in
    let k = known a.lanes a.memory a.passes a.segment.pass a.segment.slice a.segment.lane.0 a.block _ c.in_ok-check_costs.ensures.answer s (sym c.fills.ensures ∙ c.if-not-fills.false) in
    (rw s k.1.inside, rw (s, c.eq.ensures, c.reference_lane-lane.ensures) (area_bound (two k.0) k.1 a.word).some)

pub returns : goal.returns
unfolding reference_column
returns c =
    let a = c.args in
    let s = c.segment_of-length.ensures.result in
    let k = known a.lanes a.memory a.passes a.segment.pass a.segment.slice a.segment.lane.0 a.block _ c.in_ok-check_costs.ensures.answer s (sym c.fills.ensures ∙ c.if-not-fills.false) in
    accepts k.0 k.1 c.reference_lane-lane.ensures
    (rw (← s, ← c.reference_lane-lane.ensures, ← c.eq.ensures) c.reference_column-block.ensures)
