-- What accepted parameters are: the limits as facts on numbers, and what they say of the sizes. For the proofs of the crates above.
-- Assumes nothing.
use Prim.Native.Nat.{ℕ, ◌≤◌, ◌*◌}
use mathlib.Core.List.{[], ◌∷◌}
use mathlib.Core.Path.{◌≡◌}
use native.Mathlib.Nat.{le-div_iff_mul-le}
use native.Mathlib.Omega.{arith}
use borrow.Author.Tests.{ltb-false, eqb-false, le-ltb, ne_eqb}
use Rattle.answer.specs.Answers.{first}
use Rattle.answer.proofs.Rows.{passed, accepted, passed_front}
use Rattle.params.specs.Limits.{cost_rows, rows, tag_too_short, segment_length, slices, max_lanes, max_memory}
use Rattle.params.specs.declared.Params.{Params}
use Rattle.params.proofs.Sizes.{lane_le, blocks_le}

-- lanes p, memory cost m and passes t that rows 3 to 7 accept
pub record Within (p m t : ℕ) : Type 0 where
  pub some_lanes : 1 ≤ p
  pub few_lanes : p ≤ max_lanes
  pub enough : 2 * slices * p ≤ m
  pub most : m ≤ max_memory
  pub some_passes : 1 ≤ t

pub within : (p m t : ℕ) → first (cost_rows p m t) ≡ 0 → Within p m t
within p m t h =
    let q = passed (cost_rows p m t) tt h in
    record {
      some_lanes = omega (arith, eqb-false p 0 q.0);
      few_lanes = ltb-false max_lanes p q.1.0;
      enough = ltb-false m (2 * slices * p) q.1.1.0;
      most = ltb-false max_memory m q.1.1.1.0;
      some_passes = omega (arith, eqb-false t 0 q.1.1.1.1.0);
    }

-- and the other way: such costs are accepted
pub within_accepted : {p m t : ℕ} → Within p m t → first (cost_rows p m t) ≡ 0
within_accepted {p} {m} {t} w =
    accepted (cost_rows p m t) (
      ne_eqb p 0 (λ e. omega arith),
      (
        le-ltb max_lanes p w.few_lanes,
        (le-ltb m (2 * slices * p) w.enough, (le-ltb max_memory m w.most, (ne_eqb t 0 (λ e. omega arith), tt))),
      ),
    )

pub params_within : (P : Params) → first (rows P) ≡ 0 → Within P.lanes P.memory P.passes
params_within P h =
    let costs = cost_rows P.lanes P.memory P.passes in
    within P.lanes P.memory P.passes
    (accepted costs (passed_front costs (tag_too_short P.configured ∷ []) (passed (rows P) tt h).1.1))

-- a segment has two blocks at least
pub two : {p m t : ℕ} → Within p m t → 2 ≤ segment_length m p
unfolding segment_length
two {p} {m} w = (le-div_iff_mul-le {k = slices * p} {x = 2} {y = m} (omega arith)).1 (omega arith)

-- all the blocks are at most the memory cost, and so is a lane
pub blocks_most : {p m t : ℕ} → Within p m t → p * (slices * segment_length m p) ≤ max_memory
blocks_most {p} {m} w = omega (arith, blocks_le m p)

pub segment_most : {p m t : ℕ} → Within p m t → slices * segment_length m p ≤ max_memory
segment_most {p} {m} w = omega (arith, lane_le m p)
