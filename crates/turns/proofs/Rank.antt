-- How far a lane is, what a step adds to that, and the accepted steps in all as those of the lanes. Assumes nothing.
use mathlib.Core.Path.{◌≡◌, refl, sym, ap, ◌∙◌, subst}
use mathlib.Core.Bool.{Bool, true, false, cond, ◌&&◌}
use mathlib.Core.List.{List, [], ◌∷◌}
use Prim.Native.Nat.{ℕ, suc, ◌+◌, ◌*◌, ◌≤◌, ◌<◌}
use native.Mathlib.Omega.{arith}
use native.Mathlib.Nat.{mul-le-mul_right}
use lib.Dec.{eqb, ltb}
use borrow.Author.Tests.{eqb-true, eqb-false, ne_eqb, ltb-false}
use Rattle.params.specs.Limits.{slices, segment, lane_length}
use Rattle.params.specs.declared.Params.{Params}
use Rattle.job.specs.Jobs.{position, unfinished, moved, onward, next_slice}
use Rattle.job.specs.declared.Job.{Job}
use Rattle.job.proofs.Jobs.{Inside, Complete, Bounds, inside_bounds, moved_same, moved_other, onward_unfinished, onward_finished, next_position, next_within, next_pass}
use Rattle.job.proofs.Tests.{any_false}
use Rattle.turns.specs.Play.{State, accepts, step, run, accepted, accepted_steps}
use Rattle.turns.proofs.Steps.{filled, accepted_step, refused_step, ReadyFor, accepted_ready, step_params}
use Rattle.turns.proofs.Sums.{sum, sum_plus, sum_const, sum_point}

-- the blocks of lane l that lie behind the job, those of every pass counted
unfoldable pub rank : Job → ℕ → ℕ
rank j l = j.pass * lane_length j.params + j.slice * segment j.params + position j l

-- ---- one step

moved_high : (j : Job) (a l : ℕ) → Inside j → a < j.params.lanes → position j a < segment j.params → l < j.params.lanes
    → position (moved j a) l ≤ segment j.params
moved_high j a l h la ua k = go (eqb l a) refl
  where
    go : (t : Bool) → eqb l a ≡ t → position (moved j a) l ≤ segment j.params
    go true t =
        let z : Bounds j.params = inside_bounds h in
        subst (λ (i : ℕ). position (moved j a) i ≤ segment j.params) (sym (eqb-true l a t))
        (omega (arith, moved_same j a h.places (omega (arith, z.few_lanes))))
    go false t = omega (arith, h.high l k, moved_other j a l (eqb-false l a t))

-- a job that moves on to the next slice has as many blocks behind it
pub rank_onward : (j : Job) (l : ℕ) → j.slice < slices → l < j.params.lanes → position j l ≤ segment j.params → rank (onward j) l ≡ rank j l
unfolding rank next_slice
rank_onward j l four k high = go (unfinished j) refl
  where
    next : unfinished j ≡ false → (t : Bool) → ltb (j.slice + 1) slices ≡ t → rank (next_slice j) l ≡ rank j l
    next u true t =
        let at : ltb (position j l) (segment j.params) ≡ false = any_false j.params.lanes (λ i. ltb (position j i) (segment j.params)) u l k in
        let e : ((next_slice j).pass ≡ j.pass) × ((next_slice j).slice ≡ j.slice + 1) = next_within j t in
        let p : (next_slice j).pass * (slices * segment j.params) ≡ j.pass * (slices * segment j.params) = ap (λ (v : ℕ). v * (slices * segment j.params)) e.0 in
        let q : (next_slice j).slice * segment j.params ≡ (j.slice + 1) * segment j.params = ap (λ (v : ℕ). v * segment j.params) e.1 in
        omega (arith, ltb-false (position j l) (segment j.params) at, next_position j l)
    next u false t =
        let at : ltb (position j l) (segment j.params) ≡ false = any_false j.params.lanes (λ i. ltb (position j i) (segment j.params)) u l k in
        let e : ((next_slice j).pass ≡ j.pass + 1) × ((next_slice j).slice ≡ 0) = next_pass j t in
        let last : j.slice + 1 ≡ slices = omega (arith, ltb-false (j.slice + 1) slices t) in
        let p : (next_slice j).pass * (slices * segment j.params) ≡ (j.pass + 1) * (slices * segment j.params) = ap (λ (v : ℕ). v * (slices * segment j.params)) e.0 in
        let q : (next_slice j).slice * segment j.params ≡ 0 * segment j.params = ap (λ (v : ℕ). v * segment j.params) e.1 in
        let o : (j.slice + 1) * segment j.params ≡ slices * segment j.params = ap (λ (v : ℕ). v * segment j.params) last in
        omega (arith, ltb-false (position j l) (segment j.params) at, next_position j l)

    go : (t : Bool) → unfinished j ≡ t → rank (onward j) l ≡ rank j l
    go true u = ap (λ (i : Job). rank i l) (onward_unfinished j u)
    go false u = ap (λ (i : Job). rank i l) (onward_finished j u) ∙ next u (ltb (j.slice + 1) slices) refl

rank_moved : (j : Job) (a l : ℕ) → Inside j → a < j.params.lanes → rank (moved j a) l ≡ cond (eqb a l) 1 0 + rank j l
unfolding rank moved
rank_moved j a l h la = go (eqb a l) refl
  where
    go : (t : Bool) → eqb a l ≡ t
        → j.pass * lane_length j.params + j.slice * segment j.params + position (moved j a) l
        ≡ cond t 1 0 + (j.pass * lane_length j.params + j.slice * segment j.params + position j l)
    go true t =
        let z : Bounds j.params = inside_bounds h in
        let m : position (moved j a) l ≡ position j l + 1 =
        subst (λ (i : ℕ). position (moved j a) i ≡ position j i + 1) (eqb-true a l t) (moved_same j a h.places (omega (arith, z.few_lanes))) in
        omega arith
    go false t = omega (arith, moved_other j a l (λ e. eqb-false a l t (sym e)))

pub rank_filled : (σ : State) (a l : ℕ) → ReadyFor σ a → l < σ.job.params.lanes → rank (filled σ a).job l ≡ cond (eqb a l) 1 0 + rank σ.job l
unfolding moved
rank_filled σ a l h k =
    rank_onward (moved σ.job a) l h.inside.within k (moved_high σ.job a l h.inside h.lane h.under k)
    ∙ rank_moved σ.job a l h.inside h.lane

-- an accepted step of a lane adds one to it, and nothing to any other
pub rank_step : (σ : State) (a l : ℕ) → l < σ.job.params.lanes → rank (step σ a).job l ≡ cond (accepts σ a && eqb a l) 1 0 + rank σ.job l
rank_step σ a l k = go (accepts σ a) refl
  where
    go : (t : Bool) → accepts σ a ≡ t → rank (step σ a).job l ≡ cond (t && eqb a l) 1 0 + rank σ.job l
    go true e = ap (λ (τ : State). rank τ.job l) (accepted_step σ a e) ∙ rank_filled σ a l (accepted_ready σ a e) k
    go false e = ap (λ (τ : State). rank τ.job l) (refused_step σ a e) ∙ omega arith

-- ---- a run of steps

lane_after : (σ : State) (a l : ℕ) → l < σ.job.params.lanes → l < (step σ a).job.params.lanes
lane_after σ a l k = subst (λ (P : Params). l < P.lanes) (sym (step_params σ a)) k

-- a lane has gone as far as its accepted steps say
pub rank_run : (σ : State) (ls : List ℕ) (l : ℕ) → l < σ.job.params.lanes → rank (run σ ls).job l ≡ accepted l σ ls + rank σ.job l
rank_run σ [] l k = omega arith
rank_run σ (a ∷ ls) l k = omega (arith, rank_run (step σ a) ls l (lane_after σ a l k), rank_step σ a l k)

-- no step of a lane that is not in use is accepted
idle_step : (σ : State) (a l : ℕ) → σ.job.params.lanes ≤ l → ◌≡◌ {A = ℕ} (cond (accepts σ a && eqb a l) 1 0) 0
idle_step σ a l k = go (accepts σ a) refl
  where
    go : (t : Bool) → accepts σ a ≡ t → ◌≡◌ {A = ℕ} (cond (t && eqb a l) 1 0) 0
    go true e = ap (λ (t : Bool). cond t 1 0) (ne_eqb a l (λ q. omega (arith, (accepted_ready σ a e).lane)))
    go false e = refl

pub idle_run : (σ : State) (ls : List ℕ) (l : ℕ) → σ.job.params.lanes ≤ l → accepted l σ ls ≡ 0
idle_run σ [] l k = refl
idle_run σ (a ∷ ls) l k =
    omega (arith, idle_run (step σ a) ls l (subst (λ (P : Params). P.lanes ≤ l) (sym (step_params σ a)) k), idle_step σ a l k)

-- a step is of one lane in use
sum_step : (σ : State) (a : ℕ) → sum σ.job.params.lanes (λ l. cond (accepts σ a && eqb a l) 1 0) ≡ cond (accepts σ a) 1 0
sum_step σ a = go (accepts σ a) refl
  where
    go : (t : Bool) → accepts σ a ≡ t → sum σ.job.params.lanes (λ l. cond (t && eqb a l) 1 0) ≡ cond t 1 0
    go true e = sum_point σ.job.params.lanes a (accepted_ready σ a e).lane
    go false e = omega (arith, sum_const σ.job.params.lanes 0)

-- the accepted steps in all are those of the lanes in use
pub sum_run : (σ : State) (ls : List ℕ) → accepted_steps σ ls ≡ sum σ.job.params.lanes (λ l. accepted l σ ls)
sum_run σ [] = sym (sum_const σ.job.params.lanes 0 ∙ omega arith)
sum_run σ (a ∷ ls) =
    let n : ℕ = σ.job.params.lanes in
    let rest : accepted_steps (step σ a) ls ≡ sum n (λ l. accepted l (step σ a) ls) =
    sum_run (step σ a) ls ∙ ap (λ (P : Params). sum P.lanes (λ l. accepted l (step σ a) ls)) (step_params σ a) in
    omega (
      arith,
      rest,
      sum_plus n (λ l. cond (accepts σ a && eqb a l) 1 0) (λ l. accepted l (step σ a) ls),
      sum_step σ a,
    )

-- ---- the end

-- a complete job has every lane at its end
pub rank_complete : (j : Job) (l : ℕ) → Complete j → rank j l ≡ j.params.passes * lane_length j.params
unfolding rank
rank_complete j l h =
    let p : j.pass * lane_length j.params ≡ j.params.passes * lane_length j.params = ap (λ (v : ℕ). v * lane_length j.params) h.done in
    let q : j.slice * segment j.params ≡ 0 * segment j.params = ap (λ (v : ℕ). v * segment j.params) h.begins in
    omega (arith, h.zeros l)

-- inside filling no lane is past its end
pub rank_inside : (j : Job) (l : ℕ) → Inside j → l < j.params.lanes
    → rank j l + segment j.params ≤ j.params.passes * lane_length j.params + position j l
unfolding rank
rank_inside j l h k =
    let s : ℕ = segment j.params in
    let b : suc j.pass * (slices * s) ≤ j.params.passes * (slices * s) = mul-le-mul_right (slices * s) h.below in
    let c : suc j.slice * s ≤ slices * s = mul-le-mul_right s h.within in
    omega arith
