-- The order of RFC 9106, passes, slices, lanes, blocks, is one order of accepted steps that completes filling. Assumes nothing.
use mathlib.Core.Path.{◌≡◌, refl, sym, ap, ◌∙◌, subst}
use mathlib.Core.Logic.{◌≢◌, inl, inr}
use mathlib.Core.Bool.{Bool, true, false}
use mathlib.Core.List.{List, [], ◌∷◌, ◌++◌}
use Prim.Native.Nat.{ℕ, zero, suc, ◌+◌, ◌-◌, ◌*◌, ◌≤◌, ◌<◌}
use native.Mathlib.Omega.{arith}
use lib.Dec.{eqb, ltb}
use lib.ListN.{length}
use borrow.Author.Tests.{eqb-true, eqb-false, ltb-false, lt-ltb, le-ltb}
use Rattle.answer.specs.Answers.{first}
use Rattle.block.specs.Block.{block_words}
use Rattle.params.specs.Limits.{rows, slices, max_lanes, segment, blocks}
use Rattle.params.specs.declared.Params.{Params}
use Rattle.params.proofs.Within.{params_within}
use Rattle.position.specs.Position.{first_block}
use Rattle.filling.specs.Filling.{fill, fill_segment, fill_slice, fill_pass, fill_all}
use Rattle.job.specs.Jobs.{any, position, unfinished, moved, onward, next_slice, start_job}
use Rattle.memory.specs.Loop.{loop}
use Rattle.checks.specs.Rows.{output_rows}
use Rattle.job.specs.declared.Job.{Job}
use Rattle.job.proofs.Jobs.{Inside, Bounds, inside_bounds, unfinished_by, moved_same, moved_other, moved_stays, onward_unfinished, onward_finished, next_position, next_within, next_pass, first_later, step_stands}
use Rattle.job.proofs.Tests.{any_of_false}
use Rattle.turns.specs.Play.{State, accepts, step, run}
use Rattle.turns.proofs.Started.{Begin, begins_first, begins_second}
use Rattle.turns.proofs.Steps.{filled, accepted_step, ReadyFor, ready_accepts, filled_length, StandsAt}

-- ---- where a job stands in that order

-- in a slice: the lanes before l are done, l is at k, the lanes behind it have not begun
record Amid (P : Params) (r sl l k : ℕ) (j : Job) : Type 0 where
  inside : Inside j
  params : j.params ≡ P
  pass : j.pass ≡ r
  slice : j.slice ≡ sl
  lane : l < P.lanes
  before : (i : ℕ) → i < l → position j i ≡ segment P
  here : position j l ≡ k
  behind : (i : ℕ) → l < i → i < P.lanes → position j i ≡ first_block r sl

-- at the beginning of the slice after this one
abbrev Follows : Params → ℕ → ℕ → Job → Type 0
Follows P r sl j = (ltb (sl + 1) slices ≡ true → Begin P r (sl + 1) j) × (ltb (sl + 1) slices ≡ false → Begin P (r + 1) 0 j)

-- ---- one step of the lane that is at work

module _ (P : Params) (r sl l k : ℕ) (j : Job) (m : Amid P r sl l k j) (under : k < segment P) where
  lane' : l < j.params.lanes
  lane' = subst (λ (Q : Params). l < Q.lanes) (sym m.params) m.lane

  under' : position j l < segment j.params
  under' = subst (λ (Q : Params). position j l < segment Q) (sym m.params) (omega (arith, m.here))

  few : l < max_lanes
  few = let z : Bounds j.params = inside_bounds m.inside in omega (arith, z.few_lanes, lane')

  moved_here : position (moved j l) l ≡ k + 1
  moved_here = moved_same j l m.inside.places few ∙ ap (λ (v : ℕ). v + 1) m.here

  -- the lanes before this one, and this one if it has come to its end
  done : k + 1 ≡ segment P → (i : ℕ) → i < l + 1 → (t : Bool) → eqb i l ≡ t → position (moved j l) i ≡ segment P
  done e i b true t = subst (λ (x : ℕ). position (moved j l) x ≡ segment P) (sym (eqb-true i l t)) (moved_here ∙ e)
  done e i b false t =
      let n : i ≢ l = eqb-false i l t in
      moved_other j l i n ∙ m.before i (omega arith)

  -- the lane goes on
  goes_on : k + 1 < segment P → Amid P r sl l (k + 1) (onward (moved j l))
  unfolding moved
  goes_on h =
      let u : position (moved j l) l < segment j.params = subst (λ (Q : Params). position (moved j l) l < segment Q) (sym m.params) (omega (arith, moved_here)) in
      subst (λ (i : Job). Amid P r sl l (k + 1) i) (sym (onward_unfinished (moved j l) (unfinished_by (moved j l) l lane' u)))
      (record {
        inside = moved_stays j l m.inside lane' under' l lane' u;
        params = m.params;
        pass = m.pass;
        slice = m.slice;
        lane = m.lane;
        before = λ i b. moved_other j l i (λ e. omega arith) ∙ m.before i b;
        here = moved_here;
        behind = λ i b c. moved_other j l i (λ e. omega arith) ∙ m.behind i b c;
      })

  -- the lane is done, and the next begins
  hands_on : k + 1 ≡ segment P → l + 1 < P.lanes → first_block r sl < segment P → Amid P r sl (l + 1) (first_block r sl) (onward (moved j l))
  unfolding moved
  hands_on e h f =
      let n : position (moved j l) (l + 1) ≡ first_block r sl = moved_other j l (l + 1) (λ q. omega arith) ∙ m.behind (l + 1) (omega arith) h in
      let lane'' : l + 1 < j.params.lanes = subst (λ (Q : Params). l + 1 < Q.lanes) (sym m.params) h in
      let u : position (moved j l) (l + 1) < segment j.params = subst (λ (Q : Params). position (moved j l) (l + 1) < segment Q) (sym m.params) (omega (arith, n)) in
      subst (λ (i : Job). Amid P r sl (l + 1) (first_block r sl) i) (sym (onward_unfinished (moved j l) (unfinished_by (moved j l) (l + 1) lane'' u)))
      (record {
        inside = moved_stays j l m.inside lane' under' (l + 1) lane'' u;
        params = m.params;
        pass = m.pass;
        slice = m.slice;
        lane = h;
        before = λ i b. done e i b (eqb i l) refl;
        here = n;
        behind = λ i b c. moved_other j l i (λ q. omega arith) ∙ m.behind i (omega arith) c;
      })

  -- the last lane is done, and the next slice begins
  ends : k + 1 ≡ segment P → l + 1 ≡ P.lanes → Follows P r sl (onward (moved j l))
  unfolding moved next_slice
  ends e h = (λ t. subst (λ (i : Job). Begin P r (sl + 1) i) (sym is) (within t), λ t. subst (λ (i : Job). Begin P (r + 1) 0 i) (sym is) (over t))
    where
      fin : unfinished (moved j l) ≡ false
      fin =
          subst (λ (Q : Params). any Q.lanes (λ i. ltb (position (moved j l) i) (segment Q)) ≡ false) (sym m.params)
          (any_of_false P.lanes (λ i. ltb (position (moved j l) i) (segment P))
          (λ i b. le-ltb (position (moved j l) i) (segment P) (omega (arith, done e i (omega arith) (eqb i l) refl))))

      is : onward (moved j l) ≡ next_slice (moved j l)
      is = onward_finished (moved j l) fin

      st : StandsAt (next_slice (moved j l))
      st = subst (λ (i : Job). StandsAt i) is (step_stands j l m.inside lane' under')

      within : ltb (sl + 1) slices ≡ true → Begin P r (sl + 1) (next_slice (moved j l))
      within t =
          let q : ((next_slice (moved j l)).pass ≡ j.pass) × ((next_slice (moved j l)).slice ≡ j.slice + 1) =
          next_within (moved j l) (ap (λ (v : ℕ). ltb (v + 1) slices) m.slice ∙ t) in
          record {
            stands = st;
            params = m.params;
            pass = q.0 ∙ m.pass;
            slice = q.1 ∙ ap (λ (v : ℕ). v + 1) m.slice;
            at = λ i b. next_position (moved j l) i ∙ sym (first_later r (sl + 1) (omega arith));
          }

      over : ltb (sl + 1) slices ≡ false → Begin P (r + 1) 0 (next_slice (moved j l))
      over t =
          let q : ((next_slice (moved j l)).pass ≡ j.pass + 1) × ((next_slice (moved j l)).slice ≡ 0) =
          next_pass (moved j l) (ap (λ (v : ℕ). ltb (v + 1) slices) m.slice ∙ t) in
          record {
            stands = st;
            params = m.params;
            pass = q.0 ∙ ap (λ (v : ℕ). v + 1) m.pass;
            slice = q.1;
            at = λ i b. next_position (moved j l) i ∙ sym (first_later (r + 1) 0 (omega arith));
          }

-- ---- steps that lead from a state to a memory

run_append : (σ : State) (ls ms : List ℕ) → run σ (ls ++ ms) ≡ run (run σ ls) ms
run_append σ [] ms = refl
run_append σ (l ∷ ls) ms = run_append (step σ l) ls ms

module _ (P : Params) where
  abbrev Fits : State → Type 0
  Fits σ = block_words * blocks P ≤ length σ.memory

  -- some steps lead from σ to the memory w and a job of which Q holds
  abbrev pub To : State → List ℕ → (Job → Type 0) → Type 0
  To σ w Q = (ls : List ℕ) × ((run σ ls).memory ≡ w) × Fits (run σ ls) × Q (run σ ls).job

  by_step : (σ : State) (l : ℕ) (w : List ℕ) (Q : Job → Type 0) → accepts σ l ≡ true → To (filled σ l) w Q → To σ w Q
  by_step σ l w Q e t =
      let u : To (step σ l) w Q = subst (λ (τ : State). To τ w Q) (sym (accepted_step σ l e)) t in
      (l ∷ u.0, u.1, u.2, u.3)

  then : (σ : State) (v w : List ℕ) (Q R : Job → Type 0) → To σ v Q
      → ((τ : State) → τ.memory ≡ v → Fits τ → Q τ.job → To τ w R) → To σ w R
  then σ v w Q R t f =
      let u : To (run σ t.0) w R = f (run σ t.0) t.1 t.2 t.3 in
      let p : run (run σ t.0) u.0 ≡ run σ (t.0 ++ u.0) = sym (run_append σ t.0 u.0) in (
        t.0 ++ u.0,
        subst (λ (τ : State). τ.memory ≡ w) p u.1,
        subst (λ (τ : State). Fits τ) p u.2,
        subst (λ (τ : State). R τ.job) p u.3,
      )

  module _ (r sl : ℕ) where
    module _ (l k : ℕ) (σ : State) (m : Amid P r sl l k σ.job) (fits : Fits σ) (under : k < segment P) where
      ready : ReadyFor σ l
      ready =
          record {
            inside = m.inside;
            fits = subst (λ (Q : Params). block_words * blocks Q ≤ length σ.memory) (sym m.params) fits;
            lane = lane' P r sl l k σ.job m under;
            under = under' P r sl l k σ.job m under;
          }

      memory_after_lem : (filled σ l).memory ≡ fill P r sl l k σ.memory
      memory_after_lem = λ i. fill (m.params i) (m.pass i) (m.slice i) l (m.here i) σ.memory

      fits_after : Fits (filled σ l)
      fits_after = omega (arith, fits, filled_length σ l ready)

    -- once lane l is done: the next lane begins, or the next slice
    abbrev LaneDone : ℕ → Job → Type 0
    LaneDone l j = (l + 1 < P.lanes → Amid P r sl (l + 1) (first_block r sl) j) × (l + 1 ≡ P.lanes → Follows P r sl j)

    lane_run : (n k l : ℕ) (σ : State) → Amid P r sl l k σ.job → Fits σ → k + n ≡ segment P → 1 ≤ n → first_block r sl < segment P
        → To σ (loop n k (λ i. fill P r sl l i) σ.memory) (LaneDone l)
    lane_run zero k l σ m fits e o f = absurd (omega arith)
    lane_run (suc zero) k l σ m fits e o f =
        let u : k < segment P = omega arith in
        by_step σ l (fill P r sl l k σ.memory) (LaneDone l)
        (ready_accepts σ l (ready l k σ m fits u)) (
          [],
          memory_after_lem l k σ m fits u,
          fits_after l k σ m fits u,
          (
            λ h. hands_on P r sl l k σ.job m u (omega arith) h f,
            λ h. ends P r sl l k σ.job m u (omega arith) h,
          ),
        )
    lane_run (suc (suc n)) k l σ m fits e o f =
        let u : k < segment P = omega arith in
        by_step σ l (loop (suc n) (k + 1) (λ i. fill P r sl l i) (fill P r sl l k σ.memory)) (LaneDone l)
        (ready_accepts σ l (ready l k σ m fits u))
        (subst (λ (w : List ℕ). To (filled σ l) (loop (suc n) (k + 1) (λ i. fill P r sl l i) w) (LaneDone l))
        (memory_after_lem l k σ m fits u)
        (lane_run (suc n) (k + 1) l (filled σ l) (goes_on P r sl l k σ.job m u (omega arith)) (fits_after l k σ m fits u)
        (omega arith) (omega arith) f))

    segment_run : (l : ℕ) (σ : State) → Amid P r sl l (first_block r sl) σ.job → Fits σ → first_block r sl < segment P
        → To σ (fill_segment P r sl l σ.memory) (LaneDone l)
    unfolding fill_segment
    segment_run l σ m fits f = lane_run (segment P - first_block r sl) (first_block r sl) l σ m fits (omega arith) (omega arith) f

    lanes_run : (d l : ℕ) (σ : State) → Amid P r sl l (first_block r sl) σ.job → Fits σ → l + d ≡ P.lanes → 1 ≤ d → first_block r sl < segment P
        → To σ (loop d l (λ i. fill_segment P r sl i) σ.memory) (Follows P r sl)
    lanes_run zero l σ m fits e o f = absurd (omega arith)
    lanes_run (suc zero) l σ m fits e o f =
        let t : To σ (fill_segment P r sl l σ.memory) (LaneDone l) = segment_run l σ m fits f in
        (t.0, t.1, t.2, t.3.1 (omega arith))
    lanes_run (suc (suc n)) l σ m fits e o f =
        then σ (fill_segment P r sl l σ.memory) (loop (suc n) (l + 1) (λ i. fill_segment P r sl i) (fill_segment P r sl l σ.memory))
        (LaneDone l) (Follows P r sl)
        (segment_run l σ m fits f)
        (λ τ p fits' q.
        subst (λ (w : List ℕ). To τ (loop (suc n) (l + 1) (λ i. fill_segment P r sl i) w) (Follows P r sl)) p
        (lanes_run (suc n) (l + 1) τ (q.0 (omega arith)) fits' (omega arith) (omega arith) f))

    slice_run : (σ : State) → Begin P r sl σ.job → r < P.passes → Fits σ → To σ (fill_slice P r sl σ.memory) (Follows P r sl)
    unfolding fill_slice
    slice_run σ b h fits = go b.stands
      where
        go : StandsAt σ.job → To σ (loop P.lanes 0 (λ l. fill_segment P r sl l) σ.memory) (Follows P r sl)
        go (inr c) = absurd (omega (arith, c.done, b.pass, ap (λ (Q : Params). Q.passes) b.params))
        go (inl i) =
            let some : (l : ℕ) × (l < P.lanes) × (position σ.job l < segment P) =
            subst (λ (Q : Params). (l : ℕ) × (l < Q.lanes) × (position σ.job l < segment Q)) b.params i.some in
            let f : first_block r sl < segment P = omega (arith, some.2, b.at some.0 some.1) in
            let o : 0 < P.lanes = omega (arith, some.1) in
            lanes_run P.lanes 0 σ
            (record {
              inside = i;
              params = b.params;
              pass = b.pass;
              slice = b.slice;
              lane = o;
              before = λ x y. absurd (omega arith);
              here = b.at 0 o;
              behind = λ x y z. b.at x z;
            })
            fits (omega arith) o f

  -- the slices of a pass from sl on
  slices_run : (n r sl : ℕ) (σ : State) → Begin P r sl σ.job → r < P.passes → sl + n ≡ slices → 1 ≤ n → Fits σ
      → To σ (loop n sl (λ i. fill_slice P r i) σ.memory) (Begin P (r + 1) 0)
  slices_run zero r sl σ b h e o fits = absurd (omega arith)
  slices_run (suc zero) r sl σ b h e o fits =
      let t : To σ (fill_slice P r sl σ.memory) (Follows P r sl) = slice_run r sl σ b h fits in
      (t.0, t.1, t.2, t.3.1 (le-ltb (sl + 1) slices (omega arith)))
  slices_run (suc (suc n)) r sl σ b h e o fits =
      then σ (fill_slice P r sl σ.memory) (loop (suc n) (sl + 1) (λ i. fill_slice P r i) (fill_slice P r sl σ.memory))
      (Follows P r sl) (Begin P (r + 1) 0) (slice_run r sl σ b h fits)
      (λ τ p fits' q.
      subst (λ (w : List ℕ). To τ (loop (suc n) (sl + 1) (λ i. fill_slice P r i) w) (Begin P (r + 1) 0)) p
      (slices_run (suc n) r (sl + 1) τ (q.0 (lt-ltb (sl + 1) slices (omega arith))) h (omega arith) (omega arith) fits'))

  pass_run : (r : ℕ) (σ : State) → Begin P r 0 σ.job → r < P.passes → Fits σ → To σ (fill_pass P r σ.memory) (Begin P (r + 1) 0)
  unfolding fill_pass
  pass_run r σ b h fits = slices_run slices r 0 σ b h refl (omega arith) fits

  passes_run : (n r : ℕ) (σ : State) → Begin P r 0 σ.job → r + n ≡ P.passes → Fits σ
      → To σ (loop n r (λ i. fill_pass P i) σ.memory) (Begin P P.passes 0)
  passes_run zero r σ b e fits =
      let q : r ≡ P.passes = omega arith in
      ([], refl, fits, subst (λ (i : ℕ). Begin P i 0 σ.job) q b)
  passes_run (suc n) r σ b e fits =
      then σ (fill_pass P r σ.memory) (loop n (r + 1) (λ i. fill_pass P i) (fill_pass P r σ.memory))
      (Begin P (r + 1) 0) (Begin P P.passes 0) (pass_run r σ b (omega arith) fits)
      (λ τ p fits1 q.
      subst (λ (w : List ℕ). To τ (loop n (r + 1) (λ i. fill_pass P i) w) (Begin P P.passes 0)) p
      (passes_run n (r + 1) τ q (omega arith) fits1))

-- ---- from the job that start hands back

loop_idle : (n i : ℕ) (f : ℕ → List ℕ → List ℕ) (w : List ℕ) → ((k : ℕ) (v : List ℕ) → f k v ≡ v) → loop n i f w ≡ w
loop_idle zero i f w h = refl
loop_idle (suc n) i f w h = ap (λ (v : List ℕ). loop n (i + 1) f v) (h i w) ∙ loop_idle n (i + 1) f w h

loop_one : (n i : ℕ) (f : ℕ → List ℕ → List ℕ) (w : List ℕ) → 1 ≤ n → loop (n - 1) (i + 1) f (f i w) ≡ loop n i f w
loop_one zero i f w h = absurd (omega arith)
loop_one (suc n) i f w h =
    let e : suc n - 1 ≡ n = omega arith in
    ap (λ (k : ℕ). loop k (i + 1) f (f i w)) e

module _ (P : Params) (tag : ℕ) (numbers : first (rows P) ≡ 0) (allowed : first (output_rows P.configured tag) ≡ 0) where
  -- with s = 2 there is nothing to do in pass 0, slice 0
  idle_slice : segment P ≤ first_block 0 0 → (w : List ℕ) → fill_slice P 0 0 w ≡ w
  unfolding fill_slice fill_segment
  idle_slice h w =
      let e : segment P - first_block 0 0 ≡ 0 = omega arith in
      loop_idle P.lanes 0 (λ l v. loop (segment P - first_block 0 0) (first_block 0 0) (λ k. fill P 0 0 l k) v) w
      (λ l v. ap (λ (n : ℕ). loop n (first_block 0 0) (λ k. fill P 0 0 l k) v) e)

  later_slices : segment P ≤ first_block 0 0 → (w : List ℕ) → loop (slices - 1) 1 (λ sl. fill_slice P 0 sl) w ≡ fill_pass P 0 w
  unfolding fill_pass
  later_slices h w = ap (λ (v : List ℕ). loop (slices - 1) 1 (λ sl. fill_slice P 0 sl) v) (sym (idle_slice h w))

  pub canonical : (w : List ℕ) → block_words * blocks P ≤ length w
      → To P (record { job = start_job P tag; memory = w }) (fill_all P w) (Begin P P.passes 0)
  unfolding fill_all
  canonical w fits = go (ltb (first_block 0 0) (segment P)) refl
    where
      σ : State
      σ = record { job = start_job P tag; memory = w }

      go : (t : Bool) → ltb (first_block 0 0) (segment P) ≡ t → To P σ (loop P.passes 0 (λ r. fill_pass P r) w) (Begin P P.passes 0)
      go true t = passes_run P P.passes 0 σ (begins_first P tag numbers allowed t) (omega arith) fits
      go false t =
          let one : 1 ≤ P.passes = (params_within P numbers).some_passes in
          let p : loop (slices - 1) 1 (λ sl. fill_slice P 0 sl) w ≡ fill_pass P 0 w = later_slices (ltb-false (first_block 0 0) (segment P) t) w in
          then P σ (loop (slices - 1) 1 (λ sl. fill_slice P 0 sl) w) (loop P.passes 0 (λ r. fill_pass P r) w)
          (Begin P 1 0) (Begin P P.passes 0) (slices_run P (slices - 1) 0 1 σ (begins_second P tag numbers allowed t) one refl (omega arith) fits)
          (λ τ q fits1 b.
          subst (λ (v : List ℕ). To P τ v (Begin P P.passes 0))
          (ap (λ (v : List ℕ). loop (P.passes - 1) 1 (λ r. fill_pass P r) v) (q ∙ p)
          ∙ loop_one P.passes 0 (λ r. fill_pass P r) w one)
          (passes_run P (P.passes - 1) 1 τ b (omega arith) fits1))
