-- From an accepted start: the job stays consistent, some lane is accepted until filling is complete, completion is what step and finish
-- answer by, and it takes exactly passes times blocks steps, less two for each lane. Assumes nothing.
use mathlib.Core.Path.{◌≡◌, refl, sym, ap, ◌∙◌, subst}
use mathlib.Core.Logic.{◌≢◌, inl, inr, ◌↔◌}
use mathlib.Core.Bool.{Bool, true, false, cond, not, false≢true}
use mathlib.Core.List.{List}
use Prim.Native.Nat.{ℕ, ◌+◌, ◌*◌, ◌≤◌, ◌<◌}
use native.Mathlib.Omega.{arith}
use lib.Dec.{eqb, ltb, leb}
use lib.ListN.{length}
use borrow.Author.Tests.{eqb-true, eqb-false, ltb-true, ltb-false, le-ltb}
use Rattle.block.specs.Block.{block_words}
use Rattle.params.specs.Limits.{segment, lane_length, blocks}
use Rattle.params.specs.declared.Params.{Params}
use Rattle.argon2.specs.Calls.{stepped, finished}
use Rattle.job.specs.Jobs.{position, complete, consistent}
use Rattle.job.specs.declared.Job.{Job}
use Rattle.job.proofs.Jobs.{Inside, Complete}
use Rattle.turns.specs.Play.{State, accepts, run, accepted, accepted_steps}
use Rattle.turns.proofs.Order.{any_order}
use Rattle.turns.proofs.Rank.{rank, rank_run, idle_run, sum_run, rank_complete, rank_inside}
use Rattle.turns.proofs.Started.{answered, before, started_params, started_rank, started_stands}
use Rattle.turns.proofs.Steps.{ready_accepts, StandsAt, stands_consistent, Stands, run_stands, run_params}
use Rattle.turns.proofs.Sums.{sum, sum_ext, sum_plus, sum_const, sum_lt}

-- ---- on any state that stands

module _ (σ : State) (stands : Stands σ) (ls : List ℕ) where
  -- a complete job stands complete, any other inside filling
  pub run_complete : complete (run σ ls).job ≡ true → Complete (run σ ls).job
  run_complete c = go (run_stands σ ls stands).job
    where
      go : StandsAt (run σ ls).job → Complete (run σ ls).job
      go (inl i) = absurd (omega (arith, i.below, eqb-true (run σ ls).job.pass (run σ ls).job.params.passes c))
      go (inr d) = d

  pub run_inside : complete (run σ ls).job ≡ false → Inside (run σ ls).job
  run_inside c = go (run_stands σ ls stands).job
    where
      go : StandsAt (run σ ls).job → Inside (run σ ls).job
      go (inl i) = i
      go (inr d) = absurd (eqb-false (run σ ls).job.pass (run σ ls).job.params.passes c d.done)

  -- until filling is complete some lane in use is accepted
  some_lane : complete (run σ ls).job ≡ false → (l : ℕ) × (l < σ.job.params.lanes) × (accepts (run σ ls) l ≡ true)
  some_lane c =
      let i : Inside (run σ ls).job = run_inside c in
      let h : Stands (run σ ls) = run_stands σ ls stands in (
        i.some.0,
        subst (λ (P : Params). i.some.0 < P.lanes) (run_params σ ls) i.some.1,
        ready_accepts (run σ ls) i.some.0 (record { inside = i; fits = h.fits; lane = i.some.1; under = i.some.2 }),
      )

  -- complete, each lane has come to its end
  rank_end : complete (run σ ls).job ≡ true → (l : ℕ) → rank (run σ ls).job l ≡ σ.job.params.passes * lane_length σ.job.params
  rank_end c l = rank_complete (run σ ls).job l (run_complete c) ∙ ap (λ (P : Params). P.passes * lane_length P) (run_params σ ls)

  -- a job that is not is short of it
  rank_short : complete (run σ ls).job ≡ false
      → sum σ.job.params.lanes (λ l. rank (run σ ls).job l) < σ.job.params.lanes * (σ.job.params.passes * lane_length σ.job.params)
  rank_short c =
      let j : Job = (run σ ls).job in
      let i : Inside j = run_inside c in
      subst (λ (P : Params). sum P.lanes (λ l. rank j l) < P.lanes * (P.passes * lane_length P)) (run_params σ ls)
      (sum_lt j.params.lanes (j.params.passes * lane_length j.params) (λ l. rank j l)
      (λ l k. omega (arith, rank_inside j l i k, i.high l k))
      i.some.0 i.some.1 (omega (arith, rank_inside j i.some.0 i i.some.1, i.some.2)))

-- two lists of lanes that complete filling end alike
pub complete_alike : (σ : State) → Stands σ → (ls ms : List ℕ) → complete (run σ ls).job ≡ true → complete (run σ ms).job ≡ true
    → run σ ls ≡ run σ ms
complete_alike σ s ls ms c d = any_order σ ls ms (λ l. go l (ltb l σ.job.params.lanes) refl)
  where
    go : (l : ℕ) (t : Bool) → ltb l σ.job.params.lanes ≡ t → accepted l σ ls ≡ accepted l σ ms
    go l true t =
        let k : l < σ.job.params.lanes = ltb-true l σ.job.params.lanes t in
        omega (arith, rank_run σ ls l k, rank_run σ ms l k, rank_end σ s ls c l, rank_end σ s ms d l)
    go l false t =
        let k : σ.job.params.lanes ≤ l = ltb-false l σ.job.params.lanes t in
        idle_run σ ls l k ∙ sym (idle_run σ ms l k)

-- ---- the answers that tell of completion

-- rows 18, 19, 20 of step, and 21, 11, 12 of finish
eighteen : (c a b : Bool) → (c ≡ true) ↔ (◌≡◌ {A = ℕ} (cond c 18 (cond a 19 (cond b 20 0))) 18)
eighteen true a b = (λ e. refl, λ e. refl)
eighteen false true b = (λ e. absurd (false≢true e), λ e. absurd (omega (arith, e)))
eighteen false false true = (λ e. absurd (false≢true e), λ e. absurd (omega (arith, e)))
eighteen false false false = (λ e. absurd (false≢true e), λ e. absurd (omega (arith, e)))

twenty_one : (c a b : Bool) → (c ≡ true) ↔ (◌≢◌ {A = ℕ} (cond (not c) 21 (cond a 11 (cond b 12 0))) 21)
twenty_one true true b = (λ e q. omega (arith, q), λ e. refl)
twenty_one true false true = (λ e q. omega (arith, q), λ e. refl)
twenty_one true false false = (λ e q. omega (arith, q), λ e. refl)
twenty_one false a b = (λ e. absurd (false≢true e), λ n. absurd (n refl))

step_answer : (σ : State) → Stands σ → (l : ℕ)
    → (stepped σ.job σ.memory l).answer
    ≡ cond (complete σ.job) 18 (cond (leb σ.job.params.lanes l) 19 (cond (eqb (position σ.job l) (segment σ.job.params)) 20 0))
unfolding stepped
step_answer σ h l =
    let c : consistent σ.job ≡ true = stands_consistent σ.job h.job in
    let f : ltb (length σ.memory) (block_words * blocks σ.job.params) ≡ false = le-ltb (length σ.memory) (block_words * blocks σ.job.params) h.fits in
    rw (c, f)

finish_answer : (σ : State) → Stands σ → (out : List ℕ)
    → (finished σ.job σ.memory out).answer
    ≡ cond (not (complete σ.job)) 21 (cond (ltb (length out) σ.job.tag) 11 (cond (ltb σ.job.tag (length out)) 12 0))
unfolding finished
finish_answer σ h out =
    let c : consistent σ.job ≡ true = stands_consistent σ.job h.job in
    let f : ltb (length σ.memory) (block_words * blocks σ.job.params) ≡ false = le-ltb (length σ.memory) (block_words * blocks σ.job.params) h.fits in
    rw (c, f)

told_by_step : (σ : State) → Stands σ → (l : ℕ) → (complete σ.job ≡ true) ↔ ((stepped σ.job σ.memory l).answer ≡ 18)
told_by_step σ h l =
    subst (λ (n : ℕ). (complete σ.job ≡ true) ↔ (n ≡ 18)) (sym (step_answer σ h l))
    (eighteen (complete σ.job) (leb σ.job.params.lanes l) (eqb (position σ.job l) (segment σ.job.params)))

told_by_finish : (σ : State) → Stands σ → (out : List ℕ) → (complete σ.job ≡ true) ↔ ((finished σ.job σ.memory out).answer ≢ 21)
told_by_finish σ h out =
    subst (λ (n : ℕ). (complete σ.job ≡ true) ↔ (n ≢ 21)) (sym (finish_answer σ h out))
    (twenty_one (complete σ.job) (ltb (length out) σ.job.tag) (ltb σ.job.tag (length out)))

-- ---- from an accepted start

module _ (P : Params) (tag : ℕ) (password salt secret ad w : List ℕ) (ok : answered P tag password salt secret ad w ≡ 0) where
  abbrev σ : State
  σ = before P tag password salt secret ad w

  s : Stands σ
  s = started_stands P tag password salt secret ad w ok

  params : σ.job.params ≡ P
  params = started_params P tag password salt secret ad w ok

  -- the job is consistent after any steps
  pub consistent_kept : (ls : List ℕ) → consistent (run σ ls).job ≡ true
  consistent_kept ls = stands_consistent (run σ ls).job (run_stands σ ls s).job

  -- until filling is complete, some lane's step is accepted
  pub progress : (ls : List ℕ) → complete (run σ ls).job ≡ false → (l : ℕ) × (l < P.lanes) × (accepts (run σ ls) l ≡ true)
  progress ls c =
      subst (λ (Q : Params). (l : ℕ) × (l < Q.lanes) × (accepts (run σ ls) l ≡ true)) params (some_lane σ s ls c)

  -- complete, and only then, step answers 18 to any lane, and finish anything but 21
  pub record CompleteAnswers (ls : List ℕ) : Type 0 where
    pub step : (l : ℕ) → (complete (run σ ls).job ≡ true) ↔ ((stepped (run σ ls).job (run σ ls).memory l).answer ≡ 18)
    pub finish : (out : List ℕ) → (complete (run σ ls).job ≡ true) ↔ ((finished (run σ ls).job (run σ ls).memory out).answer ≢ 21)

  pub complete_answers : (ls : List ℕ) → CompleteAnswers ls
  complete_answers ls =
      let h : Stands (run σ ls) = run_stands σ ls s in
      record {
        step = λ l. told_by_step (run σ ls) h l;
        finish = λ out. told_by_finish (run σ ls) h out;
      }

  -- complete, and only then, the accepted steps and the two blocks of each lane that start wrote are passes times blocks; the accepted steps
  -- are those of the lanes
  pub record Counted (ls : List ℕ) : Type 0 where
    pub exactly : (complete (run σ ls).job ≡ true) ↔ (accepted_steps σ ls + 2 * P.lanes ≡ P.passes * blocks P)
    pub total : accepted_steps σ ls ≡ sum P.lanes (λ l. accepted l σ ls)

  by_lanes : (ls : List ℕ) → accepted_steps σ ls ≡ sum P.lanes (λ l. accepted l σ ls)
  by_lanes ls = sum_run σ ls ∙ ap (λ (Q : Params). sum Q.lanes (λ l. accepted l σ ls)) params

  ranks : (ls : List ℕ) → accepted_steps σ ls + P.lanes * 2 ≡ sum P.lanes (λ l. rank (run σ ls).job l)
  ranks ls =
      omega (
        arith,
        by_lanes ls,
        sum_const P.lanes 2,
        sum_plus P.lanes (λ l. accepted l σ ls) (λ l. 2),
        sum_ext P.lanes (λ l. rank (run σ ls).job l) (λ l. accepted l σ ls + 2)
            (λ l k.
            omega (
              arith,
              rank_run σ ls l (subst (λ (Q : Params). l < Q.lanes) (sym params) k),
              started_rank P tag password salt secret ad w ok l k,
            )),
      )

  pub count : (ls : List ℕ) → Counted ls
  count ls = record { exactly = (to, λ e. from e (complete (run σ ls).job) refl); total = by_lanes ls }
    where
      to : complete (run σ ls).job ≡ true → accepted_steps σ ls + 2 * P.lanes ≡ P.passes * blocks P
      to c =
          omega (
            arith,
            ranks ls,
            sum_ext P.lanes (λ l. rank (run σ ls).job l) (λ l. P.passes * lane_length P)
                (λ l k. rank_end σ s ls c l ∙ ap (λ (Q : Params). Q.passes * lane_length Q) params),
            sum_const P.lanes (P.passes * lane_length P),
          )

      short : complete (run σ ls).job ≡ false → accepted_steps σ ls + 2 * P.lanes < P.passes * blocks P
      short c =
          omega (
            arith,
            ranks ls,
            subst (λ (Q : Params). sum Q.lanes (λ l. rank (run σ ls).job l) < Q.lanes * (Q.passes * lane_length Q)) params (rank_short σ s ls c),
          )

      from : accepted_steps σ ls + 2 * P.lanes ≡ P.passes * blocks P → (t : Bool) → complete (run σ ls).job ≡ t → complete (run σ ls).job ≡ true
      from e true c = c
      from e false c = absurd (omega (arith, short c))
