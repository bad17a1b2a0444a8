-- Two runs of the same steps over memories that agree on every block behind the job keep agreeing on them, since a step reads only what is
-- behind the job and, in pass 0, overwrites. So when filling is complete the blocks do not depend on what the lent memory held. Assumes nothing.
use mathlib.Core.Path.{◌≡◌, refl, sym, ap, ◌∙◌, subst}
use mathlib.Core.Logic.{◌≢◌}
use mathlib.Core.Bool.{Bool, true, false, cond, true≢false}
use mathlib.Core.List.{List, [], ◌∷◌}
use Prim.Native.Nat.{ℕ, ◌+◌, ◌*◌, ◌/◌, ◌%◌, ◌≤◌, ◌<◌}
use native.Mathlib.Nat.{div-add-mod', div-lt_iff_lt-mul, mod-lt, mul-le-mul_right}
use native.Mathlib.Omega.{arith}
use lib.Dec.{eqb, ltb}
use lib.ListN.{length}
use borrow.Author.Tests.{eqb-true, eqb-false, ltb-true, ltb-false}
use Rattle.answer.specs.Answers.{first}
use Rattle.block.specs.Block.{block_words}
use Rattle.params.specs.Limits.{rows, segment, lane_length, blocks}
use Rattle.params.specs.declared.Params.{Params}
use Rattle.params.proofs.Within.{params_within, two}
use Rattle.position.specs.Position.{column, index, previous_column, reference_lane, reference_column}
use Rattle.position.proofs.Referring.{ref_lane, ref_column}
use Rattle.filling.specs.Filling.{stored_block}
use Rattle.initial.specs.Initial.{initial_hash}
use Rattle.memory.specs.Start.{start_memory}
use Rattle.job.specs.Jobs.{position, complete, start_job}
use Rattle.memory.specs.Memory.{block}
use Rattle.checks.specs.Rows.{output_rows}
use Rattle.job.specs.declared.Job.{Job}
use Rattle.filling.proofs.Filling.{fill_block}
use Rattle.position.proofs.Columns.{column-lt, previous_lt}
use Rattle.job.proofs.Jobs.{Bounds, inside_bounds, Ready}
use Rattle.memory.proofs.StartMemory.{start_length, start_block}
use Rattle.argon2.proofs.StartWrites.{Accepted, accepted_start}
use Rattle.filling.proofs.Stored.{same_stored, fill_other}
use Rattle.turns.specs.Play.{State, accepts, step, run, writes}
use Rattle.turns.proofs.Behind.{later, next_is_written, reference_behind, previous_behind}
use Rattle.turns.proofs.Completion.{run_complete, complete_alike}
use Rattle.turns.proofs.Rank.{rank, rank_filled, rank_complete}
use Rattle.turns.proofs.Started.{answered, before, started_state, start_stands, start_params, start_rank}
use Rattle.turns.proofs.Steps.{filled, accepted_step, refused_step, ReadyFor, accepted_ready, ready_accepts, step_params, step_length, Stands}

-- v and w agree on every block that lies behind the job
abbrev Agree : Params → Job → List ℕ → List ℕ → Type 0
Agree P j v w =
    (a c : ℕ) → a < P.lanes → c < lane_length P → c < rank j a → block (index (segment P) a c) v ≡ block (index (segment P) a c) w

-- ---- an accepted step of both

module _
    (σ : State) (w : List ℕ) (l : ℕ) (h : ReadyFor σ l) (h' : Ready σ.job (length w) l)
    (agree : Agree σ.job.params σ.job σ.memory w)
  where
    abbrev τ : State
    τ = record { job = σ.job; memory = w }

    P : Params
    P = σ.job.params

    r : ℕ
    r = σ.job.pass

    sl : ℕ
    sl = σ.job.slice

    k : ℕ
    k = position σ.job l

    z : Bounds σ.job.params
    z = inside_bounds h.inside

    -- both store the same
    stored : stored_block σ.job.params σ.job.pass σ.job.slice l (position σ.job l) σ.memory
        ≡ stored_block σ.job.params σ.job.pass σ.job.slice l (position σ.job l) w
    unfolding P r sl k
    stored =
        let here : column (segment P) sl k < lane_length P = column-lt (segment P) sl k h.inside.within h.under in
        same_stored P r sl l k σ.memory w
        (agree l (previous_column (segment P) sl k) h.lane (previous_lt (segment P) sl k h.inside.within h.under)
        (previous_behind σ.job (length σ.memory) l h))
        (λ x.
        agree (reference_lane P.lanes r sl l x) (reference_column P.lanes (segment P) r sl l k x)
        (ref_lane P.lanes (segment P) z.some_lanes (two z) r sl l k x h.inside.within h.lane h.under (h.inside.low l h.lane))
        (ref_column P.lanes (segment P) z.some_lanes (two z) r sl l k x h.inside.within h.lane h.under (h.inside.low l h.lane))
        (reference_behind σ.job (length σ.memory) l h x))
        (λ n. agree l (column (segment P) sl k) h.lane here (later σ.job l (column (segment P) sl k) n here))

    -- and agree on what is then behind the job
    filled_agree : Agree σ.job.params (filled σ l).job (filled σ l).memory (filled τ l).memory
    unfolding P r sl k
    filled_agree a c la lc u = pick (eqb (index (segment P) a c) (writes σ l)) refl
      where
        behind : index (segment P) a c ≢ writes σ l → (t : Bool) → ltb c (rank σ.job a) ≡ t → (v : Bool) → eqb l a ≡ v → c < rank σ.job a
        behind n true t v e = ltb-true c (rank σ.job a) t
        behind n false t false e =
            let g : rank (filled σ l).job a ≡ 0 + rank σ.job a = rank_filled σ l a h la ∙ ap (λ (b : Bool). cond b 1 0 + rank σ.job a) e in
            omega (arith, g)
        behind n false t true e =
            let g : rank (filled σ l).job a ≡ 1 + rank σ.job a = rank_filled σ l a h la ∙ ap (λ (b : Bool). cond b 1 0 + rank σ.job a) e in
            let at : c ≡ rank σ.job a = omega (arith, g, ltb-false c (rank σ.job a) t) in
            absurd (n (next_is_written P σ a c refl at lc ∙ ap (λ (x : ℕ). writes σ x) (sym (eqb-true l a e))))

        pick : (t : Bool) → eqb (index (segment P) a c) (writes σ l) ≡ t
            → block (index (segment P) a c) (filled σ l).memory ≡ block (index (segment P) a c) (filled τ l).memory
        pick true t =
            let e : index (segment P) a c ≡ writes σ l = eqb-true (index (segment P) a c) (writes σ l) t in
            ap (λ (b : ℕ). block b (filled σ l).memory) e
            ∙ fill_block P (two z) r sl l k h.inside.within h.lane h.under σ.memory h.fits
            ∙ stored
            ∙ sym (fill_block P (two z) r sl l k h.inside.within h.lane h.under w h'.fits)
            ∙ sym (ap (λ (b : ℕ). block b (filled τ l).memory) e)
        pick false t =
            let n : index (segment P) a c ≢ writes σ l = eqb-false (index (segment P) a c) (writes σ l) t in
            fill_other P (two z) r sl l k h.inside.within h.lane h.under σ.memory h.fits (index (segment P) a c) n
            ∙ agree a c la lc (behind n (ltb c (rank σ.job a)) refl (eqb l a) refl)
            ∙ sym (fill_other P (two z) r sl l k h.inside.within h.lane h.under w h'.fits (index (segment P) a c) n)

-- ---- any step, and any run

record Alike (P : Params) (σ τ : State) : Type 0 where
  params : σ.job.params ≡ P
  job : σ.job ≡ τ.job
  left : block_words * blocks P ≤ length σ.memory
  right : block_words * blocks P ≤ length τ.memory
  agree : Agree P σ.job σ.memory τ.memory

-- a lane is accepted on any memory that is long enough
other_memory : (j : Job) (m n l : ℕ) → block_words * blocks j.params ≤ n → Ready j m l → Ready j n l
other_memory j m n l fits h = record { inside = h.inside; fits = fits; lane = h.lane; under = h.under }

module _ (σ : State) (w : List ℕ) (l : ℕ) where
  abbrev other : State
  other = record { job = σ.job; memory = w }

  same_step : block_words * blocks σ.job.params ≤ length σ.memory → block_words * blocks σ.job.params ≤ length w
      → Agree σ.job.params σ.job σ.memory w
      → ((step σ l).job ≡ (step other l).job) × Agree σ.job.params (step σ l).job (step σ l).memory (step other l).memory
  same_step left right agree = go (accepts σ l) refl (accepts other l) refl
    where
      Both : State → State → Type 0
      Both x y = (x.job ≡ y.job) × Agree σ.job.params x.job x.memory y.memory

      from : {x y : State} → step σ l ≡ x → step other l ≡ y → Both x y → Both (step σ l) (step other l)
      from {x} {y} p q b = subst (λ (s : State). Both s (step other l)) (sym p) (subst (λ (s : State). Both x s) (sym q) b)

      go : (t : Bool) → accepts σ l ≡ t → (u : Bool) → accepts other l ≡ u → Both (step σ l) (step other l)
      go true e true f =
          from (accepted_step σ l e) (accepted_step other l f)
          (refl, filled_agree σ w l (accepted_ready σ l e) (accepted_ready other l f) agree)
      go false e false f = from (refused_step σ l e) (refused_step other l f) (refl, agree)
      go true e false f =
          absurd (true≢false (sym (ready_accepts other l (other_memory σ.job (length σ.memory) (length w) l right (accepted_ready σ l e))) ∙ f))
      go false e true f =
          absurd (true≢false (sym (ready_accepts σ l (other_memory σ.job (length w) (length σ.memory) l left (accepted_ready other l f))) ∙ e))

step_alike : (P : Params) (σ τ : State) (l : ℕ) → Alike P σ τ → Alike P (step σ l) (step τ l)
step_alike P σ τ l a =
    subst (λ (j : Job). Alike P (step σ l) (step (record { job = j; memory = τ.memory }) l)) a.job
    (record {
      params = step_params σ l ∙ a.params;
      job = both.0;
      left = omega (arith, a.left, step_length σ l);
      right = omega (arith, a.right, step_length (other σ τ.memory l) l);
      agree =
          subst (λ (Q : Params). Agree Q (step σ l).job (step σ l).memory (step (other σ τ.memory l) l).memory) a.params both.1;
    })
  where
    back : (X : Params → Type 0) → X P → X σ.job.params
    back X x = subst X (sym a.params) x

    both : ((step σ l).job ≡ (step (other σ τ.memory l) l).job)
        × Agree σ.job.params (step σ l).job (step σ l).memory (step (other σ τ.memory l) l).memory
    both =
        same_step σ τ.memory l
        (back (λ Q. block_words * blocks Q ≤ length σ.memory) a.left)
        (back (λ Q. block_words * blocks Q ≤ length τ.memory) a.right)
        (back (λ Q. Agree Q σ.job σ.memory τ.memory) a.agree)

run_alike : (P : Params) (ls : List ℕ) (σ τ : State) → Alike P σ τ → Alike P (run σ ls) (run τ ls)
run_alike P [] σ τ a = a
run_alike P (l ∷ ls) σ τ a = run_alike P ls (step σ l) (step τ l) (step_alike P σ τ l a)

-- ---- from the start

module _
    (P : Params) (tag : ℕ) (numbers : first (rows P) ≡ 0) (allowed : first (output_rows P.configured tag) ≡ 0) (h : List ℕ)
  where
    abbrev pub from : List ℕ → State
    from w = record { job = start_job P tag; memory = start_memory h P.lanes (segment P) w }

    s : 2 ≤ segment P
    s = two (params_within P numbers)

    pub from_stands : (w : List ℕ) → block_words * blocks P ≤ length w → Stands (from w)
    from_stands w fits =
        record {
          job = start_stands P tag numbers allowed;
          fits =
              subst (λ (Q : Params). block_words * blocks Q ≤ length (from w).memory) (sym (start_params P tag numbers allowed))
              (omega (arith, fits, start_length h P.lanes (segment P) s w fits));
        }

    begin_alike : (v w : List ℕ) → block_words * blocks P ≤ length v → block_words * blocks P ≤ length w → Alike P (from v) (from w)
    begin_alike v w fv fw =
        record {
          params = start_params P tag numbers allowed;
          job = refl;
          left = omega (arith, fv, start_length h P.lanes (segment P) s v fv);
          right = omega (arith, fw, start_length h P.lanes (segment P) s w fw);
          agree = λ a c la lc u.
              let first_two : c < 2 = omega (arith, start_rank P tag numbers allowed a la) in
              start_block h P.lanes (segment P) s v fv a c la first_two
              ∙ sym (start_block h P.lanes (segment P) s w fw a c la first_two);
        }

    -- complete on one memory, complete on any other
    pub complete_too : (v w : List ℕ) → block_words * blocks P ≤ length v → block_words * blocks P ≤ length w → (ls : List ℕ)
        → complete (run (from v) ls).job ≡ true → complete (run (from w) ls).job ≡ true
    complete_too v w fv fw ls c =
        ap complete (sym (run_alike P ls (from v) (from w) (begin_alike v w fv fw)).job) ∙ c

    -- the blocks of a completed run, whatever the memory held and whichever lanes went first
    pub forgotten : (v w : List ℕ) → block_words * blocks P ≤ length v → block_words * blocks P ≤ length w → (ls ms : List ℕ)
        → complete (run (from v) ls).job ≡ true → complete (run (from w) ms).job ≡ true
        → (b : ℕ) → b < blocks P → block b (run (from v) ls).memory ≡ block b (run (from w) ms).memory
    forgotten v w fv fw ls ms c d b u =
        subst (λ (n : ℕ). block n (run (from v) ls).memory ≡ block n (run (from w) ls).memory) at (same.agree (b / lane_length P) (b % lane_length P) lane place behind)
        ∙ ap (λ (σ : State). block b σ.memory) (complete_alike (from w) (from_stands w fw) ls ms (complete_too v w fv fw ls c) d)
      where
        positive : 1 ≤ lane_length P
        positive = omega (arith, s)

        same : Alike P (run (from v) ls) (run (from w) ls)
        same = run_alike P ls (from v) (from w) (begin_alike v w fv fw)

        lane : b / lane_length P < P.lanes
        lane = (div-lt_iff_lt-mul positive).1 u

        place : b % lane_length P < lane_length P
        place = mod-lt b positive

        at : index (segment P) (b / lane_length P) (b % lane_length P) ≡ b
        at = div-add-mod' b (lane_length P)

        -- every block is behind a job that is complete
        behind : b % lane_length P < rank (run (from v) ls).job (b / lane_length P)
        behind =
            let end : rank (run (from v) ls).job (b / lane_length P) ≡ P.passes * lane_length P =
            rank_complete (run (from v) ls).job (b / lane_length P) (run_complete (from v) (from_stands v fv) ls c)
            ∙ ap (λ (Q : Params). Q.passes * lane_length Q) same.params in
            let one : 1 ≤ P.passes = (params_within P numbers).some_passes in
            omega (arith, end, place, mul-le-mul_right (lane_length P) one)

-- the m' blocks do not depend on what the lent memory held
pub memory_forgotten : (P : Params) (tag : ℕ) (password salt secret ad v w : List ℕ)
    → answered P tag password salt secret ad v ≡ 0 → answered P tag password salt secret ad w ≡ 0
    → (ls ms : List ℕ)
    → complete (run (before P tag password salt secret ad v) ls).job ≡ true
    → complete (run (before P tag password salt secret ad w) ms).job ≡ true
    → (b : ℕ) → b < blocks P
    → block b (run (before P tag password salt secret ad v) ls).memory ≡ block b (run (before P tag password salt secret ad w) ms).memory
memory_forgotten P tag password salt secret ad v w ov ow ls ms c d b u =
    let h : List ℕ = initial_hash P tag password salt secret ad in
    let av : Accepted P tag v = accepted_start P tag password salt secret ad v ov in
    let aw : Accepted P tag w = accepted_start P tag password salt secret ad w ow in
    let ev : before P tag password salt secret ad v ≡ from P tag av.numbers av.allowed h v = started_state P tag password salt secret ad v ov in
    let ew : before P tag password salt secret ad w ≡ from P tag av.numbers av.allowed h w = started_state P tag password salt secret ad w ow in
    ap (λ (σ : State). block b (run σ ls).memory) ev
    ∙ forgotten P tag av.numbers av.allowed h v w av.fits aw.fits ls ms
    (subst (λ (σ : State). complete (run σ ls).job ≡ true) ev c)
    (subst (λ (σ : State). complete (run σ ms).job ≡ true) ew d) b u
    ∙ sym (ap (λ (σ : State). block b (run σ ms).memory) ew)
