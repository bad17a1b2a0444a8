-- An accepted start: what its answer says of the inputs, where its job stands, that it writes blocks 0 and 1 of every lane and no other
-- word, and that a refused one changes nothing. Assumes nothing.
use mathlib.Core.Path.{◌≡◌, refl, sym, ap, ◌∙◌, subst}
use mathlib.Core.Logic.{◌≢◌, inl}
use mathlib.Core.Bool.{Bool, true, false, cond, ◌||◌, true≢false}
use mathlib.Core.List.{List, ◌++◌}
use Prim.Native.Nat.{ℕ, zero, suc, ◌-◌, ◌*◌, ◌/◌, ◌≤◌, ◌<◌}
use native.Mathlib.Omega.{arith}
use lib.Dec.{eqb, ltb}
use lib.ListN.{length, get_or, replicate, length-append, length-replicate}
use borrow.Author.Tests.{eqb-true, eqb-false, ne_eqb, ltb-true, ltb-false, le-ltb}
use Rattle.answer.specs.Answers.{first, if_accepted}
use Rattle.block.specs.Block.{block_words}
use Rattle.params.specs.Limits.{rows, among, max_lanes, segment, blocks}
use Rattle.params.specs.declared.Params.{Params}
use Rattle.params.proofs.Within.{params_within, two}
use Rattle.position.specs.Position.{first_block, index}
use Rattle.argon2.specs.Calls.{started}
use Rattle.initial.specs.Initial.{initial_hash, first_words}
use Rattle.memory.specs.Start.{start_memory}
use Rattle.job.specs.Jobs.{position, onward, next_slice, start_job, zero_job}
use Rattle.memory.specs.Memory.{block}
use Rattle.checks.specs.Rows.{output_rows}
use Rattle.job.specs.declared.Job.{Job}
use Rattle.job.proofs.Jobs.{Bounds, unfinished_by, onward_unfinished, onward_finished, zeros_at, next_position, next_stands}
use Rattle.memory.proofs.StartMemory.{start_length, start_block}
use Rattle.argon2.proofs.StartWrites.{Accepted, accepted_start, start_others}
use Rattle.job.proofs.Tests.{any_of_false}
use Rattle.turns.specs.Play.{State, begun, start_writes}
use Rattle.turns.proofs.Rank.{rank, rank_onward}
use Rattle.turns.proofs.Steps.{onward_params, StandsAt, Stands}

-- ---- the job that a start hands back

-- n lanes at v, and m at 0
used : (v n m i : ℕ) → i < n → ◌≡◌ {A = ℕ} (get_or (replicate n v ++ replicate m 0) i 0) v
used v zero m i h = absurd (omega arith)
used v (suc n) m zero h = refl
used v (suc n) m (suc i) h = used v n m i (omega arith)

idle : (v n m i : ℕ) → n ≤ i → ◌≡◌ {A = ℕ} (get_or (replicate n v ++ replicate m 0) i 0) 0
idle v zero m i h = zeros_at m i
idle v (suc n) m zero h = absurd (omega arith)
idle v (suc n) m (suc i) h = idle v n m i (omega arith)

-- at the beginning of a slice, or complete
pub record Begin (P : Params) (r sl : ℕ) (j : Job) : Type 0 where
  pub stands : StandsAt j
  pub params : j.params ≡ P
  pub pass : j.pass ≡ r
  pub slice : j.slice ≡ sl
  pub at : (i : ℕ) → i < P.lanes → position j i ≡ first_block r sl

-- every lane at block 2
first_job : Params → ℕ → Job
first_job P tag =
    record {
      params = P;
      tag = tag;
      pass = 0;
      slice = 0;
      positions = replicate P.lanes (first_block 0 0) ++ replicate (max_lanes - P.lanes) 0;
    }

module _ (P : Params) (tag : ℕ) (numbers : first (rows P) ≡ 0) (allowed : first (output_rows P.configured tag) ≡ 0) where
  z : Bounds P
  z = params_within P numbers

  j : Job
  j = first_job P tag

  at_first : (i : ℕ) → i < P.lanes → position j i ≡ first_block 0 0
  unfolding first_job j
  at_first i h = used (first_block 0 0) P.lanes (max_lanes - P.lanes) i h

  -- a segment longer than its first blocks: the job begins pass 0, slice 0
  pub begins_first : ltb (first_block 0 0) (segment P) ≡ true → Begin P 0 0 (start_job P tag)
  unfolding start_job first_job j
  begins_first t =
      let u : first_block 0 0 < segment P = ltb-true (first_block 0 0) (segment P) t in
      subst (λ (i : Job). Begin P 0 0 i) (sym (onward_unfinished j (unfinished_by j 0 z.some_lanes (omega (arith, at_first 0 z.some_lanes)))))
      (record {
        stands =
            inl
            (record {
              numbers = numbers;
              tag = allowed;
              places =
                  length-append (replicate P.lanes (first_block 0 0)) (replicate (max_lanes - P.lanes) 0)
                  ∙ omega (arith, length-replicate {A = ℕ} P.lanes (first_block 0 0), length-replicate {A = ℕ} (max_lanes - P.lanes) 0, z.few_lanes);
              idle = λ l k. idle (first_block 0 0) P.lanes (max_lanes - P.lanes) l k;
              below = z.some_passes;
              within = omega arith;
              low = λ l k. omega (arith, at_first l k);
              high = λ l k. omega (arith, at_first l k);
              some = (0, z.some_lanes, omega (arith, at_first 0 z.some_lanes));
            });
        params = refl;
        pass = refl;
        slice = refl;
        at = at_first;
      })

  -- a segment of 2: it begins slice 1
  pub begins_second : ltb (first_block 0 0) (segment P) ≡ false → Begin P 0 1 (start_job P tag)
  unfolding start_job first_job j next_slice
  begins_second t =
      let u : segment P ≤ first_block 0 0 = ltb-false (first_block 0 0) (segment P) t in
      let e : onward j ≡ next_slice j =
      onward_finished j (any_of_false P.lanes (λ i. ltb (position j i) (segment P)) (λ i k. le-ltb (position j i) (segment P) (omega (arith, at_first i k)))) in
      subst (λ (i : Job). Begin P 0 1 i) (sym e)
      (record {
        stands = next_stands j numbers allowed z.some_passes (omega arith);
        params = refl;
        pass = refl;
        slice = refl;
        at = λ i h. next_position j i;
      })

  -- it is consistent, and has two blocks of each lane behind it
  pub start_stands : StandsAt (start_job P tag)
  start_stands = go (ltb (first_block 0 0) (segment P)) refl
    where
      go : (t : Bool) → ltb (first_block 0 0) (segment P) ≡ t → StandsAt (start_job P tag)
      go true t = (begins_first t).stands
      go false t = (begins_second t).stands

  pub start_params : (start_job P tag).params ≡ P
  unfolding start_job
  start_params = onward_params _

  pub start_rank : (l : ℕ) → l < P.lanes → rank (start_job P tag) l ≡ 2
  unfolding start_job first_job j rank
  start_rank l h =
      rank_onward j l (omega arith) h (omega (arith, at_first l h, two z)) ∙ omega (arith, at_first l h)

-- ---- the blocks that start writes

-- a block that is not among them is none of them
among_start : (n s b : ℕ) → among b (start_writes n s) ≡ false → (l c : ℕ) → l < n → c < 2 → b ≢ index s l c
among_start zero s b f l c hl hc e = omega arith
among_start (suc n) s b f l c hl hc e =
    go (λ g k. among_start n s b g l c k hc e) (eqb b (index s n 0)) refl (eqb b (index s n 1)) refl f (eqb l n) refl (eqb c 0) refl
  where
    go : (among b (start_writes n s) ≡ false → l < n → ⊥)
        → (t : Bool) → eqb b (index s n 0) ≡ t → (u : Bool) → eqb b (index s n 1) ≡ u → t || (u || among b (start_writes n s)) ≡ false
        → (v : Bool) → eqb l n ≡ v → (x : Bool) → eqb c 0 ≡ x → ⊥
    go ih true t u q g v y x k = true≢false g
    go ih false t true q g v y x k = true≢false g
    go ih false t false q g false y x k = ih g (omega (arith, eqb-false l n y))
    go ih false t false q g true y true k = eqb-false b (index s n 0) t (e ∙ (λ i. index s (eqb-true l n y i) (eqb-true c 0 k i)))
    go ih false t false q g true y false k =
        let one : c ≡ 1 = omega (arith, eqb-false c 0 k) in
        eqb-false b (index s n 1) q (e ∙ (λ i. index s (eqb-true l n y i) (one i)))

-- ---- an accepted start

module _ (P : Params) (tag : ℕ) (password salt secret ad w : List ℕ) where
  -- what start answers, and what it leaves
  abbrev pub answered : ℕ
  answered = (started P tag password salt secret ad w).answer

  abbrev pub before : State
  before = begun P tag password salt secret ad w

  pub started_state : answered ≡ 0
      → before ≡ record { job = start_job P tag; memory = start_memory (initial_hash P tag password salt secret ad) P.lanes (segment P) w }
  unfolding started begun
  started_state e =
      ap {B = State}
      (λ (n : ℕ).
      record {
        job = if_accepted n (start_job P tag) zero_job;
        memory = if_accepted n (start_memory (initial_hash P tag password salt secret ad) P.lanes (segment P) w) w;
      })
      e

  pub refused_state : answered ≢ 0 → before ≡ record { job = zero_job; memory = w }
  unfolding started begun
  refused_state n =
      ap {B = State}
      (λ (t : Bool).
      record {
        job = cond t (start_job P tag) zero_job;
        memory = cond t (start_memory (initial_hash P tag password salt secret ad) P.lanes (segment P) w) w;
      })
      (ne_eqb answered 0 n)

  module _ (e : answered ≡ 0) where
    a : Accepted P tag w
    a = accepted_start P tag password salt secret ad w e

    pub started_job : before.job ≡ start_job P tag
    started_job = ap (λ (σ : State). σ.job) (started_state e)

    pub started_memory : before.memory ≡ start_memory (initial_hash P tag password salt secret ad) P.lanes (segment P) w
    started_memory = ap (λ (σ : State). σ.memory) (started_state e)

    pub started_params : before.job.params ≡ P
    started_params = ap (λ (i : Job). i.params) started_job ∙ start_params P tag a.numbers a.allowed

    pub started_rank : (l : ℕ) → l < P.lanes → rank before.job l ≡ 2
    started_rank l k = ap (λ (i : Job). rank i l) started_job ∙ start_rank P tag a.numbers a.allowed l k

    pub started_length : length before.memory ≡ length w
    started_length =
        ap length started_memory
        ∙ start_length (initial_hash P tag password salt secret ad) P.lanes (segment P) (two (params_within P a.numbers)) w a.fits

    pub started_stands : Stands before
    started_stands =
        record {
          job = subst (λ (i : Job). StandsAt i) (sym started_job) (start_stands P tag a.numbers a.allowed);
          fits =
              subst (λ (Q : Params). block_words * blocks Q ≤ length before.memory) (sym started_params)
              (omega (arith, a.fits, started_length));
        }

  -- start changes blocks 0 and 1 of the used lanes and nothing else
  pub record StartWrites : Type 0 where
    pub blocks : answered ≡ 0 → (l b : ℕ) → l < P.lanes → b < 2
        → block (index (segment P) l b) before.memory ≡ first_words (initial_hash P tag password salt secret ad) l b
    pub others : (i : ℕ) → among (i / block_words) (start_writes P.lanes (segment P)) ≡ false → get_or before.memory i 0 ≡ get_or w i 0
    pub as_long : length before.memory ≡ length w
    pub refused : answered ≢ 0 → (before.memory ≡ w) × (before.job ≡ zero_job)

  pub start_writes_lem : StartWrites
  unfolding begun
  start_writes_lem =
      record {
        blocks = λ e l b hl hb.
            let a : Accepted P tag w = accepted_start P tag password salt secret ad w e in
            ap (block (index (segment P) l b)) (started_memory e)
            ∙ start_block (initial_hash P tag password salt secret ad) P.lanes (segment P) (two (params_within P a.numbers)) w a.fits l b hl hb;
        others = λ i f. start_others P tag password salt secret ad w i (among_start P.lanes (segment P) (i / block_words) f);
        as_long = long (eqb answered 0) refl;
        refused = λ n. (ap (λ (σ : State). σ.memory) (refused_state n), ap (λ (σ : State). σ.job) (refused_state n));
      }
    where
      long : (t : Bool) → eqb answered 0 ≡ t → length before.memory ≡ length w
      long true t = started_length (eqb-true answered 0 t)
      long false t = ap (λ (σ : State). length σ.memory) (refused_state (eqb-false answered 0 t))
