-- Steps change no word outside of the blocks that the accepted ones write; and whatever a call answers, it leaves the memory as long and
-- changes no word from 128 · m' on. Assumes nothing.
use mathlib.Core.Path.{◌≡◌, refl, sym, ap, ◌∙◌, subst}
use mathlib.Core.Bool.{Bool, true, false, cond, ◌||◌}
use mathlib.Core.List.{List, [], ◌∷◌, ◌++◌}
use Prim.Native.Nat.{ℕ, ◌*◌, ◌/◌, ◌≤◌, ◌<◌}
use native.Mathlib.Omega.{arith}
use lib.Dec.{eqb}
use lib.ListN.{length, get_or}
use borrow.Author.Tests.{eqb-true, eqb-false}
use Rattle.answer.specs.Answers.{first}
use Rattle.block.specs.Block.{block_words}
use Rattle.params.specs.Limits.{among, segment, blocks}
use Rattle.params.specs.declared.Params.{Params}
use Rattle.params.proofs.Within.{params_within, two}
use Rattle.position.proofs.Columns.{column-lt}
use Rattle.position.proofs.Referring.{index-lt}
use Rattle.position.specs.Position.{column}
use Rattle.checks.specs.Rows.{output_rows}
use Rattle.initial.specs.Initial.{initial_hash}
use Rattle.job.specs.Jobs.{position, complete}
use Rattle.job.specs.declared.Job.{Job}
use Rattle.job.proofs.Tests.{or-false}
use Rattle.argon2.specs.Calls.{Result, started, stepped, finished, hashed, memory_filled}
use Rattle.memory.specs.Lent.{Lent}
use Rattle.memory.specs.Start.{start_memory}
use Rattle.memory.proofs.StartMemory.{start_length, start_outside}
use Rattle.argon2.proofs.StartWrites.{Accepted, accepted_start}
use Rattle.turns.specs.Play.{State, on, begun, accepts, step, run, writes, step_writes, start_writes, written}
use Rattle.turns.proofs.FillMemory.{untagged, fill_answer, fill_lends, fills}
use Rattle.turns.proofs.Started.{answered, before, start_params, started_memory, started_params, start_writes_lem}
use Rattle.turns.proofs.Steps.{ReadyFor, accepted_ready, refused_step, step_params, step_length, one_block}
use Rattle.turns.proofs.Tag.{whole}

-- ---- outside of the blocks written

-- none of two lists, none of each
apart : (b : ℕ) (xs ys : List ℕ) → among b (xs ++ ys) ≡ false → (among b xs ≡ false) × (among b ys ≡ false)
apart b [] ys f = (refl, f)
apart b (x ∷ xs) ys f =
    let o : (eqb b x ≡ false) × (among b (xs ++ ys) ≡ false) = or-false (eqb b x) (among b (xs ++ ys)) f in
    let r : (among b xs ≡ false) × (among b ys ≡ false) = apart b xs ys o.1 in
    (ap (λ (t : Bool). t || among b xs) o.0 ∙ r.0, r.1)

-- on any job and any memory
pub run_outside : (σ : State) (ls : List ℕ) (i : ℕ) → among (i / block_words) (step_writes σ ls) ≡ false
    → get_or (run σ ls).memory i 0 ≡ get_or σ.memory i 0
run_outside σ [] i f = refl
run_outside σ (l ∷ ls) i f = go (λ g. run_outside (step σ l) ls i g) (accepts σ l) refl f
  where
    go : (among (i / block_words) (step_writes (step σ l) ls) ≡ false → get_or (run (step σ l) ls).memory i 0 ≡ get_or (step σ l).memory i 0)
        → (t : Bool) → accepts σ l ≡ t
        → among (i / block_words) (cond t (writes σ l ∷ step_writes (step σ l) ls) (step_writes (step σ l) ls)) ≡ false
        → get_or (run (step σ l) ls).memory i 0 ≡ get_or σ.memory i 0
    go ih true e g =
        let o : (eqb (i / block_words) (writes σ l) ≡ false) × (among (i / block_words) (step_writes (step σ l) ls) ≡ false) =
        or-false (eqb (i / block_words) (writes σ l)) (among (i / block_words) (step_writes (step σ l) ls)) g in
        ih o.1 ∙ (one_block σ l).others i (eqb-false (i / block_words) (writes σ l) o.0)
    go ih false e g = ih g ∙ ap (λ (τ : State). get_or τ.memory i 0) (refused_step σ l e)

-- from a start, accepted or refused
pub written_outside : (P : Params) (tag : ℕ) (password salt secret ad w : List ℕ) (ls : List ℕ) (i : ℕ)
    → among (i / block_words) (written (before P tag password salt secret ad w) ls) ≡ false
    → get_or (run (before P tag password salt secret ad w) ls).memory i 0 ≡ get_or w i 0
written_outside P tag password salt secret ad w ls i f = run_outside σ ls i both.1 ∙ go (eqb (answered P tag password salt secret ad w) 0) refl
  where
    σ : State
    σ = before P tag password salt secret ad w

    both : (among (i / block_words) (start_writes σ.job.params.lanes (segment σ.job.params)) ≡ false)
        × (among (i / block_words) (step_writes σ ls) ≡ false)
    both = apart (i / block_words) (start_writes σ.job.params.lanes (segment σ.job.params)) (step_writes σ ls) f

    go : (t : Bool) → eqb (answered P tag password salt secret ad w) 0 ≡ t → get_or σ.memory i 0 ≡ get_or w i 0
    go true t =
        (start_writes_lem P tag password salt secret ad w).others i
        (subst (λ (Q : Params). among (i / block_words) (start_writes Q.lanes (segment Q)) ≡ false)
        (started_params P tag password salt secret ad w (eqb-true (answered P tag password salt secret ad w) 0 t)) both.0)
    go false t =
        ap (λ (v : List ℕ). get_or v i 0)
        ((start_writes_lem P tag password salt secret ad w).refused (eqb-false (answered P tag password salt secret ad w) 0 t)).0

-- ---- beyond the blocks

-- a memory after a call on w: as long, and the same from word n on
pub record Keeps (n : ℕ) (w v : List ℕ) : Type 0 where
  pub words : (i : ℕ) → n ≤ i → get_or v i 0 ≡ get_or w i 0
  pub as_long : length v ≡ length w

untouched : (n : ℕ) {w v : List ℕ} → v ≡ w → Keeps n w v
untouched n e = record { words = λ i k. ap (λ (x : List ℕ). get_or x i 0) e; as_long = ap length e }

and_then : {n : ℕ} {u v w : List ℕ} → Keeps n u v → Keeps n v w → Keeps n u w
and_then a b = record { words = λ i k. b.words i k ∙ a.words i k; as_long = b.as_long ∙ a.as_long }

-- a step of any job on any memory
step_keeps : (σ : State) (l : ℕ) → Keeps (block_words * blocks σ.job.params) σ.memory (step σ l).memory
step_keeps σ l = record { words = go; as_long = step_length σ l }
  where
    go : (i : ℕ) → block_words * blocks σ.job.params ≤ i → get_or (step σ l).memory i 0 ≡ get_or σ.memory i 0
    go i k = pick (accepts σ l) refl
      where
        pick : (t : Bool) → accepts σ l ≡ t → get_or (step σ l).memory i 0 ≡ get_or σ.memory i 0
        pick true e =
            let h : ReadyFor σ l = accepted_ready σ l e in
            let below : writes σ l < blocks σ.job.params =
            index-lt σ.job.params.lanes (segment σ.job.params) l (column (segment σ.job.params) σ.job.slice (position σ.job l)) h.lane
            (column-lt (segment σ.job.params) σ.job.slice (position σ.job l) h.inside.within h.under) in
            (one_block σ l).others i (λ q. omega (arith, q, below, k))
        pick false e = ap (λ (τ : State). get_or τ.memory i 0) (refused_step σ l e)

-- steps, in any order
run_keeps : (P : Params) (σ : State) → σ.job.params ≡ P → (ls : List ℕ) → Keeps (block_words * blocks P) σ.memory (run σ ls).memory
run_keeps P σ e [] = untouched (block_words * blocks P) refl
run_keeps P σ e (l ∷ ls) =
    and_then (subst (λ (Q : Params). Keeps (block_words * blocks Q) σ.memory (step σ l).memory) e (step_keeps σ l))
    (run_keeps P (step σ l) (step_params σ l ∙ e) ls)

-- the first blocks
first_keeps : (P : Params) (h w : List ℕ) → 2 ≤ segment P → block_words * blocks P ≤ length w
    → Keeps (block_words * blocks P) w (start_memory h P.lanes (segment P) w)
first_keeps P h w s fits =
    record {
      words = λ i k.
          start_outside h P.lanes (segment P) s w fits i
          (λ l c hl hc q. omega (arith, q, k, index-lt P.lanes (segment P) l c hl (omega (arith, s, hc))));
      as_long = start_length h P.lanes (segment P) s w fits;
    }

-- ---- the calls, accepted or refused

start_keeps : (P : Params) (tag : ℕ) (password salt secret ad w : List ℕ)
    → Keeps (block_words * blocks P) w (before P tag password salt secret ad w).memory
start_keeps P tag password salt secret ad w = go (eqb (answered P tag password salt secret ad w) 0) refl
  where
    go : (t : Bool) → eqb (answered P tag password salt secret ad w) 0 ≡ t
        → Keeps (block_words * blocks P) w (before P tag password salt secret ad w).memory
    go true t =
        let e : answered P tag password salt secret ad w ≡ 0 = eqb-true (answered P tag password salt secret ad w) 0 t in
        let a : Accepted P tag w = accepted_start P tag password salt secret ad w e in
        subst (λ (v : List ℕ). Keeps (block_words * blocks P) w v) (sym (started_memory P tag password salt secret ad w e))
        (first_keeps P (initial_hash P tag password salt secret ad) w (two (params_within P a.numbers)) a.fits)
    go false t =
        untouched (block_words * blocks P)
        ((start_writes_lem P tag password salt secret ad w).refused (eqb-false (answered P tag password salt secret ad w) 0 t)).0

hash_keeps : (P : Params) (password salt secret ad w out : List ℕ) → Keeps (block_words * blocks P) w (hashed P password salt secret ad w out).memory
unfolding finished
hash_keeps P password salt secret ad w out = go (eqb (answered P (length out) password salt secret ad w) 0) refl
  where
    σ : State
    σ = before P (length out) password salt secret ad w

    kept : Keeps (block_words * blocks P) w σ.memory
    kept = start_keeps P (length out) password salt secret ad w

    go : (t : Bool) → eqb (answered P (length out) password salt secret ad w) 0 ≡ t
        → Keeps (block_words * blocks P) w (hashed P password salt secret ad w out).memory
    go true t =
        let e : answered P (length out) password salt secret ad w ≡ 0 = eqb-true (answered P (length out) password salt secret ad w) 0 t in
        let some : (ls : List ℕ) × (complete (run σ ls).job ≡ true) = (whole P password salt secret ad w out).completed e in
        subst (λ (r : Result). Keeps (block_words * blocks P) w r.memory) (sym ((whole P password salt secret ad w out).accepted e some.0 some.1))
        (and_then kept (run_keeps P σ (started_params P (length out) password salt secret ad w e) some.0))
    go false t =
        subst (λ (r : Result). Keeps (block_words * blocks P) w r.memory)
        (sym ((whole P password salt secret ad w out).refused (eqb-false (answered P (length out) password salt secret ad w) 0 t))) kept

fill_keeps : (P : Params) (password salt secret ad w : List ℕ) → Keeps (block_words * blocks P) w (memory_filled P password salt secret ad w).memory
fill_keeps P password salt secret ad w = go (eqb (fill_answer P password salt secret ad w) 0) refl
  where
    go : (t : Bool) → eqb (fill_answer P password salt secret ad w) 0 ≡ t
        → Keeps (block_words * blocks P) w (memory_filled P password salt secret ad w).memory
    go true t =
        let e : fill_answer P password salt secret ad w ≡ 0 = eqb-true (fill_answer P password salt secret ad w) 0 t in
        let some : (n : ℕ) × (first (output_rows P.configured n) ≡ 0)
        × ((ls : List ℕ) × (complete (run (untagged P password salt secret ad n w) ls).job ≡ true)) =
        (fills P password salt secret ad w).completed e in
        let l : Lent P (length w) = fill_lends P password salt secret ad w e in
        subst (λ (v : List ℕ). Keeps (block_words * blocks P) w v)
        (sym ((fills P password salt secret ad w).any_order e some.0 some.1 some.2.0 some.2.1))
        (and_then (first_keeps P (initial_hash P 0 password salt secret ad) w (two (params_within P l.accepted)) l.enough)
        (run_keeps P (untagged P password salt secret ad some.0 w) (start_params P some.0 l.accepted some.1) some.2.0))
    go false t = untouched (block_words * blocks P) ((fills P password salt secret ad w).refused (eqb-false (fill_answer P password salt secret ad w) 0 t))

-- whatever it answers, no call changes a word from 128 · m' on, nor how many there are
pub record Beyond : Type 0 where
  pub start : (P : Params) (tag : ℕ) (password salt secret ad w : List ℕ)
      → Keeps (block_words * blocks P) w (started P tag password salt secret ad w).memory
  pub step : (j : Job) (w : List ℕ) (l : ℕ) → Keeps (block_words * blocks j.params) w (stepped j w l).memory
  pub finish : (j : Job) (w out : List ℕ) → (finished j w out).memory ≡ w
  pub hash : (P : Params) (password salt secret ad w out : List ℕ) → Keeps (block_words * blocks P) w (hashed P password salt secret ad w out).memory
  pub fill : (P : Params) (password salt secret ad w : List ℕ) → Keeps (block_words * blocks P) w (memory_filled P password salt secret ad w).memory

pub beyond : Beyond
unfolding begun step finished
beyond =
    record {
      start = start_keeps;
      step = λ j w l. step_keeps (on j w) l;
      finish = λ j w out. refl;
      hash = hash_keeps;
      fill = fill_keeps;
    }
