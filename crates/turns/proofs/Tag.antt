-- Any steps that complete filling leave the memory of RFC 9106's order, and finish gives the tag that RFC 9106 defines of the inputs alone,
-- whatever the memory held. So the whole hash leaves what start, steps to completion and finish leave. Assumes nothing.
use mathlib.Core.Path.{◌≡◌, refl, sym, ap, ◌∙◌, subst}
use mathlib.Core.Logic.{◌≢◌}
use mathlib.Core.Bool.{Bool, true, false, cond}
use mathlib.Core.List.{List, [], ◌∷◌}
use Prim.Native.Nat.{ℕ, zero, suc, ◌-◌, ◌*◌, ◌≤◌, ◌<◌}
use native.Mathlib.Omega.{arith}
use lib.ListN.{length, replicate, length-replicate}
use borrow.Author.Tests.{eq-eqb, ne_eqb}
use Rattle.answer.specs.Answers.{first, if_accepted}
use Rattle.word.specs.Word.{bytes}
use Rattle.blake2b_long.specs.Long.{long}
use Rattle.block.specs.Block.{block_words, xors}
use Rattle.params.specs.Limits.{rows, slices, segment, blocks}
use Rattle.params.specs.declared.Params.{Params}
use Rattle.params.proofs.Within.{params_within, two}
use Rattle.position.specs.Position.{index}
use Rattle.position.proofs.Referring.{index-lt}
use Rattle.memory.specs.Tag.{last_blocks, tag_of}
use Rattle.argon2.specs.Argon2.{filled, argon2}
use Rattle.argon2.specs.Calls.{Result, started, finished, hashed}
use Rattle.filling.specs.Filling.{fill_all}
use Rattle.initial.specs.Initial.{initial_hash}
use Rattle.job.specs.Jobs.{complete, unfinished, moved, onward, next_slice, start_job}
use Rattle.memory.specs.Memory.{block}
use Rattle.checks.specs.Rows.{output_rows}
use Rattle.job.specs.declared.Job.{Job}
use Rattle.job.proofs.Jobs.{Finishing, finishing_accepted}
use Rattle.memory.proofs.StartMemory.{start_length}
use Rattle.argon2.proofs.StartWrites.{Accepted, accepted_start}
use Rattle.turns.specs.Play.{State, step, run}
use Rattle.turns.proofs.Canonical.{To, canonical}
use Rattle.turns.proofs.Completion.{run_complete, complete_alike}
use Rattle.turns.proofs.Forgotten.{from, from_stands, forgotten}
use Rattle.turns.proofs.Started.{Begin, answered, before, started_state, refused_state, start_params}
use Rattle.turns.proofs.Steps.{after_step, run_params, run_stands, Stands}

-- ---- the tag is made of the blocks alone

same_last : (p s n : ℕ) (v w : List ℕ) → n ≤ p → 1 ≤ s → ((b : ℕ) → b < p * (slices * s) → block b v ≡ block b w) → last_blocks n s v ≡ last_blocks n s w
unfolding last_blocks
same_last p s zero v w k o h = refl
same_last p s (suc n) v w k o h =
    ap (λ (x : List ℕ). xors x (block (index s n (slices * s - 1)) v)) (same_last p s n v w (omega arith) o h)
    ∙ ap (xors (last_blocks n s w)) (h (index s n (slices * s - 1)) (index-lt p s n (slices * s - 1) (omega arith) (omega arith)))

same_tag : (P : Params) (n : ℕ) (v w : List ℕ) → 1 ≤ segment P → ((b : ℕ) → b < blocks P → block b v ≡ block b w) → tag_of P n v ≡ tag_of P n w
unfolding tag_of
same_tag P n v w o h = ap (λ (b : List ℕ). long n (bytes b)) (same_last P.lanes (segment P) P.lanes v w (omega arith) o h)

-- ---- the tag length stays

onward_tag : (j : Job) → (onward j).tag ≡ j.tag
unfolding onward next_slice
onward_tag j = go (unfinished j)
  where
    go : (t : Bool) → (cond t j (next_slice j)).tag ≡ j.tag
    go true = refl
    go false = refl

run_tag : (σ : State) (ls : List ℕ) → (run σ ls).job.tag ≡ σ.job.tag
unfolding moved
run_tag σ [] = refl
run_tag σ (l ∷ ls) =
    run_tag (step σ l) ls ∙ after_step (λ τ. τ.job.tag ≡ σ.job.tag) σ l (λ e. onward_tag (moved σ.job l)) (λ e. refl)

start_tag : (P : Params) (tag : ℕ) → (start_job P tag).tag ≡ tag
unfolding start_job
start_tag P tag = onward_tag _

-- ---- a completed run

module _
    (P : Params) (tag : ℕ) (numbers : first (rows P) ≡ 0) (allowed : first (output_rows P.configured tag) ≡ 0) (h : List ℕ)
  where
    abbrev pub on : List ℕ → State
    on w = from P tag numbers allowed h w

    -- RFC 9106's order is one, and completes it
    pub rfc : (w : List ℕ) → block_words * blocks P ≤ length w → To P (on w) (fill_all P (on w).memory) (Begin P P.passes 0)
    rfc w fits =
        canonical P tag numbers allowed (on w).memory
        (omega (arith, fits, start_length h P.lanes (segment P) (two (params_within P numbers)) w fits))

    pub rfc_complete : (w : List ℕ) (fits : block_words * blocks P ≤ length w) → complete (run (on w) (rfc w fits).0).job ≡ true
    rfc_complete w fits =
        let b : Begin P P.passes 0 (run (on w) (rfc w fits).0).job = (rfc w fits).3 in
        eq-eqb (run (on w) (rfc w fits).0).job.pass (run (on w) (rfc w fits).0).job.params.passes
        (b.pass ∙ ap (λ (Q : Params). Q.passes) (sym b.params))

    -- so any order that completes it leaves that memory
    pub complete_memory : (w : List ℕ) → block_words * blocks P ≤ length w → (ls : List ℕ) → complete (run (on w) ls).job ≡ true
        → (run (on w) ls).memory ≡ fill_all P (on w).memory
    complete_memory w fits ls c =
        ap (λ (σ : State). σ.memory)
        (complete_alike (on w) (from_stands P tag numbers allowed h w fits) ls (rfc w fits).0 c (rfc_complete w fits))
        ∙ (rfc w fits).1

    -- finish is accepted, and hashes the last blocks
    finish_accepted : (w : List ℕ) → block_words * blocks P ≤ length w → (ls : List ℕ) → complete (run (on w) ls).job ≡ true
        → (out : List ℕ) → length out ≡ tag
        → finished (run (on w) ls).job (run (on w) ls).memory out
        ≡ record { answer = 0; memory = (run (on w) ls).memory; output = tag_of P (length out) (run (on w) ls).memory }
    unfolding finished
    finish_accepted w fits ls c out e =
        let s : Stands (run (on w) ls) = run_stands (on w) ls (from_stands P tag numbers allowed h w fits) in
        let f : Finishing (run (on w) ls).job (length (run (on w) ls).memory) (length out) =
        record {
          complete = run_complete (on w) (from_stands P tag numbers allowed h w fits) ls c;
          fits = s.fits;
          length = e ∙ sym (run_tag (on w) ls ∙ start_tag P tag);
        } in
        ap {B = Result}
        (λ (n : ℕ).
        record {
          answer = n;
          memory = (run (on w) ls).memory;
          output = if_accepted n (tag_of (run (on w) ls).job.params (length out) (run (on w) ls).memory) out;
        })
        (finishing_accepted (run (on w) ls).job (length (run (on w) ls).memory) (length out) f)
        ∙ ap {B = Result}
        (λ (Q : Params).
        record { answer = 0; memory = (run (on w) ls).memory; output = tag_of Q (length out) (run (on w) ls).memory })
        (run_params (on w) ls ∙ start_params P tag numbers allowed)

    -- two memories, one tag
    same_end : (v w : List ℕ) → block_words * blocks P ≤ length v → block_words * blocks P ≤ length w → (n : ℕ)
        → tag_of P n (fill_all P (on v).memory) ≡ tag_of P n (fill_all P (on w).memory)
    same_end v w fv fw n =
        same_tag P n (fill_all P (on v).memory) (fill_all P (on w).memory) (omega (arith, two (params_within P numbers)))
        (λ b u.
        ap (block b) (sym (rfc v fv).1)
        ∙ forgotten P tag numbers allowed h v w fv fw (rfc v fv).0 (rfc w fw).0 (rfc_complete v fv) (rfc_complete w fw) b u
        ∙ ap (block b) (rfc w fw).1)

-- ---- from an accepted start

module _ (P : Params) (n : ℕ) (password salt secret ad w : List ℕ) (ok : answered P n password salt secret ad w ≡ 0) where
  abbrev σ : State
  σ = before P n password salt secret ad w

  a : Accepted P n w
  a = accepted_start P n password salt secret ad w ok

  state : σ ≡ on P n a.numbers a.allowed (initial_hash P n password salt secret ad) w
  state = started_state P n password salt secret ad w ok

  -- some list of lanes completes filling
  pub completes : (ls : List ℕ) × (complete (run σ ls).job ≡ true)
  completes = (
    (rfc P n a.numbers a.allowed (initial_hash P n password salt secret ad) w a.fits).0,
    subst (λ (τ : State). complete (run τ (rfc P n a.numbers a.allowed (initial_hash P n password salt secret ad) w a.fits).0).job ≡ true)
        (sym state) (rfc_complete P n a.numbers a.allowed (initial_hash P n password salt secret ad) w a.fits),
  )

  module _ (ls : List ℕ) (c : complete (run σ ls).job ≡ true) where
    c' : complete (run (on P n a.numbers a.allowed (initial_hash P n password salt secret ad) w) ls).job ≡ true
    c' = subst (λ (τ : State). complete (run τ ls).job ≡ true) state c

    -- the memory is that of RFC 9106's order
    pub filled_memory : (run σ ls).memory ≡ filled P n password salt secret ad w
    unfolding filled
    filled_memory =
        ap (λ (τ : State). (run τ ls).memory) state
        ∙ complete_memory P n a.numbers a.allowed (initial_hash P n password salt secret ad) w a.fits ls c'

    -- finish leaves that memory, and its tag in the output
    pub finished_as : (out : List ℕ) → length out ≡ n
        → finished (run σ ls).job (run σ ls).memory out
        ≡ record {
          answer = 0;
          memory = filled P n password salt secret ad w;
          output = tag_of P (length out) (filled P n password salt secret ad w);
        }
    finished_as out e =
        ap (λ (τ : State). finished (run τ ls).job (run τ ls).memory out) state
        ∙ finish_accepted P n a.numbers a.allowed (initial_hash P n password salt secret ad) w a.fits ls c' out e
        ∙ ap {B = Result} (λ (v : List ℕ). record { answer = 0; memory = v; output = tag_of P (length out) v })
        (ap (λ (τ : State). (run τ ls).memory) (sym state) ∙ filled_memory)

  -- the tag of the inputs, over memory that held anything
  filled_tag : tag_of P n (filled P n password salt secret ad w) ≡ argon2 P n password salt secret ad
  unfolding argon2 filled
  filled_tag =
      same_end P n a.numbers a.allowed (initial_hash P n password salt secret ad) w (replicate (block_words * blocks P) 0) a.fits
      (omega (arith, length-replicate {A = ℕ} (block_words * blocks P) 0)) n

  -- for every memory lent and every list of lanes that completes filling, finish is accepted and gives Argon2 of the inputs
  pub tag : (ls : List ℕ) → complete (run σ ls).job ≡ true → (out : List ℕ) → length out ≡ n
      → ((finished (run σ ls).job (run σ ls).memory out).answer ≡ 0)
      × ((finished (run σ ls).job (run σ ls).memory out).output ≡ argon2 P n password salt secret ad)
  tag ls c out e = (
    ap (λ (r : Result). r.answer) (finished_as ls c out e),
    ap (λ (r : Result). r.output) (finished_as ls c out e)
        ∙ ap (λ (m : ℕ). tag_of P m (filled P n password salt secret ad w)) e
        ∙ filled_tag,
  )

-- ---- the whole hash

module _ (P : Params) (password salt secret ad w out : List ℕ) where
  abbrev start_answer : ℕ
  start_answer = answered P (length out) password salt secret ad w

  abbrev start_state : State
  start_state = before P (length out) password salt secret ad w

  pub record Whole : Type 0 where
    -- start refused: its answer, and memory and output as they were
    pub refused : start_answer ≢ 0 → hashed P password salt secret ad w out ≡ record { answer = start_answer; memory = start_state.memory; output = out }
    -- start accepted: what finish answers and leaves after any steps to completion, and some steps complete it
    pub accepted : start_answer ≡ 0 → (ls : List ℕ) → complete (run start_state ls).job ≡ true
        → hashed P password salt secret ad w out ≡ finished (run start_state ls).job (run start_state ls).memory out
    pub completed : start_answer ≡ 0 → (ls : List ℕ) × (complete (run start_state ls).job ≡ true)

  abbrev end : List ℕ
  end = filled P (length out) password salt secret ad w

  hashed_refused : start_answer ≢ 0 → hashed P password salt secret ad w out ≡ record { answer = start_answer; memory = w; output = out }
  unfolding hashed started
  hashed_refused n =
      ap {B = Result}
      (λ (t : Bool). record { answer = start_answer; memory = cond t end w; output = cond t (tag_of P (length out) end) out })
      (ne_eqb start_answer 0 n)

  hashed_accepted : start_answer ≡ 0 → hashed P password salt secret ad w out ≡ record { answer = 0; memory = end; output = tag_of P (length out) end }
  unfolding hashed started
  hashed_accepted e =
      ap {B = Result} (λ (n : ℕ). record { answer = n; memory = if_accepted n end w; output = if_accepted n (tag_of P (length out) end) out }) e

  -- the whole hash leaves answer, memory and output as start, steps to completion and finish do
  pub whole : Whole
  whole =
      record {
        refused = λ n.
            hashed_refused n
            ∙ ap {B = Result} (λ (v : List ℕ). record { answer = start_answer; memory = v; output = out })
            (sym (ap (λ (σ : State). σ.memory) (refused_state P (length out) password salt secret ad w n)));
        accepted = λ e ls c. hashed_accepted e ∙ sym (finished_as P (length out) password salt secret ad w e ls c out refl);
        completed = λ e. completes P (length out) password salt secret ad w e;
      }
