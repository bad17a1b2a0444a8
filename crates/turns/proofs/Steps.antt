-- One step on any job and any memory: what it leaves if it is accepted and if it is refused; that it writes one block and keeps the memory's
-- length; and that a consistent job on enough memory stays so. Assumes nothing.
use mathlib.Core.Path.{◌≡◌, refl, sym, ap, ◌∙◌, subst}
use mathlib.Core.Logic.{◌≢◌, ◌⊎◌, inl, inr}
use mathlib.Core.Bool.{Bool, true, false, cond}
use mathlib.Core.List.{List, [], ◌∷◌}
use Prim.Native.Nat.{ℕ, ◌*◌, ◌/◌, ◌≤◌}
use native.Mathlib.Omega.{arith}
use lib.ListN.{length, get_or}
use borrow.Author.Tests.{eqb-true, eq-eqb}
use Rattle.answer.specs.Answers.{first}
use Rattle.block.specs.Block.{block_words}
use Rattle.params.specs.Limits.{blocks}
use Rattle.params.specs.declared.Params.{Params}
use Rattle.params.proofs.Within.{two}
use Rattle.argon2.specs.Calls.{stepped}
use Rattle.filling.specs.Filling.{fill, stored_block}
use Rattle.job.specs.Jobs.{position, complete, consistent, unfinished, moved, onward, next_slice, step_rows}
use Rattle.memory.specs.Memory.{block}
use Rattle.job.specs.declared.Job.{Job}
use Rattle.filling.proofs.Filling.{fill_length, fill_block, fill_outside}
use Rattle.job.proofs.Jobs.{Inside, Complete, inside_bounds, stands_inside_lem, stands_complete_lem, inside_consistent, complete_consistent, Ready, ready, ready_accepted, step_stands}
use Rattle.turns.specs.Play.{State, accepts, step, run, writes}

-- ---- accepted, and refused

-- what an accepted step leaves
abbrev pub filled : State → ℕ → State
filled σ l =
    record {
      job = onward (moved σ.job l);
      memory = fill σ.job.params σ.job.pass σ.job.slice l (position σ.job l) σ.memory;
    }

pub accepted_step : (σ : State) (l : ℕ) → accepts σ l ≡ true → step σ l ≡ filled σ l
unfolding accepts step stepped
accepted_step σ l e =
    ap {B = State}
    (λ (t : Bool). record { job = cond t (filled σ l).job σ.job; memory = cond t (filled σ l).memory σ.memory }) e

pub refused_step : (σ : State) (l : ℕ) → accepts σ l ≡ false → step σ l ≡ σ
unfolding accepts step stepped
refused_step σ l e =
    ap {B = State}
    (λ (t : Bool). record { job = cond t (filled σ l).job σ.job; memory = cond t (filled σ l).memory σ.memory }) e

-- what holds in both cases holds after a step
pub after_step : (Q : State → Type 0) (σ : State) (l : ℕ) → (accepts σ l ≡ true → Q (filled σ l)) → (accepts σ l ≡ false → Q σ) → Q (step σ l)
after_step Q σ l f g = go (accepts σ l) refl
  where
    go : (t : Bool) → accepts σ l ≡ t → Q (step σ l)
    go true e = subst Q (sym (accepted_step σ l e)) (f e)
    go false e = subst Q (sym (refused_step σ l e)) (g e)

-- the facts of an accepted step
abbrev pub ReadyFor : State → ℕ → Type 0
ReadyFor σ l = Ready σ.job (length σ.memory) l

pub accepted_ready : (σ : State) (l : ℕ) → accepts σ l ≡ true → ReadyFor σ l
unfolding accepts stepped
accepted_ready σ l e =
    ready σ.job (length σ.memory) l (eqb-true (first (step_rows σ.job (length σ.memory) l)) 0 e)

pub ready_accepts : (σ : State) (l : ℕ) → ReadyFor σ l → accepts σ l ≡ true
unfolding accepts stepped
ready_accepts σ l h =
    eq-eqb (first (step_rows σ.job (length σ.memory) l)) 0 (ready_accepted σ.job (length σ.memory) l h)

-- ---- the parameters and the memory's length stay

pub onward_params : (j : Job) → (onward j).params ≡ j.params
unfolding onward next_slice
onward_params j = go (unfinished j)
  where
    go : (t : Bool) → (cond t j (next_slice j)).params ≡ j.params
    go true = refl
    go false = refl

pub step_params : (σ : State) (l : ℕ) → (step σ l).job.params ≡ σ.job.params
unfolding moved
step_params σ l =
    after_step (λ τ. τ.job.params ≡ σ.job.params) σ l (λ e. onward_params (moved σ.job l)) (λ e. refl)

pub run_params : (σ : State) (ls : List ℕ) → (run σ ls).job.params ≡ σ.job.params
run_params σ [] = refl
run_params σ (l ∷ ls) = run_params (step σ l) ls ∙ step_params σ l

pub filled_length : (σ : State) (l : ℕ) → ReadyFor σ l → length (filled σ l).memory ≡ length σ.memory
filled_length σ l h =
    fill_length σ.job.params (two (inside_bounds h.inside)) σ.job.pass σ.job.slice l (position σ.job l)
    h.inside.within h.lane h.under σ.memory h.fits

pub step_length : (σ : State) (l : ℕ) → length (step σ l).memory ≡ length σ.memory
step_length σ l =
    after_step (λ τ. length τ.memory ≡ length σ.memory) σ l (λ e. filled_length σ l (accepted_ready σ l e)) (λ e. refl)

pub run_length : (σ : State) (ls : List ℕ) → length (run σ ls).memory ≡ length σ.memory
run_length σ [] = refl
run_length σ (l ∷ ls) = run_length (step σ l) ls ∙ step_length σ l

-- ---- one block

pub record OneBlock (σ : State) (l : ℕ) : Type 0 where
  -- accepted, the words of the lane's next block are the stored block of the entry memory
  pub stored : accepts σ l ≡ true
      → block (writes σ l) (step σ l).memory ≡ stored_block σ.job.params σ.job.pass σ.job.slice l (position σ.job l) σ.memory
  -- every other word and the length are as they were
  pub others : (i : ℕ) → i / block_words ≢ writes σ l → get_or (step σ l).memory i 0 ≡ get_or σ.memory i 0
  pub as_long : length (step σ l).memory ≡ length σ.memory
  -- refused, nothing changes
  pub refused : accepts σ l ≡ false → step σ l ≡ σ

pub one_block : (σ : State) (l : ℕ) → OneBlock σ l
one_block σ l =
    record {
      stored = λ e.
          let h : ReadyFor σ l = accepted_ready σ l e in
          ap (λ (τ : State). block (writes σ l) τ.memory) (accepted_step σ l e)
          ∙ fill_block σ.job.params (two (inside_bounds h.inside)) σ.job.pass σ.job.slice l (position σ.job l)
          h.inside.within h.lane h.under σ.memory h.fits;
      others = λ i n.
          after_step (λ τ. get_or τ.memory i 0 ≡ get_or σ.memory i 0) σ l
          (λ e.
          let h : ReadyFor σ l = accepted_ready σ l e in
          fill_outside σ.job.params (two (inside_bounds h.inside)) σ.job.pass σ.job.slice l (position σ.job l)
          h.inside.within h.lane h.under σ.memory h.fits i n)
          (λ e. refl);
      as_long = step_length σ l;
      refused = refused_step σ l;
    }

-- ---- a consistent job stays consistent

abbrev pub StandsAt : Job → Type 0
StandsAt j = Inside j ⊎ Complete j

pub consistent_stands : (j : Job) → consistent j ≡ true → StandsAt j
consistent_stands j c = go (complete j) refl
  where
    go : (t : Bool) → complete j ≡ t → StandsAt j
    go true e = inr (stands_complete_lem j c e)
    go false e = inl (stands_inside_lem j c e)

pub stands_consistent : (j : Job) → StandsAt j → consistent j ≡ true
stands_consistent j (inl h) = inside_consistent j h
stands_consistent j (inr h) = complete_consistent j h

pub step_consistent : (σ : State) (l : ℕ) → consistent σ.job ≡ true → consistent (step σ l).job ≡ true
step_consistent σ l c =
    after_step (λ τ. consistent τ.job ≡ true) σ l
    (λ e.
    let h : ReadyFor σ l = accepted_ready σ l e in
    stands_consistent (onward (moved σ.job l)) (step_stands σ.job l h.inside h.lane h.under))
    (λ e. c)

pub run_consistent : (σ : State) (ls : List ℕ) → consistent σ.job ≡ true → consistent (run σ ls).job ≡ true
run_consistent σ [] c = c
run_consistent σ (l ∷ ls) c = run_consistent (step σ l) ls (step_consistent σ l c)

-- a consistent job on memory that is long enough
pub record Stands (σ : State) : Type 0 where
  pub job : StandsAt σ.job
  pub fits : block_words * blocks σ.job.params ≤ length σ.memory

pub run_stands : (σ : State) (ls : List ℕ) → Stands σ → Stands (run σ ls)
run_stands σ ls h =
    record {
      job = consistent_stands (run σ ls).job (run_consistent σ ls (stands_consistent σ.job h.job));
      fits =
          subst (λ (P : Params). block_words * blocks P ≤ length (run σ ls).memory) (sym (run_params σ ls))
          (omega (arith, h.fits, run_length σ ls));
    }
