-- In addressed segments the block that a step refers to is a function of memory cost, passes, lanes, algorithm, pass, slice, lane and block
-- alone: whatever the memories hold, and whatever else the jobs say. So runs of the same lanes that differ in password, salt, secret or data
-- refer to the same blocks there. Assumes nothing.
use mathlib.Core.Path.{◌≡◌, refl, sym, ap, ◌∙◌, subst}
use mathlib.Core.Bool.{Bool, true, false, cond, not}
use mathlib.Core.List.{List, [], ◌∷◌}
use Prim.Native.Nat.{ℕ, ◌*◌, ◌≤◌}
use native.Mathlib.Omega.{arith}
use lib.Dec.{eqb, leb}
use lib.ListN.{length, get_or}
use borrow.Author.Tests.{le-ltb}
use Rattle.answer.specs.Answers.{first}
use Rattle.block.specs.Block.{block_words}
use Rattle.params.specs.Limits.{segment, blocks}
use Rattle.params.specs.declared.Params.{Params}
use Rattle.address.specs.Address.{addressed, random_word}
use Rattle.position.specs.Position.{reference}
use Rattle.address.proofs.AddressFree.{Alike}
use Rattle.address.proofs.AddressFree.{address_free as reference-address-free}
use Rattle.filling.specs.Filling.{previous_index}
use Rattle.argon2.specs.Calls.{stepped}
use Rattle.job.specs.Jobs.{position, complete, consistent, moved, onward, step_rows}
use Rattle.memory.specs.Memory.{block}
use Rattle.job.specs.declared.Job.{Job}
use Rattle.turns.specs.Play.{State, accepts, step, refers, filling, trace, addressed_only, Filled}
use Rattle.turns.proofs.Started.{answered, before, started_job, started_params, started_stands}
use Rattle.turns.proofs.Steps.{step_params, step_length}

-- two states at the same place of fillings with the same costs and algorithm
pub record SamePlace (σ τ : State) (l : ℕ) : Type 0 where
  pub numbers : Alike σ.job.params τ.job.params
  pub pass : σ.job.pass ≡ τ.job.pass
  pub slice : σ.job.slice ≡ τ.job.slice
  pub block : position σ.job l ≡ position τ.job l

pub address_free : (σ τ : State) (l : ℕ) → SamePlace σ τ l → addressed σ.job.params σ.job.pass σ.job.slice ≡ true → refers σ l ≡ refers τ l
address_free σ τ l h e =
    reference-address-free h.numbers σ.job.pass σ.job.slice l (position σ.job l) e
    (get_or (block (previous_index σ.job.params σ.job.slice l (position σ.job l)) σ.memory) 0 0)
    (get_or (block (previous_index τ.job.params τ.job.slice l (position τ.job l)) τ.memory) 0 0)
    ∙ (λ i.
    reference τ.job.params.lanes (segment τ.job.params) (h.pass i) (h.slice i) l (h.block i)
    (random_word τ.job.params (h.pass i) (h.slice i) l (h.block i)
    (get_or (block (previous_index τ.job.params τ.job.slice l (position τ.job l)) τ.memory) 0 0)))

-- ---- runs

-- a step's answer depends on the job and the lane, where the memory is long enough
same_answer : (j : Job) (m n l : ℕ) → block_words * blocks j.params ≤ m → block_words * blocks j.params ≤ n
    → first (step_rows j m l) ≡ first (step_rows j n l)
same_answer j m n l hm hn =
    ap
    (λ (t : Bool).
    cond (not (consistent j)) 17
    (cond t 16 (cond (complete j) 18 (cond (leb j.params.lanes l) 19 (cond (eqb (position j l) (segment j.params)) 20 0)))))
    (le-ltb m (block_words * blocks j.params) hm ∙ sym (le-ltb n (block_words * blocks j.params) hn))

module _ (σ : State) (w : List ℕ) (l : ℕ) (left : block_words * blocks σ.job.params ≤ length σ.memory) (right : block_words * blocks σ.job.params ≤ length w) where
  abbrev other : State
  other = record { job = σ.job; memory = w }

  same : first (step_rows σ.job (length σ.memory) l) ≡ first (step_rows σ.job (length w) l)
  same = same_answer σ.job (length σ.memory) (length w) l left right

  same_accepts : accepts σ l ≡ accepts other l
  unfolding accepts stepped
  same_accepts = ap (λ (n : ℕ). eqb n 0) same

  same_job : (step σ l).job ≡ (step other l).job
  unfolding step stepped
  same_job = ap (λ (n : ℕ). cond (eqb n 0) (onward (moved σ.job l)) σ.job) same

  -- both fill the same, and where it is addressed refer to the same
  same_filling : (P : Params) → σ.job.params ≡ P → (fs gs : List Filled) → addressed_only P fs ≡ addressed_only P gs
      → addressed_only P (filling σ l ∷ fs) ≡ addressed_only P (filling other l ∷ gs)
  unfolding filling
  same_filling P e fs gs q = go (addressed P σ.job.pass σ.job.slice) refl
    where
      go : (t : Bool) → addressed P σ.job.pass σ.job.slice ≡ t
          → cond t (filling σ l ∷ addressed_only P fs) (addressed_only P fs) ≡ cond t (filling other l ∷ addressed_only P gs) (addressed_only P gs)
      go false t = q
      go true t =
          let one : refers σ l ≡ refers other l =
          address_free σ other l
          (record { numbers = record { lanes = refl; memory = refl; passes = refl; algorithm = refl }; pass = refl; slice = refl; block = refl })
          (subst (λ (Q : Params). addressed Q σ.job.pass σ.job.slice ≡ true) (sym e) t) in
          (λ i. record { pass = σ.job.pass; slice = σ.job.slice; lane = l; block = position σ.job l; refers = one i } ∷ q i)

same_trace : (P : Params) (ls : List ℕ) (σ τ : State) → σ.job ≡ τ.job → σ.job.params ≡ P
    → block_words * blocks P ≤ length σ.memory → block_words * blocks P ≤ length τ.memory
    → addressed_only P (trace σ ls) ≡ addressed_only P (trace τ ls)
same_trace P [] σ τ p e left right = refl
same_trace P (l ∷ ls) σ τ p e left right =
    subst (λ (j : Job). addressed_only P (trace σ (l ∷ ls)) ≡ addressed_only P (trace (record { job = j; memory = τ.memory }) (l ∷ ls))) p
    (go (accepts σ l) refl (λ q.
    same_trace P ls (step σ l) (step (record { job = σ.job; memory = τ.memory }) l) q (step_params σ l ∙ e)
    (omega (arith, left, step_length σ l)) (omega (arith, right, step_length (record { job = σ.job; memory = τ.memory }) l))))
  where
    back : (X : Params → Type 0) → X P → X σ.job.params
    back X x = subst X (sym e) x

    left' : block_words * blocks σ.job.params ≤ length σ.memory
    left' = back (λ Q. block_words * blocks Q ≤ length σ.memory) left

    right' : block_words * blocks σ.job.params ≤ length τ.memory
    right' = back (λ Q. block_words * blocks Q ≤ length τ.memory) right

    o : State
    o = record { job = σ.job; memory = τ.memory }

    go : (t : Bool) → accepts σ l ≡ t → ((step σ l).job ≡ (step o l).job → addressed_only P (trace (step σ l) ls) ≡ addressed_only P (trace (step o l) ls))
        → addressed_only P (cond (accepts σ l) (filling σ l ∷ trace (step σ l) ls) (trace (step σ l) ls))
        ≡ addressed_only P (cond (accepts o l) (filling o l ∷ trace (step o l) ls) (trace (step o l) ls))
    go t a ih =
        ap (λ (b : Bool). addressed_only P (cond b (filling σ l ∷ trace (step σ l) ls) (trace (step σ l) ls))) a
        ∙ by t (ih (same_job σ τ.memory l left' right'))
        ∙ ap (λ (b : Bool). addressed_only P (cond b (filling o l ∷ trace (step o l) ls) (trace (step o l) ls))) (sym a ∙ same_accepts σ τ.memory l left' right')
      where
        by : (t : Bool) → addressed_only P (trace (step σ l) ls) ≡ addressed_only P (trace (step o l) ls)
            → addressed_only P (cond t (filling σ l ∷ trace (step σ l) ls) (trace (step σ l) ls))
            ≡ addressed_only P (cond t (filling o l ∷ trace (step o l) ls) (trace (step o l) ls))
        by true q = same_filling σ τ.memory l left' right' P e (trace (step σ l) ls) (trace (step o l) ls) q
        by false q = q

-- two accepted starts with the same parameters and tag length, and the same lanes: the same references in addressed segments
pub trace_free : (P : Params) (tag : ℕ) (password salt secret ad v password' salt' secret' ad' w : List ℕ)
    → answered P tag password salt secret ad v ≡ 0 → answered P tag password' salt' secret' ad' w ≡ 0
    → (ls : List ℕ)
    → addressed_only P (trace (before P tag password salt secret ad v) ls) ≡ addressed_only P (trace (before P tag password' salt' secret' ad' w) ls)
trace_free P tag password salt secret ad v password' salt' secret' ad' w ov ow ls =
    same_trace P ls (before P tag password salt secret ad v) (before P tag password' salt' secret' ad' w)
    (started_job P tag password salt secret ad v ov ∙ sym (started_job P tag password' salt' secret' ad' w ow))
    (started_params P tag password salt secret ad v ov)
    (subst (λ (Q : Params). block_words * blocks Q ≤ length (before P tag password salt secret ad v).memory)
    (started_params P tag password salt secret ad v ov) (started_stands P tag password salt secret ad v ov).fits)
    (subst (λ (Q : Params). block_words * blocks Q ≤ length (before P tag password' salt' secret' ad' w).memory)
    (started_params P tag password' salt' secret' ad' w ow) (started_stands P tag password' salt' secret' ad' w ow).fits)
