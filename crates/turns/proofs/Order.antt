-- The order of steps: two lanes that are both accepted do not disturb each other, so any two lists of lanes with equally many accepted steps
-- for each lane end with the same job and the same memory. Any job, any memory. Assumes nothing.
use mathlib.Core.Path.{◌≡◌, sym, ap, ◌∙◌, subst}
use mathlib.Core.Logic.{◌≢◌}
use mathlib.Core.Bool.{true}
use mathlib.Core.List.{List}
use Prim.Native.Nat.{ℕ}
use native.Mathlib.Omega.{arith}
use Rattle.params.proofs.Within.{two}
use Rattle.filling.specs.Filling.{fill}
use Rattle.job.specs.Jobs.{position, moved, onward}
use Rattle.job.specs.declared.Job.{Job}
use Rattle.filling.proofs.Commute.{fill_comm}
use Rattle.job.proofs.Jobs.{Bounds, inside_bounds, unfinished_by, moved_other, moved_stays, moved_comm, onward_unfinished}
use Rattle.turns.specs.Play.{State, accepts, step, run, accepted}
use Rattle.turns.proofs.Confluence.{order_free}
use Rattle.turns.proofs.Steps.{filled, accepted_step, refused_step, ReadyFor, accepted_ready, ready_accepts, filled_length}

module _ (σ : State) (a b : ℕ) (n : a ≢ b) (ra : ReadyFor σ a) (rb : ReadyFor σ b) where
  still : position (moved σ.job a) b ≡ position σ.job b
  still = moved_other σ.job a b (λ e. n (sym e))

  -- the state after a, where b has not finished the slice
  abbrev one : State
  one = record { job = moved σ.job a; memory = (filled σ a).memory }

  filled_one : filled σ a ≡ one
  unfolding moved
  filled_one =
      ap {B = State} (λ (j : Job). record { job = j; memory = (filled σ a).memory })
      (onward_unfinished (moved σ.job a) (unfinished_by (moved σ.job a) b rb.lane (omega (arith, rb.under, still))))

  ready_one : ReadyFor one b
  unfolding moved
  ready_one =
      record {
        inside = moved_stays σ.job a ra.inside ra.lane ra.under b rb.lane (omega (arith, rb.under, still));
        fits = omega (arith, ra.fits, filled_length σ a ra);
        lane = rb.lane;
        under = omega (arith, rb.under, still);
      }

  -- after both
  filled_two : filled (filled σ a) b
      ≡ record {
        job = onward (moved (moved σ.job a) b);
        memory = fill σ.job.params σ.job.pass σ.job.slice b (position σ.job b) (filled σ a).memory;
      }
  unfolding moved
  filled_two =
      ap (λ (τ : State). filled τ b) filled_one
      ∙ ap {B = State}
      (λ (k : ℕ).
      record {
        job = onward (moved (moved σ.job a) b);
        memory = fill σ.job.params σ.job.pass σ.job.slice b k (filled σ a).memory;
      })
      still

  still_accepts : accepts (filled σ a) b ≡ true
  still_accepts = subst (λ (τ : State). accepts τ b ≡ true) (sym filled_one) (ready_accepts one b ready_one)

step_two : (σ : State) (a b : ℕ) → a ≢ b → accepts σ a ≡ true → accepts σ b ≡ true → step (step σ a) b ≡ filled (filled σ a) b
step_two σ a b n p q =
    ap (λ (τ : State). step τ b) (accepted_step σ a p)
    ∙ accepted_step (filled σ a) b (still_accepts σ a b n (accepted_ready σ a p) (accepted_ready σ b q))

-- two lanes that are both accepted: each still is after the other, and both orders leave the same
pub diamond : (σ : State) (a b : ℕ) → a ≢ b → accepts σ a ≡ true → accepts σ b ≡ true
    → (accepts (step σ a) b ≡ true) × (step (step σ a) b ≡ step (step σ b) a)
diamond σ a b n p q =
    let ra : ReadyFor σ a = accepted_ready σ a p in
    let rb : ReadyFor σ b = accepted_ready σ b q in
    let n' : b ≢ a = λ e. n (sym e) in
    let z : Bounds σ.job.params = inside_bounds ra.inside in
    let m : fill σ.job.params σ.job.pass σ.job.slice b (position σ.job b) (filled σ a).memory
    ≡ fill σ.job.params σ.job.pass σ.job.slice a (position σ.job a) (filled σ b).memory =
    fill_comm σ.job.params z.some_lanes (two z) σ.job.pass σ.job.slice ra.inside.within
    a (position σ.job a) b (position σ.job b) ra.lane rb.lane ra.under rb.under
    (ra.inside.low a ra.lane) (rb.inside.low b rb.lane) n σ.memory ra.fits in (
      subst (λ (τ : State). accepts τ b ≡ true) (sym (accepted_step σ a p)) (still_accepts σ a b n ra rb),
      step_two σ a b n p q
          ∙ filled_two σ a b n ra rb
          ∙ (λ i. record { job = onward (moved_comm σ.job a b n i); memory = m i })
          ∙ sym (filled_two σ b a n' rb ra)
          ∙ sym (step_two σ b a n' q p),
    )

-- equally many accepted steps for each lane, the same job and memory
pub any_order : (σ : State) (ls ms : List ℕ) → ((l : ℕ) → accepted l σ ls ≡ accepted l σ ms) → run σ ls ≡ run σ ms
any_order σ ls ms h = order_free State step accepts refused_step diamond σ ls ms h
