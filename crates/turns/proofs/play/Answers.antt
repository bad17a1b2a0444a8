-- `turns::play` meets its contract: at each turn the lanes that are left lead from where it stands to the same end. Assumes nothing.
use Prim.Native.Nat.{ℕ, ◌+◌, ◌<◌}
use mathlib.Core.List.{List}
use mathlib.Core.Path.{◌≡◌, sym, ap, ◌∙◌}
use native.Mathlib.Numerals.{add-one}
use native.Mathlib.Omega.{arith}
use lib.ListN.{length, drop, get_or}
use lib.Seq.{drop-cons, drop-length}
use Rattle.std.proofs.Common.{rules}
use Rattle.std.specs.Prelude.{⊤, Result}
use Rattle.answer.specs.declared.Refusal.{Refusal}
use Rattle.argon2.specs.Promises.{StepPromise}
use Rattle.job.specs.declared.Job.{Job}
use Rattle.turns.specs.Play.{State, on, step, run}
use Rattle.turns.proofs.play.Goals as goal

-- the next lane's step
one_more : (j : Job) (w schedule : List ℕ) (i : ℕ) {l : ℕ} {r : Result ⊤ Refusal} {j' : Job} {w' : List ℕ} → i < length schedule → l ≡ get_or schedule i 0 → StepPromise j w l r j' w'
    → run (on j w) (drop i schedule) ≡ run (on j' w') (drop (i + 1) schedule)
unfolding step
one_more j w schedule i h is q =
    let p = rw is at q in
    ap (λ (ls : List ℕ). run (on j w) ls) (drop-cons schedule i 0 h)
    ∙ (λ k. run (on (sym p.job k) (sym p.memory k)) (drop (sym (add-one i) k) schedule))

pub loop-lane-preserved : goal.loop-lane-preserved
loop-lane-preserved c =
    let v = c.loop-lane in (
      c.step.auto.words ∙ v.invariant.0,
      v.invariant.1 ∙ one_more v.job v.words c.args.schedule.now v.lane-index c.loop-lane-test.true (search rules) c.step.ensures,
    )

pub returns : goal.returns
returns c =
    let a = c.args in
    let v = c.loop-lane in
    let done : v.lane-index ≡ length a.schedule.now = omega (arith, c.loop-lane-test.false) in
    let end : run (on a.job.now a.words.now) a.schedule.now ≡ on v.job v.words =
    v.invariant.1
    ∙ ap (λ (ls : List ℕ). run (on v.job v.words) ls) (ap (λ (n : ℕ). drop n a.schedule.now) done ∙ drop-length a.schedule.now) in
    record { job = sym (ap (λ (σ : State). σ.job) end); memory = sym (ap (λ (σ : State). σ.memory) end) }
