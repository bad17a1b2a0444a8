-- Two outcomes that meet a promise are equal. Assumes nothing.
use Prim.Native.Nat.{ℕ}
use mathlib.Core.Bool.{Bool}
use mathlib.Core.Path.{◌≡◌, sym, ap, ◌∙◌}
use Rattle.std.specs.Prelude.{⊤, Result}
use Rattle.std.specs.Result.{result_unwrap_or}
use Rattle.answer.specs.declared.Refusal.{Refusal}
use Rattle.answer.proofs.Numbers.{injective, same_answer}
use Rattle.params.specs.declared.Params.{Params}
use Rattle.job.specs.Promises.{ZerosPromise, JobStartPromise, ConsistentPromise, PositionPromise, CheckStepPromise, CheckFinishPromise, AfterPromise}
use Rattle.job.specs.declared.Job.{Job}

pub zeros_settled : {r r' : Job} → ZerosPromise r → ZerosPromise r' → r ≡ r'
zeros_settled p p' = p.result ∙ sym p'.result

pub job_start_settled : {P : Params} {tag : ℕ} {r r' : Job} → JobStartPromise P tag r → JobStartPromise P tag r' → r ≡ r'
job_start_settled p p' = p.result ∙ sym p'.result

pub consistent_settled : {j : Job} {r r' : Bool} → ConsistentPromise j r → ConsistentPromise j r' → r ≡ r'
consistent_settled p p' = p.result ∙ sym p'.result

pub position_settled : {j : Job} {l r r' : ℕ} → PositionPromise j l r → PositionPromise j l r' → r ≡ r'
position_settled p p' = p.result ∙ sym p'.result

pub check_step_settled : {j : Job} {words l : ℕ} {r r' : Result ⊤ Refusal} → CheckStepPromise j words l r → CheckStepPromise j words l r' → r ≡ r'
check_step_settled p p' = injective (p.answer ∙ sym p'.answer)

pub check_finish_settled : {j : Job} {words out : ℕ} {r r' : Result ⊤ Refusal} → CheckFinishPromise j words out r → CheckFinishPromise j words out r' → r ≡ r'
check_finish_settled p p' = injective (p.answer ∙ sym p'.answer)

pub after_settled : {j : Job} {words l : ℕ} {r r' : Result Job Refusal} → AfterPromise j words l r → AfterPromise j words l r' → r ≡ r'
after_settled {j} {r = r} {r' = r'} p p' =
    same_answer r r' (p.answer ∙ sym p'.answer)
    (λ x y e e'. ap (λ a. result_unwrap_or a j) (sym e) ∙ p.job ∙ sym p'.job ∙ ap (λ a. result_unwrap_or a j) e')
