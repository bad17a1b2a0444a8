-- Two outcomes that meet a promise are equal: results, jobs and every lent buffer. Assumes nothing.
use Rattle.std.specs.Prelude.{⊤, Result, Ok}
use Rattle.std.specs.Result.{result_unwrap_or}
use Prim.Native.Nat.{ℕ}
use mathlib.Core.List.{List}
use mathlib.Core.Path.{◌≡◌, sym, ap, ◌∙◌}
use Rattle.answer.specs.declared.Refusal.{Refusal}
use Rattle.answer.proofs.Numbers.{injective, same_answer}
use Rattle.params.specs.declared.Params.{Params}
use Rattle.argon2.specs.Promises.{StartPromise, StepPromise, FinishPromise, HashPromise, FillMemoryPromise}
use Rattle.job.specs.Jobs.{zero_job}
use Rattle.job.specs.declared.Job.{Job}

pub start_settled : {P : Params} {tag : ℕ} {password salt secret ad w : List ℕ} {r r' : Result Job Refusal} {v v' : List ℕ}
    → StartPromise P tag password salt secret ad w r v → StartPromise P tag password salt secret ad w r' v' → (r ≡ r') × (v ≡ v')
start_settled {r = r} {r' = r'} p p' =
    let job : (r r' : Result Job Refusal) → r ≡ r' → result_unwrap_or r zero_job ≡ result_unwrap_or r' zero_job = λ r r' e. ap (λ a. result_unwrap_or a zero_job) e in (
      same_answer r r' (p.answer ∙ sym p'.answer) (λ x y e e'. sym (job r (Ok x) e) ∙ p.job ∙ sym p'.job ∙ job r' (Ok y) e'),
      p.memory ∙ sym p'.memory,
    )

pub step_settled : {j : Job} {w : List ℕ} {l : ℕ} {r r' : Result ⊤ Refusal} {k k' : Job} {v v' : List ℕ}
    → StepPromise j w l r k v → StepPromise j w l r' k' v' → (r ≡ r') × (k ≡ k') × (v ≡ v')
step_settled p p' = (injective (p.answer ∙ sym p'.answer), p.job ∙ sym p'.job, p.memory ∙ sym p'.memory)

pub finish_settled : {j : Job} {w out : List ℕ} {r r' : Result ⊤ Refusal} {o o' : List ℕ}
    → FinishPromise j w out r o → FinishPromise j w out r' o' → (r ≡ r') × (o ≡ o')
finish_settled p p' = (injective (p.answer ∙ sym p'.answer), p.output ∙ sym p'.output)

pub hash_settled : {P : Params} {password salt secret ad w out : List ℕ} {r r' : Result ⊤ Refusal} {v v' o o' : List ℕ}
    → HashPromise P password salt secret ad w out r v o → HashPromise P password salt secret ad w out r' v' o' → (r ≡ r') × (v ≡ v') × (o ≡ o')
hash_settled p p' = (injective (p.answer ∙ sym p'.answer), p.memory ∙ sym p'.memory, p.output ∙ sym p'.output)

pub fill_memory_settled : {P : Params} {password salt secret ad w : List ℕ} {r r' : Result ⊤ Refusal} {v v' : List ℕ}
    → FillMemoryPromise P password salt secret ad w r v → FillMemoryPromise P password salt secret ad w r' v' → (r ≡ r') × (v ≡ v')
fill_memory_settled p p' = (injective (p.answer ∙ sym p'.answer), p.memory ∙ sym p'.memory)
