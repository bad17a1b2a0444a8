-- What the public functions of this crate promise.
use Rattle.std.specs.Prelude.{ℕ, List, ◌≡◌, ⊤, Result}
use Rattle.std.specs.Result.{result_unwrap_or}
use Rattle.answer.specs.Answers.{number}
use Rattle.answer.specs.declared.Refusal.{Refusal}
use Rattle.params.specs.declared.Params.{Params}
use Rattle.argon2.specs.Calls.{started, stepped, finished, hashed, memory_filled}
use Rattle.job.specs.Jobs.{zero_job}
use Rattle.job.specs.declared.Job.{Job}

-- the job of zeros stands for the job that a refusal does not give
pub record StartPromise (P : Params) (tag : ℕ) (password salt secret ad w : List ℕ) (r : Result Job Refusal) (w' : List ℕ) : Type 0 where
  pub answer : number r ≡ (started P tag password salt secret ad w).answer
  pub job : result_unwrap_or r zero_job ≡ (started P tag password salt secret ad w).job
  pub memory : w' ≡ (started P tag password salt secret ad w).memory

pub record StepPromise (j : Job) (w : List ℕ) (l : ℕ) (r : Result ⊤ Refusal) (j' : Job) (w' : List ℕ) : Type 0 where
  pub answer : number r ≡ (stepped j w l).answer
  pub job : j' ≡ (stepped j w l).job
  pub memory : w' ≡ (stepped j w l).memory

pub record FinishPromise (j : Job) (w out : List ℕ) (r : Result ⊤ Refusal) (out' : List ℕ) : Type 0 where
  pub answer : number r ≡ (finished j w out).answer
  pub output : out' ≡ (finished j w out).output

pub record HashPromise (P : Params) (password salt secret ad w out : List ℕ) (r : Result ⊤ Refusal) (w' out' : List ℕ) : Type 0 where
  pub answer : number r ≡ (hashed P password salt secret ad w out).answer
  pub memory : w' ≡ (hashed P password salt secret ad w out).memory
  pub output : out' ≡ (hashed P password salt secret ad w out).output

pub record FillMemoryPromise (P : Params) (password salt secret ad w : List ℕ) (r : Result ⊤ Refusal) (w' : List ℕ) : Type 0 where
  pub answer : number r ≡ (memory_filled P password salt secret ad w).answer
  pub memory : w' ≡ (memory_filled P password salt secret ad w).memory
