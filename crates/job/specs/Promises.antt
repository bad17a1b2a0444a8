-- What the public functions of this crate promise.
use Rattle.std.specs.Prelude.{ℕ, Bool, true, ◌≡◌, ◌≤◌, ⊤, Result}
use Rattle.std.specs.Result.{result_unwrap_or}
use Rattle.answer.specs.Answers.{number, first, if_accepted}
use Rattle.answer.specs.declared.Refusal.{Refusal}
use Rattle.word.specs.Word.{max_length}
use Rattle.params.specs.Limits.{rows}
use Rattle.params.specs.declared.Params.{Params}
use Rattle.job.specs.Jobs.{position, consistent, moved, onward, start_job, zero_job, step_rows, finish_rows}
use Rattle.job.specs.declared.Job.{Job}

pub record ZerosPromise (r : Job) : Type 0 where
  pub result : r ≡ zero_job

pub record JobStartPromise (P : Params) (tag : ℕ) (r : Job) : Type 0 where
  pub result : r ≡ if_accepted (first (rows P)) (start_job P tag) zero_job

-- the tag of a consistent job is one that 4 bytes count
pub record ConsistentPromise (j : Job) (r : Bool) : Type 0 where
  pub result : r ≡ consistent j
  pub fits : r ≡ true → j.tag ≤ max_length

pub record PositionPromise (j : Job) (l r : ℕ) : Type 0 where
  pub result : r ≡ position j l

pub record CheckStepPromise (j : Job) (words l : ℕ) (r : Result ⊤ Refusal) : Type 0 where
  pub answer : number r ≡ first (step_rows j words l)

-- and so is that of an accepted output
pub record CheckFinishPromise (j : Job) (words out : ℕ) (r : Result ⊤ Refusal) : Type 0 where
  pub answer : number r ≡ first (finish_rows j words out)
  pub fits : number r ≡ 0 → out ≤ max_length

-- a refused step leaves the job that it got
pub record AfterPromise (j : Job) (words l : ℕ) (r : Result Job Refusal) : Type 0 where
  pub answer : number r ≡ first (step_rows j words l)
  pub job : result_unwrap_or r j ≡ if_accepted (first (step_rows j words l)) (onward (moved j l)) j
