-- What each call answers and leaves: document 01, "Answers" and "The job". A refusal leaves every lent buffer unchanged.
use Rattle.std.specs.Prelude.{ℕ, List, [], length}
use Rattle.answer.specs.Answers.{first, if_accepted}
use Rattle.block.specs.Block.{block_words}
use Rattle.params.specs.Limits.{segment}
use Rattle.params.specs.declared.Params.{Params}
use Rattle.argon2.specs.Argon2.{filled}
use Rattle.filling.specs.Filling.{fill}
use Rattle.initial.specs.Initial.{initial_hash}
use Rattle.memory.specs.Start.{start_memory}
use Rattle.memory.specs.Tag.{tag_of}
use Rattle.job.specs.Jobs.{position, moved, onward, start_job, zero_job, step_rows, finish_rows}
use Rattle.checks.specs.Rows.{plain, start_rows, fill_rows}
use Rattle.job.specs.declared.Job.{Job}

-- an answer's number, the job handed back, and the memory after
pub record Outcome : Type 0 where
  pub answer : ℕ
  pub job : Job
  pub memory : List ℕ

-- start: blocks 0 and 1 of every lane, and the job before the first step; a refused start hands back a job of zeros
unfoldable pub started : Params → ℕ → List ℕ → List ℕ → List ℕ → List ℕ → List ℕ → Outcome
started P tag password salt secret ad w =
    let n = first (start_rows plain block_words P tag (length password) (length salt) (length secret) (length ad) (length w)) in
    record {
      answer = n;
      job = if_accepted n (start_job P tag) zero_job;
      memory = if_accepted n (start_memory (initial_hash P tag password salt secret ad) P.lanes (segment P) w) w;
    }

-- step: the named lane's next block; a refused step hands back the job it got
unfoldable pub stepped : Job → List ℕ → ℕ → Outcome
stepped j w l =
    let n = first (step_rows j (length w) l) in
    record {
      answer = n;
      job = if_accepted n (onward (moved j l)) j;
      memory = if_accepted n (fill j.params j.pass j.slice l (position j l) w) w;
    }

-- an answer's number, the memory and the output after
pub record Result : Type 0 where
  pub answer : ℕ
  pub memory : List ℕ
  pub output : List ℕ

-- finish writes only the output
unfoldable pub finished : Job → List ℕ → List ℕ → Result
finished j w out =
    let n = first (finish_rows j (length w) (length out)) in
    record {
      answer = n;
      memory = w;
      output = if_accepted n (tag_of j.params (length out) w) out;
    }

-- the whole hash: as start, steps to completion and finish do
unfoldable pub hashed : Params → List ℕ → List ℕ → List ℕ → List ℕ → List ℕ → List ℕ → Result
hashed P password salt secret ad w out =
    let n = first (start_rows plain block_words P (length out) (length password) (length salt) (length secret) (length ad) (length w)) in
    let end = filled P (length out) password salt secret ad w in
    record {
      answer = n;
      memory = if_accepted n end w;
      output = if_accepted n (tag_of P (length out) end) out;
    }

-- fill_memory: the memory that this filling gives when the initial hash is taken with tag length 0
unfoldable pub memory_filled : Params → List ℕ → List ℕ → List ℕ → List ℕ → List ℕ → Result
memory_filled P password salt secret ad w =
    let n = first (fill_rows plain block_words P (length password) (length salt) (length secret) (length ad) (length w)) in
    record { answer = n; memory = if_accepted n (filled P 0 password salt secret ad w) w; output = [] }
