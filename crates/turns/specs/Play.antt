-- Steps of a list of lanes, each on the job that the one before it handed back: document 01, "The job". All of it is made from `started` and
-- `stepped`, which the promises of start and step name.
use Rattle.std.specs.Prelude.{ℕ, zero, suc, Bool, cond, List, [], ◌∷◌, ◌++◌, eqb}
use Rattle.params.specs.Limits.{segment}
use Rattle.params.specs.declared.Params.{Params}
use Rattle.address.specs.Address.{addressed}
use Rattle.position.specs.Position.{index}
use Rattle.argon2.specs.Calls.{started, stepped}
use Rattle.filling.specs.Filling.{current_index, reference_index}
use Rattle.job.specs.Jobs.{position}
use Rattle.job.specs.declared.Job.{Job}
use Rattle.turns.specs.Turns.{turns, accepted_of, accepted_all, noted}

-- a job and the memory lent
pub record State : Type 0 where
  pub job : Job
  pub memory : List ℕ

abbrev pub on : Job → List ℕ → State
on j w = record { job = j; memory = w }

-- what start leaves
unfoldable pub begun : Params → ℕ → List ℕ → List ℕ → List ℕ → List ℕ → List ℕ → State
begun P tag password salt secret ad w =
    let o = started P tag password salt secret ad w in
    record { job = o.job; memory = o.memory }

-- step's answer to lane l is 0
unfoldable pub accepts : State → ℕ → Bool
accepts σ l = eqb (stepped σ.job σ.memory l).answer 0

-- what a step of lane l leaves
unfoldable pub step : State → ℕ → State
step σ l =
    let o = stepped σ.job σ.memory l in
    record { job = o.job; memory = o.memory }

-- what steps of these lanes leave, refusals passed over
abbrev pub run : State → List ℕ → State
run σ ls = turns State step σ ls

-- how many of them are accepted: of lane l, and in all
abbrev pub accepted : ℕ → State → List ℕ → ℕ
accepted l σ ls = accepted_of State step accepts l σ ls

abbrev pub accepted_steps : State → List ℕ → ℕ
accepted_steps σ ls = accepted_all State step accepts σ ls

-- the number in memory of the block that lane l's step fills, and of the one that it refers to
abbrev pub writes : State → ℕ → ℕ
writes σ l = current_index σ.job.params σ.job.slice l (position σ.job l)

abbrev pub refers : State → ℕ → ℕ
refers σ l = reference_index σ.job.params σ.job.pass σ.job.slice l (position σ.job l) σ.memory

-- blocks 0 and 1 of the first n lanes
abbrev pub start_writes : ℕ → ℕ → List ℕ
start_writes zero s = []
start_writes (suc n) s = index s n 0 ∷ index s n 1 ∷ start_writes n s

-- the blocks written by the accepted steps, in order
abbrev pub step_writes : State → List ℕ → List ℕ
step_writes σ ls = noted State step accepts writes σ ls

-- the blocks written by start, which left σ, and then by the accepted steps
abbrev pub written : State → List ℕ → List ℕ
written σ ls = start_writes σ.job.params.lanes (segment σ.job.params) ++ step_writes σ ls

-- what an accepted step fills, and the block that it refers to
pub record Filled : Type 0 where
  pub pass : ℕ
  pub slice : ℕ
  pub lane : ℕ
  pub block : ℕ
  pub refers : ℕ

unfoldable pub filling : State → ℕ → Filled
filling σ l = record { pass = σ.job.pass; slice = σ.job.slice; lane = l; block = position σ.job l; refers = refers σ l }

-- those of the accepted steps, in order
abbrev pub trace : State → List ℕ → List Filled
trace σ ls = noted State step accepts filling σ ls

-- those of them in addressed segments
abbrev pub addressed_only : Params → List Filled → List Filled
addressed_only P [] = []
addressed_only P (f ∷ fs) = cond (addressed P f.pass f.slice) (f ∷ addressed_only P fs) (addressed_only P fs)
