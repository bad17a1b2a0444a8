-- What the public function of this crate promises.
use Rattle.std.specs.Prelude.{List, ◌≡◌, ℕ}
use Rattle.job.specs.declared.Job.{Job}
use Rattle.turns.specs.Play.{on, run}

pub record PlayPromise (j : Job) (w schedule : List ℕ) (r : Job) (w' : List ℕ) : Type 0 where
  pub job : r ≡ (run (on j w) schedule).job
  pub memory : w' ≡ (run (on j w) schedule).memory
