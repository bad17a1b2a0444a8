-- `job::Job::laid_out` meets its contract: the array has a position for each lane. Assumes nothing.
use Rattle.std.proofs.Common.{◌≡◌, ℕ, Bool, ◌&&◌, ◌||◌, sym, ap, ◌∙◌, length, eqb, ltb, rules}
use borrow.Author.Tests.{eq-eqb}
use Rattle.params.specs.Limits.{max_lanes}
use Rattle.job.specs.Jobs.{all, position}
use Rattle.job.proofs.Lanes.{idle_all}
use Rattle.job.proofs.Job.laid_out.Goals as goal

pub returns : goal.returns
returns c =
    let j = c.args.self in
    let idle : ℕ → Bool = λ l. ltb l j.params.lanes || eqb (position j l) 0 in
    let places : length j.positions ≡ max_lanes = search rules in
    c.zero_from.ensures
    ∙ sym (idle_all (λ block. eqb block 0) j.positions j.params.lanes)
    ∙ ap (λ n. all n idle) places
    ∙ sym (ap (λ t. t && all max_lanes idle) (eq-eqb (length j.positions) max_lanes places))
