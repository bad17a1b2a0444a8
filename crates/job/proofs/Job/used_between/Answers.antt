-- `job::Job::used_between` meets its contract: the lanes that the list has are those that the definition counts. Assumes nothing.
use Rattle.std.proofs.Common.{◌≤◌, sym, ◌∙◌, length, leb, ◌&&◌, rules}
use Rattle.job.proofs.Lanes.{first_all}
use Rattle.job.proofs.Job.used_between.Goals as goal

pub returns : goal.returns
returns c =
    let a = c.args in
    let j = a.self in
    let there : j.params.lanes ≤ length j.positions = search rules in
    c.all_between.ensures ∙ sym (first_all (λ block. leb a.low block && leb block a.high) j.positions j.params.lanes there)
