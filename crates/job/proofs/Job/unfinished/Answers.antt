-- `job::Job::unfinished` meets its contract: the lanes that the list has are those that the definition counts. Assumes nothing.
use Rattle.std.proofs.Common.{◌≤◌, sym, ◌∙◌, ap, length, take, ltb, rules}
use Rattle.std.specs.List.{list_any}
use Rattle.job.proofs.Lanes.{first_any}
use Rattle.job.proofs.Job.unfinished.Goals as goal

pub returns : goal.returns
returns c =
    let j = c.args.self in
    let there : j.params.lanes ≤ length j.positions = search rules in
    c.some_under.ensures
    ∙ ap (λ s. list_any (λ block. ltb block s) (take j.params.lanes j.positions)) c.segment_length-end.ensures.result
    ∙ sym (first_any (λ block. ltb block _) j.positions j.params.lanes there)
