-- `job::Job::stands_complete` meets its contract: the lanes that the list has are those that the definition counts. Assumes nothing.
use Rattle.std.proofs.Common.{◌≤◌, sym, ◌∙◌, length, eqb, rules}
use Rattle.std.proofs.lemmas.Bool.Decides.{nat_tests}
use Rattle.job.proofs.Lanes.{first_all}
use Rattle.job.proofs.Job.stands_complete.Goals as goal

pub returns-then-self-eq0 : goal.returns-then-self-eq0
returns-then-self-eq0 c =
    let j = c.args.self in
    let there : j.params.lanes ≤ length j.positions = search rules in
    let zero = c.zero_from.ensures ∙ sym (first_all (λ block. eqb block 0) j.positions j.params.lanes there) in
    search (rules, nat_tests, zero)
