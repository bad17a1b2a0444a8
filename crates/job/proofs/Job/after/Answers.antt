-- `job::Job::after` meets its contract: where the step is accepted the rows say that its lane can move. Assumes nothing.
use Rattle.std.proofs.Common.{sym, ap, ◌∙◌, arith}
use Rattle.answer.specs.Answers.{first}
use Rattle.answer.proofs.Answered.{left_new}
use Rattle.job.specs.Jobs.{moved, onward, step_rows}
use Rattle.job.proofs.Jobs.{inside_bounds, ready}
use Rattle.job.proofs.Job.after.Goals as goal

pub moved-requires : goal.moved-requires
moved-requires c =
    let a = c.args in
    let r = ready a.self a.words a.lane.0 (sym c.in_ok-check_step.ensures.answer) in
    (omega (arith, (inside_bounds r.inside).few_lanes, r.lane), r.under)

pub onward-requires : goal.onward-requires
unfolding moved
onward-requires c =
    let a = c.args in
    let r = ready a.self a.words a.lane.0 (sym c.in_ok-check_step.ensures.answer) in
    rw c.moved.ensures ((inside_bounds r.inside).few_lanes, r.inside.within, r.inside.below)

pub returns : goal.returns
returns c =
    let a = c.args in
    let accepted = sym c.in_ok-check_step.ensures.answer in
    record {
      answer = c.in_ok-check_step.ensures.answer;
      job =
          c.onward.ensures ∙ ap onward c.moved.ensures
          ∙ sym (left_new (first (step_rows a.self a.words a.lane.0)) (onward (moved a.self a.lane.0)) a.self accepted);
    }
