-- `job::Job::start` meets its contract: accepted numbers have few lanes and some pass. Assumes nothing.
use Rattle.std.proofs.Common.{◌≡◌, ℕ, List, ◌-◌, ◌++◌, ◌∙◌, sym, ap, arith, replicate}
use Rattle.answer.specs.Answers.{first}
use Rattle.answer.proofs.Answered.{left_new}
use Rattle.params.specs.Limits.{rows, max_lanes}
use Rattle.params.proofs.Within.{params_within}
use Rattle.job.specs.Jobs.{onward, start_job, zero_job}
use Rattle.job.proofs.Job.start.Goals as goal

pub onward-requires : goal.onward-requires
onward-requires c =
    let w = params_within c.args.params (sym c.in-Ok.ensures.answer) in
    (w.few_lanes, omega arith, omega (arith, w.some_passes))

pub returns : goal.returns
unfolding start_job
returns c =
    let a = c.args in
    let accepted : first (rows a.params) ≡ 0 = sym c.in-Ok.ensures.answer in
    let p = a.params.lanes in
    let at : c.positions_at.result ≡ _ =
    c.positions_at.ensures ∙ ap (λ (b : ℕ). replicate p b ++ replicate (max_lanes - p) 0) c.first_block.ensures.result in
    let begun : c.onward.result ≡ start_job a.params a.tag =
    c.onward.ensures
    ∙ ap (λ (l : List ℕ). onward (record { params = a.params; tag = a.tag; pass = 0; slice = 0; positions = l })) at in
    record { result = begun ∙ sym (left_new (first (rows a.params)) (start_job a.params a.tag) zero_job accepted) }
