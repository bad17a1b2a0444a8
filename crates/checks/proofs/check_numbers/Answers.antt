-- `checks::check_numbers` meets its contract: rows 9 and 10 come after rows 1 to 8. Assumes nothing.
use Rattle.answer.proofs.Answered.{handed_on, part_refused, part_passed}
use Rattle.params.specs.Limits.{rows_from}
use Rattle.checks.specs.Rows.{extra_rows}
use Rattle.checks.proofs.check_numbers.Goals as goal

pub returns-in_err-check_from : goal.returns-in_err-check_from
returns-in_err-check_from c =
    let a = c.args in
    let extra = extra_rows a.lengths.secret a.lengths.ad in
    handed_on _ _ c.from_residual.ensures.1 (part_refused _ (rows_from a.rule.oldest a.params) extra c.in_err-check_from.ensures.answer)

pub returns : goal.returns
returns c =
    let a = c.args in
    let extra = extra_rows a.lengths.secret a.lengths.ad in
    part_passed (rows_from a.rule.oldest a.params) extra tt c.in_ok-check_from.ensures.answer c.check_extra.ensures
