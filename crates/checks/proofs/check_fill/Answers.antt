-- `checks::check_fill` meets its contract: rows 13 to 16 come after rows 1 to 10. Assumes nothing.
use Rattle.std.proofs.Common.{◌++◌}
use Rattle.answer.proofs.Answered.{handed_on, part_refused, part_passed}
use Rattle.params.specs.Limits.{rows_from}
use Rattle.checks.specs.Rows.{extra_rows, input_rows}
use Rattle.checks.proofs.check_fill.Goals as goal

pub returns-in_err-check_numbers : goal.returns-in_err-check_numbers
returns-in_err-check_numbers c =
    let a = c.args in
    let l = a.lengths in
    let numbers = rows_from a.rule.oldest a.params ++ extra_rows l.secret l.ad in
    let input = input_rows a.rule.salt a.unit a.params l.password l.salt a.lent in
    record { answer = handed_on _ _ c.from_residual.ensures.1 (part_refused _ numbers input c.in_err-check_numbers.ensures) }

pub returns : goal.returns
returns c =
    let a = c.args in
    let l = a.lengths in
    let numbers = rows_from a.rule.oldest a.params ++ extra_rows l.secret l.ad in
    let input = input_rows a.rule.salt a.unit a.params l.password l.salt a.lent in
    record { answer = part_passed numbers input tt c.in_ok-check_numbers.ensures c.check_inputs.ensures }
