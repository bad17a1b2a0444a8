-- `checks::check_start` meets its contract: rows 11 and 12 come after rows 1 to 10, and rows 13 to 16 after them. Assumes nothing.
use Rattle.std.proofs.Common.{◌++◌, refl}
use Rattle.answer.proofs.Answered.{handed_on, not_accepted, part_refused, part_passed}
use Rattle.params.specs.Limits.{rows_from}
use Rattle.checks.specs.Rows.{extra_rows, output_rows, input_rows}
use Rattle.checks.proofs.check_start.Goals as goal

pub returns-in_err-check_numbers : goal.returns-in_err-check_numbers
returns-in_err-check_numbers c =
    let a = c.args in
    let l = a.lengths in
    let numbers = rows_from a.rule.oldest a.params ++ extra_rows l.secret l.ad in
    let output = output_rows a.params.configured a.tag in
    let input = input_rows a.rule.salt a.unit a.params l.password l.salt a.lent in
    record {
      answer = handed_on _ _ c.from_residual.ensures.1 (part_refused _ numbers (output ++ input) c.in_err-check_numbers.ensures);
      fits = λ z. absurd (not_accepted _ _ c.from_residual.ensures.1 z);
    }

pub returns-in_err-check_output : goal.returns-in_err-check_output
returns-in_err-check_output c =
    let a = c.args in
    let l = a.lengths in
    let numbers = rows_from a.rule.oldest a.params ++ extra_rows l.secret l.ad in
    let output = output_rows a.params.configured a.tag in
    let input = input_rows a.rule.salt a.unit a.params l.password l.salt a.lent in
    let residual = c.from_residual-in_err-check_output.ensures.1 in
    record {
      answer =
          handed_on _ _ residual
          (part_passed numbers (output ++ input) tt c.in_ok-check_numbers.ensures (part_refused _ output input c.in_err-check_output.ensures.answer));
      fits = λ z. absurd (not_accepted _ _ residual z);
    }

pub returns : goal.returns
returns c =
    let a = c.args in
    let l = a.lengths in
    let numbers = rows_from a.rule.oldest a.params ++ extra_rows l.secret l.ad in
    let output = output_rows a.params.configured a.tag in
    let input = input_rows a.rule.salt a.unit a.params l.password l.salt a.lent in
    record {
      answer =
          part_passed numbers (output ++ input) tt c.in_ok-check_numbers.ensures
          (part_passed output input tt c.in_ok-check_output.ensures.answer c.check_inputs.ensures);
      fits = λ _. c.in_ok-check_output.ensures.fits refl;
    }
