-- `params::Params::check_from` meets its contract where rows 1 to 7 refuse: row 8 comes after them. Assumes nothing.
use Rattle.std.proofs.Common.{[], ◌∷◌}
use Rattle.std.proofs.lemmas.Result.{err_from_is_err_and}
use Rattle.answer.proofs.Answered.{part_refused}
use Rattle.params.specs.Limits.{number_rows, tag_too_short}
use Rattle.params.proofs.Params.check_from.Goals as goal

pub returns-in_err-check_numbers : goal.returns-in_err-check_numbers
returns-in_err-check_numbers c =
    let a = c.args in
    let p = err_from_is_err_and c.from_residual.result c.from_residual.ensures.1 in
    record {
      answer =
          rw (p.1, p.2) (part_refused c.in_err-check_numbers.field-0.0 (number_rows a.oldest a.self) (tag_too_short a.self.configured ∷ []) c.in_err-check_numbers.ensures.answer);
    }
