-- `case_line::answer_case` meets its contract: the hash writes over zeros, and the line says what it answered. Assumes nothing.
use Rattle.std.proofs.Common.{ap}
use Rattle.answer.specs.Answers.{number}
use Rattle.case_line.specs.Cases.{max_tag}
use Rattle.case_line.proofs.Answering.{zeros, accepted, refused}
use Rattle.case_line.proofs.answer_case.Goals as goal

pub returns-in-Ok : goal.returns-in-Ok
returns-in-Ok c =
    let a = c.args in
    accepted a.input.now a.case a.words.now _ (zeros a.case.tag max_tag c.requires.0.tag) c.hash_case-answer.ensures
    (ap number c.in-Ok.is) c.write_tag.ensures

pub returns-in-Err : goal.returns-in-Err
returns-in-Err c =
    let a = c.args in
    refused a.input.now a.case a.words.now _ (zeros a.case.tag max_tag c.requires.0.tag) c.hash_case-answer.ensures
    _ c.in-Err.is c.number.ensures.result c.write_number.ensures
