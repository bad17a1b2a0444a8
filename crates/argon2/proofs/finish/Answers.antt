-- `argon2::finish` meets its contract: refused, the output stays; accepted, the job is complete and its tag length fits. Assumes nothing.
use Rattle.std.proofs.Common.{◌≡◌, sym, refl, ◌∙◌, length, arith}
use Rattle.answer.specs.Answers.{first}
use Rattle.answer.proofs.Answered.{handed_on, left_new, left_refused}
use Rattle.job.specs.Jobs.{finish_rows}
use Rattle.job.proofs.Jobs.{finishing}
use Rattle.memory.specs.Tag.{tag_of}
use Rattle.memory.proofs.Lent.{tag_there}
use Rattle.argon2.specs.Calls.{finished}
use Rattle.argon2.proofs.Inputs.{tag_some}
use Rattle.argon2.proofs.finish.Goals as goal

pub returns-in_err-check_finish : goal.returns-in_err-check_finish
unfolding finished
returns-in_err-check_finish c =
    let a = c.args in
    let refused = c.in_err-check_finish.ensures.answer in
    record {
      answer = handed_on _ _ c.from_residual.ensures.1 refused;
      output = left_refused c.in_err-check_finish.field-0.0 (tag_of a.job.params (length a.out.now) a.words.now) a.out.now refused;
    }

pub returns : goal.returns
unfolding finished
returns c =
    let a = c.args in
    let n = first (finish_rows a.job (length a.words.now) (length a.out.now)) in
    let accepted : n ≡ 0 = sym c.in_ok-check_finish.ensures.answer in
    let f = finishing a.job (length a.words.now) (length a.out.now) accepted in
    let some = tag_some a.job.params a.job.tag f.complete.numbers f.complete.tag in
    record {
      answer = c.in_ok-check_finish.ensures.answer;
      output =
          tag_there c.write_tag.ensures (record { accepted = f.complete.numbers; enough = f.fits }) (omega (arith, some, f.length)) (c.in_ok-check_finish.ensures.fits refl)
          ∙ sym (left_new n (tag_of a.job.params (length a.out.now) a.words.now) a.out.now accepted);
    }
