-- `argon2::start` meets its contract: refused, the words stay; accepted, the rows say that the memory has the blocks. Assumes nothing.
use Rattle.std.proofs.Common.{◌≡◌, sym, ap, ◌∙◌, length}
use Rattle.std.specs.Result.{result_unwrap_or}
use Rattle.std.proofs.lemmas.Result.{err_from_is_err_and}
use Rattle.answer.specs.Answers.{first}
use Rattle.answer.proofs.Answered.{handed_on, left_new, left_refused}
use Rattle.block.specs.Block.{block_words}
use Rattle.checks.specs.Rows.{plain, start_rows}
use Rattle.initial.specs.Initial.{initial_hash}
use Rattle.job.specs.Jobs.{start_job, zero_job}
use Rattle.memory.specs.Start.{start_memory}
use Rattle.memory.proofs.Lent.{first_there}
use Rattle.params.specs.Limits.{rows, segment}
use Rattle.argon2.specs.Calls.{started}
use Rattle.argon2.proofs.Inputs.{start_lent}
use Rattle.argon2.proofs.Parts.{begun}
use Rattle.argon2.proofs.start.Goals as goal

pub returns-in_err-check_start : goal.returns-in_err-check_start
unfolding started
returns-in_err-check_start c =
    let a = c.args in
    let i = a.inputs in
    let begin = start_memory (initial_hash a.params a.tag i.password.now i.salt.now i.secret.now i.ad.now) a.params.lanes (segment a.params) a.words.now in
    let refused = rw (c.plain-rule.ensures.result, c.of-lengths.ensures.result) at c.in_err-check_start.ensures.answer in
    let is_err = err_from_is_err_and c.from_residual.result c.from_residual.ensures.1 in
    record {
      answer = handed_on _ _ c.from_residual.ensures.1 refused;
      job =
          ap (λ r. result_unwrap_or r zero_job) is_err.1
          ∙ left_refused c.in_err-check_start.field-0.0 (start_job a.params a.tag) zero_job refused;
      memory = left_refused c.in_err-check_start.field-0.0 begin a.words.now refused;
    }

pub returns : goal.returns
unfolding started
returns c =
    let a = c.args in
    let i = a.inputs in
    let n = first (start_rows plain block_words a.params a.tag (length i.password.now) (length i.salt.now) (length i.secret.now) (length i.ad.now) (length a.words.now)) in
    let begin = start_memory (initial_hash a.params a.tag i.password.now i.salt.now i.secret.now i.ad.now) a.params.lanes (segment a.params) a.words.now in
    let checked = rw (c.plain-rule.ensures.result, c.of-lengths.ensures.result) at c.in_ok-check_start.ensures.answer in
    let accepted : n ≡ 0 = sym checked in
    let lent = start_lent a.params (length i.password.now) (length i.salt.now) (length i.secret.now) (length i.ad.now) (length a.words.now) a.tag accepted in
    record {
      answer = checked;
      job =
          c.start.ensures.result
          ∙ left_new (first (rows a.params)) (start_job a.params a.tag) zero_job lent.accepted
          ∙ sym (left_new n (start_job a.params a.tag) zero_job accepted);
      memory =
          begun a.params a.tag i.password.now i.salt.now i.secret.now i.ad.now a.words.now c.initial_hash-h.ensures.result
          (first_there c.first_blocks.ensures lent)
          ∙ sym (left_new n begin a.words.now accepted);
    }
