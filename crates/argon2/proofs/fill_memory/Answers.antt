-- `argon2::fill_memory` meets its contract: refused, the words stay; accepted, the rows say that the memory has the blocks. Assumes nothing.
use Rattle.std.proofs.Common.{◌≡◌, sym, ◌∙◌, length, rules}
use Rattle.answer.specs.Answers.{first}
use Rattle.answer.proofs.Answered.{handed_on, left_new, left_refused}
use Rattle.block.specs.Block.{block_words}
use Rattle.checks.specs.Rows.{plain, fill_rows}
use Rattle.memory.proofs.Lent.{lent_as, first_there}
use Rattle.filling.proofs.Inner.{all_there}
use Rattle.argon2.specs.Argon2.{filled}
use Rattle.argon2.specs.Calls.{memory_filled}
use Rattle.argon2.proofs.Inputs.{fill_lent}
use Rattle.argon2.proofs.Parts.{completed}
use Rattle.argon2.proofs.fill_memory.Goals as goal

pub returns-in_err-check_fill : goal.returns-in_err-check_fill
unfolding memory_filled
returns-in_err-check_fill c =
    let a = c.args in
    let i = a.inputs in
    let refused = rw (c.plain-rule.ensures.result, c.of-lengths.ensures.result) at c.in_err-check_fill.ensures.answer in
    record {
      answer = handed_on _ _ c.from_residual.ensures.1 refused;
      memory = left_refused c.in_err-check_fill.field-0.0 (filled a.params 0 i.password.now i.salt.now i.secret.now i.ad.now a.words.now) a.words.now refused;
    }

pub returns : goal.returns
unfolding memory_filled
returns c =
    let a = c.args in
    let i = a.inputs in
    let n = first (fill_rows plain block_words a.params (length i.password.now) (length i.salt.now) (length i.secret.now) (length i.ad.now) (length a.words.now)) in
    let end = filled a.params 0 i.password.now i.salt.now i.secret.now i.ad.now a.words.now in
    let checked = rw (c.plain-rule.ensures.result, c.of-lengths.ensures.result) at c.in_ok-check_fill.ensures.answer in
    let accepted : n ≡ 0 = sym checked in
    let lent = fill_lent a.params (length i.password.now) (length i.salt.now) (length i.secret.now) (length i.ad.now) (length a.words.now) accepted in
    record {
      answer = checked;
      memory =
          completed a.params 0 i.password.now i.salt.now i.secret.now i.ad.now a.words.now c.initial_hash-h.ensures.result
          (first_there c.first_blocks.ensures lent) (all_there c.fill_all.ensures (lent_as lent (search rules)))
          ∙ sym (left_new n end a.words.now accepted);
    }
