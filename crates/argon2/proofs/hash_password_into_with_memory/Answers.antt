-- `argon2::hash_password_into_with_memory` meets its contract: refused, words and output stay; accepted, the rows say that the memory has the
-- blocks and that the tag can be hashed. Assumes nothing.
use Rattle.std.proofs.Common.{◌≡◌, sym, refl, ap, ◌∙◌, length, rules}
use Rattle.answer.specs.Answers.{first}
use Rattle.answer.proofs.Answered.{handed_on, left_new, left_refused}
use Rattle.block.specs.Block.{block_words}
use Rattle.checks.specs.Rows.{plain, start_rows}
use Rattle.memory.specs.Tag.{tag_of}
use Rattle.memory.proofs.Lent.{lent_as, first_there, tag_there}
use Rattle.filling.proofs.Inner.{all_there}
use Rattle.argon2.specs.Argon2.{filled}
use Rattle.argon2.specs.Calls.{hashed}
use Rattle.argon2.proofs.Inputs.{start_lent, start_some}
use Rattle.argon2.proofs.Parts.{completed}
use Rattle.argon2.proofs.hash_password_into_with_memory.Goals as goal

pub returns-in_err-check_start : goal.returns-in_err-check_start
unfolding hashed
returns-in_err-check_start c =
    let a = c.args in
    let i = a.inputs in
    let end = filled a.params (length a.out.now) i.password.now i.salt.now i.secret.now i.ad.now a.words.now in
    let refused = rw (c.plain-rule.ensures.result, c.of-lengths.ensures.result) at c.in_err-check_start.ensures.answer in
    record {
      answer = handed_on _ _ c.from_residual.ensures.1 refused;
      memory = left_refused c.in_err-check_start.field-0.0 end a.words.now refused;
      output = left_refused c.in_err-check_start.field-0.0 (tag_of a.params (length a.out.now) end) a.out.now refused;
    }

pub returns : goal.returns
unfolding hashed
returns c =
    let a = c.args in
    let i = a.inputs in
    let n = first (start_rows plain block_words a.params (length a.out.now) (length i.password.now) (length i.salt.now) (length i.secret.now) (length i.ad.now) (length a.words.now)) in
    let end = filled a.params (length a.out.now) i.password.now i.salt.now i.secret.now i.ad.now a.words.now in
    let checked = rw (c.plain-rule.ensures.result, c.of-lengths.ensures.result) at c.in_ok-check_start.ensures in
    let accepted : n ≡ 0 = sym checked.answer in
    let lent = start_lent a.params (length i.password.now) (length i.salt.now) (length i.secret.now) (length i.ad.now) (length a.words.now) (length a.out.now) accepted in
    let some = start_some a.params (length i.password.now) (length i.salt.now) (length i.secret.now) (length i.ad.now) (length a.words.now) (length a.out.now) accepted in
    let filling =
    completed a.params (length a.out.now) i.password.now i.salt.now i.secret.now i.ad.now a.words.now
    c.initial_hash-h.ensures.result (first_there c.first_blocks.ensures lent) (all_there c.fill_all.ensures (lent_as lent (search rules))) in
    record {
      answer = checked.answer;
      memory = filling ∙ sym (left_new n end a.words.now accepted);
      output =
          tag_there c.write_tag.ensures (lent_as lent (search rules)) some (checked.fits refl)
          ∙ ap (tag_of a.params (length a.out.now)) filling
          ∙ sym (left_new n (tag_of a.params (length a.out.now) end) a.out.now accepted);
    }
