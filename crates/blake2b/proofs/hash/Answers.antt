-- `blake2b::hash` meets its contract where the length is accepted: begin, feed, end, and a copy. Assumes nothing.
use Rattle.std.proofs.Common.{◌≡◌, sym, ◌∙◌, length, take}
use Rattle.answer.specs.Answers.{first, length_rows}
use Rattle.answer.proofs.Answered.{left_new}
use Rattle.blake2b.specs.Blake2b.{max_output}
use Rattle.blake2b.proofs.Hashing.{ended, front}
use Rattle.blake2b.proofs.hash.Goals as goal

pub returns : goal.returns
returns c =
    let a = c.args in
    let n = length a.out.now in
    let accepted : first (length_rows 1 max_output n) ≡ 0 = sym c.in_ok-check_length.ensures.answer in
    let is_front : c.copy_from_slice.new.self ≡ take n c.end-d.result = c.copy_from_slice.ensures.after in
    record {
      answer = c.in_ok-check_length.ensures.answer;
      output =
          is_front
          ∙ front n a.input.now (ended n a.input.now c.initial.ensures.result c.begin.ensures.result c.feed.ensures.result c.end-d.ensures.result)
          ∙ sym (left_new (first (length_rows 1 max_output n)) _ _ accepted);
    }
