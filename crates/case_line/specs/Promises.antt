-- What the public functions of this crate promise.
use Rattle.std.specs.Prelude.{List, ◌≡◌, ℕ, ◌≤◌, cond, ltb, length, take, Result}
use Rattle.case_line.specs.Answers.{answer_text, memory_after}
use Rattle.case_line.specs.Cases.{parsed}
use Rattle.case_line.specs.Lines.{line_bytes, on_line}
use Rattle.case_line.specs.declared.sections.BadInput.{BadInput}
use Rattle.case_line.specs.declared.sections.Case.{Case}

pub record ParsePromise (input : List ℕ) (r : Result Case BadInput) : Type 0 where
  pub result : r ≡ parsed input

-- A line too short for some answer is left alone, and so are the words. The last two follow from the first two: with them a
-- caller's `&line[..r]` needs no proof.
pub record AnswerLinePromise (input words line : List ℕ) (r : ℕ) (words' line' : List ℕ) : Type 0 where
  pub count : r ≡ cond (ltb (length line) line_bytes) 0 (length (answer_text input words (parsed input)))
  pub text : line' ≡ cond (ltb (length line) line_bytes) line (on_line (answer_text input words (parsed input)) line)
  pub memory : words' ≡ cond (ltb (length line) line_bytes) words (memory_after input words (parsed input))
  pub within : r ≤ length line'
  pub start : r ≡ length (take r line')
