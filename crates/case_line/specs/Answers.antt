-- Document 01, "The program and the host": what a case is answered, and the lent words after it.
use Rattle.std.specs.Prelude.{ℕ, ◌-◌, cond, List, ◌≡◌, eqb, take, drop, replicate, Result, Ok, Err}
use Rattle.argon2.specs.Calls as calls
use Rattle.argon2.specs.Calls.{hashed}
use Rattle.case_line.specs.Cases.{bad_number}
use Rattle.case_line.specs.Lines.{Written, refused_words, bad_words, numbered_text, tag_text}
use Rattle.case_line.specs.declared.sections.Span.{Span}
use Rattle.case_line.specs.declared.sections.Case.{Case}
use Rattle.case_line.specs.declared.sections.BadInput.{BadInput}

-- the bytes of a span
abbrev pub part : List ℕ → Span → List ℕ
part s b = take (b.end - b.start) (drop b.start s)

-- the whole hash of a good case, over a tag of zeros
abbrev pub hash_of : List ℕ → Case → List ℕ → calls.Result
hash_of s c w =
    hashed c.params (part s c.password) (part s c.salt) (part s c.secret) (part s c.ad) w (replicate c.tag 0)

-- the tag where the hash is accepted, else the answer's number
abbrev pub result_text : calls.Result → List ℕ
result_text r = cond (eqb r.answer 0) (tag_text r.output) (numbered_text refused_words r.answer)

-- the line and the lent words after a good case with this result
pub record Answered (result : calls.Result) (line : List ℕ) (r : ℕ) (words' line' : List ℕ) : Type 0 where
  pub text : Written (result_text result) line line' r
  pub memory : words' ≡ result.memory

-- the answer to an input, of which this was parsed, with these words lent
abbrev pub answer_text : List ℕ → List ℕ → Result Case BadInput → List ℕ
answer_text s w (Err bad) = numbered_text bad_words (bad_number bad)
answer_text s w (Ok c) = result_text (hash_of s c w)

-- and the words that it leaves
abbrev pub memory_after : List ℕ → List ℕ → Result Case BadInput → List ℕ
memory_after s w (Err bad) = w
memory_after s w (Ok c) = (hash_of s c w).memory
