-- What the public function of this crate promises.
use Rattle.std.specs.Prelude.{ℕ, List, ◌≡◌, length, ⊤, Result}
use Rattle.answer.specs.Answers.{number, first, if_accepted, length_rows}
use Rattle.answer.specs.declared.Refusal.{Refusal}
use Rattle.word.specs.Word.{max_length}
use Rattle.blake2b_long.specs.Long.{long}

-- out stands at entry, out' at exit
pub record LongPromise (input out : List ℕ) (r : Result ⊤ Refusal) (out' : List ℕ) : Type 0 where
  pub answer : number r ≡ first (length_rows 1 max_length (length out))
  pub output : out' ≡ if_accepted (first (length_rows 1 max_length (length out))) (long (length out) input) out
