-- What the public functions of this crate promise.
use Rattle.std.specs.Prelude.{ℕ, Bool, ◌≡◌, ◌≤◌, ⊤, Option, Result}
use Rattle.answer.specs.Answers.{number, first}
use Rattle.answer.specs.declared.Refusal.{Refusal}
use Rattle.params.specs.declared.Params.{Params}
use Rattle.word.specs.Word.{max_length}
use Rattle.checks.specs.Rows.{plain, output_rows, too_little, start_rows, fill_rows}
use Rattle.checks.specs.declared.Lengths.{Lengths}
use Rattle.checks.specs.declared.Rule.{Rule}

pub record LengthsPromise (password salt secret ad : ℕ) (r : Lengths) : Type 0 where
  pub result : r ≡ record { password = password; salt = salt; secret = secret; ad = ad }

pub record PlainPromise (r : Rule) : Type 0 where
  pub result : r ≡ plain

-- what is accepted is a length that 4 bytes count
pub record CheckOutputPromise (configured : Option ℕ) (n : ℕ) (r : Result ⊤ Refusal) : Type 0 where
  pub answer : number r ≡ first (output_rows configured n)
  pub fits : number r ≡ 0 → n ≤ max_length

pub record TooLittlePromise (unit : ℕ) (P : Params) (lent : ℕ) (r : Bool) : Type 0 where
  pub result : r ≡ too_little unit P lent

-- and so is an accepted tag's
pub record CheckStartPromise (rule : Rule) (unit : ℕ) (P : Params) (tag password salt secret ad lent : ℕ) (r : Result ⊤ Refusal) : Type 0 where
  pub answer : number r ≡ first (start_rows rule unit P tag password salt secret ad lent)
  pub fits : number r ≡ 0 → tag ≤ max_length

pub record CheckFillPromise (rule : Rule) (unit : ℕ) (P : Params) (password salt secret ad lent : ℕ) (r : Result ⊤ Refusal) : Type 0 where
  pub answer : number r ≡ first (fill_rows rule unit P password salt secret ad lent)
