-- What the public functions of this crate promise.
use Rattle.std.specs.Prelude.{ℕ, ◌≡◌, ⊤, Result}
use Rattle.answer.specs.Answers.{number, first, length_rows}
use Rattle.answer.specs.declared.Refusal.{Refusal}

pub record NumberPromise (a : Result ⊤ Refusal) (r : ℕ) : Type 0 where
  pub result : r ≡ number a

pub record CheckLengthPromise (least most n : ℕ) (r : Result ⊤ Refusal) : Type 0 where
  pub answer : number r ≡ first (length_rows least most n)
