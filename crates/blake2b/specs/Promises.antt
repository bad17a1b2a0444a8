-- What the public functions of this crate promise.
use Rattle.std.specs.Prelude.{ℕ, List, ◌≡◌, length, ⊤, Result}
use Rattle.answer.specs.Answers.{number, first, if_accepted, length_rows}
use Rattle.answer.specs.declared.Refusal.{Refusal}
use Rattle.blake2b.specs.declared.Engine.{Engine}
use Rattle.blake2b.specs.Blake2b.{max_output, initial, blake2b}
use Rattle.blake2b.specs.Stream.{fresh, feed_all, sealed}

pub record InitialPromise (n : ℕ) (r : List ℕ) : Type 0 where
  pub result : r ≡ initial n

pub record BeginPromise (h₀ : List ℕ) (r : Engine) : Type 0 where
  pub result : r ≡ fresh h₀

pub record FeedPromise (s : Engine) (piece : List ℕ) (r : Engine) : Type 0 where
  pub result : r ≡ feed_all s piece

pub record EndPromise (s : Engine) (r : List ℕ) : Type 0 where
  pub result : r ≡ sealed s

-- out stands at entry, out' at exit
pub record HashPromise (input out : List ℕ) (r : Result ⊤ Refusal) (out' : List ℕ) : Type 0 where
  pub answer : number r ≡ first (length_rows 1 max_output (length out))
  pub output : out' ≡ if_accepted (first (length_rows 1 max_output (length out))) (blake2b (length out) input) out
