-- What the functions of the C boundary promise: what the calls behind them do, with an answer's number for the answer.
use Rattle.std.specs.Prelude.{ℕ, List, ◌≡◌, length}
use Rattle.answer.specs.Answers.{first, if_accepted, length_rows}
use Rattle.argon2.specs.Calls.{hashed, memory_filled}
use Rattle.blake2b_long.specs.Long.{long}
use Rattle.params.specs.declared.Params.{Params}
use Rattle.word.specs.Word.{max_length}

pub record CrabuleddaHashPromise (P : Params) (password salt secret ad w out : List ℕ) (r : ℕ) (w' out' : List ℕ) : Type 0 where
  pub answer : r ≡ (hashed P password salt secret ad w out).answer
  pub memory : w' ≡ (hashed P password salt secret ad w out).memory
  pub output : out' ≡ (hashed P password salt secret ad w out).output

pub record CrabuleddaFillMemoryPromise (P : Params) (password salt secret ad w : List ℕ) (r : ℕ) (w' : List ℕ) : Type 0 where
  pub answer : r ≡ (memory_filled P password salt secret ad w).answer
  pub memory : w' ≡ (memory_filled P password salt secret ad w).memory

pub record CrabuleddaLongPromise (input out : List ℕ) (r : ℕ) (out' : List ℕ) : Type 0 where
  pub answer : r ≡ first (length_rows 1 max_length (length out))
  pub output : out' ≡ if_accepted (first (length_rows 1 max_length (length out))) (long (length out) input) out
