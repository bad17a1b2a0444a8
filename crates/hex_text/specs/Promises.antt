-- What the public functions of this crate promise.
use Rattle.std.specs.Prelude.{ℕ, ◌≤◌, List, length, take, ◌≡◌}
use Rattle.hex_text.specs.Hex.{hex_of, written, text_after}

pub record DigitsPromise (b : ℕ) (r : List ℕ) : Type 0 where
  pub result : r ≡ hex_of b

-- `within` and `counted` follow from the others: so a caller may lend on the digits, `&text[..r]`, with no proof of its own
pub record WritePromise (bytes text : List ℕ) (r : ℕ) (text' : List ℕ) : Type 0 where
  pub count : r ≡ written bytes text
  pub content : text' ≡ text_after bytes text
  pub within : r ≤ length text'
  pub counted : r ≡ length (take r text')
