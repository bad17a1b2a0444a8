-- What the crate's own functions say of a line of registers, be it a row or a column.
use Rattle.std.specs.Prelude.{◌≡◌, ℕ, ◌+◌, ◌-◌, ◌*◌, ◌<◌, List, length, ◌≢◌, slice_index}
use Rattle.block.specs.Block.{block_words, register_words, side, place, registers, permutation}

-- a line, the registers `first`, `first + step`, .., that stands in the block
pub record Inside (first step : ℕ) : Type 0 where
  pub apart : 0 < step
  pub last : register_words * (first + step * (side - 1)) + register_words - 1 < block_words

-- the first n of the words v laid down as a line: the block t before, t' after
pub record Laid (first step n : ℕ) (v t t' : List ℕ) : Type 0 where
  pub long : length t' ≡ block_words
  pub on_line : (k : ℕ) → k < n → slice_index t' (place first step k) ≡ slice_index v k
  pub elsewhere : (m : ℕ) → ((k : ℕ) → k < n → place first step k ≢ m) → slice_index t' m ≡ slice_index t m

-- the two ways to cut a block into lines that begin at register `between * i`
pub data Cut : ℕ → ℕ → Type 0 where
  into_rows : Cut side 1
  into_columns : Cut 1 side

-- the first n lines of r are P of those of q
pub record Permuted (between step n : ℕ) (q r : List ℕ) : Type 0 where
  pub long : length r ≡ block_words
  pub each : (i : ℕ) → i < n → registers (between * i) step r ≡ permutation (registers (between * i) step q)
