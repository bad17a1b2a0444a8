-- What the public functions of this crate promise.
use Rattle.std.specs.Prelude.{ℕ, ◌*◌, List, [], ◌∷◌, ◌++◌, ◌≡◌, length, take, drop}
use Rattle.word.specs.Word.{word_bytes, rotr, from_le, to_le, number_at, words_of, bytes, low_half, high_half}

-- std's `rotate_right`, `from_le_bytes` and `to_le_bytes` keep these three: `proofs/Library` `rotates`, `reads`, `writes_8`, `writes_4`
pub record RotatePromise (n x r : ℕ) : Type 0 where
  pub result : r ≡ rotr n x

pub record FromLePromise (a b c d e f g h r : ℕ) : Type 0 where
  pub result : r ≡ from_le (a ∷ b ∷ c ∷ d ∷ e ∷ f ∷ g ∷ h ∷ [])

pub record ToLePromise (n x : ℕ) (r : List ℕ) : Type 0 where
  pub result : r ≡ to_le n x

-- load32, load
pub record LoadPromise (n : ℕ) (s : List ℕ) (at r : ℕ) : Type 0 where
  pub result : r ≡ number_at n s at

-- w stands at entry, w' at exit
pub record LoadWordsPromise (s w w' : List ℕ) : Type 0 where
  pub words : w' ≡ words_of (length w) s

-- out stands at entry, out' at exit
pub record StoreWordsPromise (w out out' : List ℕ) : Type 0 where
  pub output : out' ≡ take (length out) (bytes w) ++ drop (word_bytes * length w) out

pub record LowHalfPromise (x r : ℕ) : Type 0 where
  pub result : r ≡ low_half x

pub record HighHalfPromise (x r : ℕ) : Type 0 where
  pub result : r ≡ high_half x
