-- What the public functions of this crate promise.
use Rattle.std.specs.Prelude.{◌≡◌, ℕ, ◌+◌, ◌*◌, ◌^◌, Bool, List}
use Rattle.blake2b_compression.specs.declared.Count.{Count}
use Rattle.blake2b_compression.specs.Compression.{F, words, offset, count_of}

pub record CompressPromise (h block : List ℕ) (low high : ℕ) (last : Bool) (r : List ℕ) : Type 0 where
  pub result : r ≡ F h (words block) (low + high * 2 ^ 64) last

pub record AddPromise (t : Count) (n : ℕ) (r : Count) : Type 0 where
  pub result : r ≡ count_of (offset t + n)
