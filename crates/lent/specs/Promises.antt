-- What the public functions of this crate promise.
use Rattle.std.specs.Prelude.{◌≡◌, ℕ, List, length}
use Rattle.lent.specs.Lent.{dirtied, dirtied_bytes, digest, xorshift}

pub record DirtyPromise (seed : ℕ) (w w' : List ℕ) : Type 0 where
  pub words : w' ≡ dirtied seed (length w)

pub record DirtyBytesPromise (seed : ℕ) (b b' : List ℕ) : Type 0 where
  pub bytes : b' ≡ dirtied_bytes seed (length b)

pub record DigestPromise (w r : List ℕ) : Type 0 where
  pub result : r ≡ digest w

pub record XorshiftPromise (x r : ℕ) : Type 0 where
  pub result : r ≡ xorshift x
