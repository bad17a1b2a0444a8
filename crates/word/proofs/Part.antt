-- A part of a list, element by element, and the number that its bytes are. Assumes nothing.
use mathlib.Core.Path.{◌≡◌}
use mathlib.Core.List.{List}
use Prim.Native.Nat.{ℕ, ◌+◌, ◌<◌, ◌≤◌}
use native.Mathlib.Omega.{arith}
use lib.ListN.{length, take, drop, get_or, length-take, length-drop}
use lib.Seq.{get_or-take, get_or-drop}
use borrow.Author.Tests.{le-leb, lt-leb}
use Rattle.word.specs.Table.{table}
use Rattle.word.specs.Word.{from_le, number_at}
use Rattle.word.proofs.Table.{is_table}

-- the n elements from a place on
pub elements : (n : ℕ) (s : List ℕ) (at : ℕ) → at + n ≤ length s → take n (drop at s) ≡ table (λ k. get_or s (at + k) 0) n
elements n s at h =
    is_table (λ k. get_or s (at + k) 0) n (take n (drop at s)) (simp (length-take, length-drop) (omega arith))
    (λ k b. rw (get_or-take, get_or-drop))

-- a number whose n bytes all stand in the list
pub inside : (n : ℕ) (s : List ℕ) (at : ℕ) → at + n ≤ length s → number_at n s at ≡ from_le (take n (drop at s))
unfolding number_at
inside n s at h = rw (le-leb (at + n) (length s) h)

pub outside : (n : ℕ) (s : List ℕ) (at : ℕ) → length s < at + n → number_at n s at ≡ 0
unfolding number_at
outside n s at h = rw (lt-leb (at + n) (length s) h)

-- the bytes of such a number, one by one
pub bytes_of : (n : ℕ) (s : List ℕ) (at : ℕ) → at + n ≤ length s → number_at n s at ≡ from_le (table (λ k. get_or s (at + k) 0) n)
bytes_of n s at h = rw (inside n s at h, elements n s at h)
