-- Writing the pieces one by one: what stands in the output, and the bytes of the pieces that are left, is the whole. Assumes nothing.
use Prim.Native.Nat.{ℕ, zero, suc, ◌+◌, ◌-◌, ◌*◌, ◌/◌, ◌<◌, ◌≤◌, min}
use mathlib.Core.List.{List, [], ◌∷◌, ◌++◌, append_assoc, append-nil}
use mathlib.Core.Path.{◌≡◌, refl, sym, ap, ◌∙◌}
use native.Mathlib.Nat.{min-eq_left, min-eq_right, le_refl, sub-zero}
use native.Mathlib.Omega.{arith}
use lib.ListN.{length, take, replicate, drop_of_length-le}
use lib.Seq.{paste, take-paste}
use Rattle.word.specs.Word.{to_le, bytes}
use Rattle.blake2b.specs.declared.Engine.{Engine}
use Rattle.blake2b.specs.Blake2b.{max_output, initial, final, blake2b}
use Rattle.blake2b.specs.Stream.{feed_all}
use Rattle.blake2b.proofs.Hashing.{front, whole, length-blake2b}
use Rattle.blake2b.proofs.Streaming.{cut}
use Rattle.blake2b_long.specs.Long.{length_bytes, half_hash, halves, pieces, joined, long}

-- ---- the pieces of a length: one up to 64, else 32 and those of the rest
one_piece : (m : ℕ) → m ≤ max_output → pieces m ≡ m ∷ []
unfolding pieces halves
one_piece m h =
    let q : (m + (half_hash - 1)) / half_hash - 2 ≡ 0 = omega arith in
    let e : m - half_hash * 0 ≡ m = omega arith in
    rw q (ap (λ (k : ℕ). k ∷ []) e)

more_pieces : (m : ℕ) → max_output < m → pieces m ≡ half_hash ∷ pieces (m - half_hash)
unfolding pieces halves
more_pieces m h =
    let p = (m - half_hash + (half_hash - 1)) / half_hash - 2 in
    let q : (m + (half_hash - 1)) / half_hash - 2 ≡ suc p = omega arith in
    let e : m - half_hash * suc p ≡ m - half_hash - half_hash * p = omega arith in
    rw (q, e)

first_of : (x : List ℕ) (k q l : ℕ)
    → joined x (k ∷ replicate q half_hash ++ l ∷ []) ≡ take k (blake2b max_output x) ++ joined (blake2b max_output x) (replicate q half_hash ++ l ∷ [])
unfolding joined
first_of x k zero l = refl
first_of x k (suc q) l = refl

first_piece : (x : List ℕ) (m : ℕ) → max_output < m → joined x (pieces m) ≡ take half_hash (blake2b max_output x) ++ joined (blake2b max_output x) (pieces (m - half_hash))
first_piece x m h = ap (joined x) (more_pieces m h) ∙ cut_off
  where
    cut_off : joined x (half_hash ∷ pieces (m - half_hash)) ≡ take half_hash (blake2b max_output x) ++ joined (blake2b max_output x) (pieces (m - half_hash))
    cut_off = unfold pieces in first_of x half_hash (halves (m - half_hash)) (m - half_hash - half_hash * halves (m - half_hash))

last_piece : (x : List ℕ) (m : ℕ) → m ≤ max_output → joined x (pieces m) ≡ blake2b m x
unfolding joined
last_piece x m h = ap (joined x) (one_piece m h)

-- ---- where the writing stands: v is the hash of x for the next piece, of m bytes that are left
abbrev pub digest_of : ℕ → List ℕ → List ℕ
digest_of n x = bytes (final (initial n) x)

pub record Ahead (total v out : List ℕ) (at m : ℕ) : Type 0 where
  pub x : List ℕ
  pub hash : v ≡ digest_of (min m max_output) x
  pub rest : take at out ++ joined x (pieces m) ≡ total

digest_full : (x : List ℕ) (m : ℕ) → max_output < m → digest_of (min m max_output) x ≡ blake2b max_output x
digest_full x m h = whole x (ap (λ (n : ℕ). digest_of n x) (min-eq_right {n = max_output} {m = m} (omega arith)))

digest_last : (x : List ℕ) (m : ℕ) → m ≤ max_output → take m (digest_of (min m max_output) x) ≡ blake2b m x
digest_last x m h = front m x (ap (λ (n : ℕ). digest_of n x) (min-eq_left {n = m} {m = max_output} h))

pub fed_twice : (s : Engine) (a b : List ℕ) {t u : Engine} → t ≡ feed_all s a → u ≡ feed_all t b → u ≡ feed_all s (a ++ b)
fed_twice s a b p q = q ∙ ap (λ (t : Engine). feed_all t b) p ∙ sym (cut s a b)

-- at the start, nothing is written
pub ahead : (n : ℕ) (input v out : List ℕ) → v ≡ digest_of (min n max_output) (to_le length_bytes n ++ input) → Ahead (long n input) v out 0 (n - 0)
unfolding long
ahead n input v out e = rw sub-zero (record { x = to_le length_bytes n ++ input; hash = e; rest = refl })

-- a piece of 32 bytes is written, and the next one is hashed
module _ {total v : List ℕ} (out : List ℕ) (at m : ℕ) (a : Ahead total v out at m) where
  full : max_output < m → v ≡ blake2b max_output a.x
  full h = a.hash ∙ digest_full a.x m h

  pub one_on : {w out' : List ℕ} (m' : ℕ) → max_output < m → at ≤ length out → out' ≡ paste out at v half_hash → m' ≡ m - half_hash → w ≡ digest_of (min m' max_output) v
      → Ahead total w out' (at + half_hash) m'
  one_on m' h k p r e =
      let n : length v ≡ max_output = ap length (full h) ∙ length-blake2b max_output a.x (le_refl max_output) in
      record {
        x = v;
        hash = e;
        rest =
            ap (λ (l : List ℕ). take (at + half_hash) l ++ joined v (pieces m')) p
            ∙ ap (λ (l : List ℕ). l ++ joined v (pieces m')) (take-paste out at v half_hash k (omega arith))
            ∙ append_assoc (take at out) (take half_hash v) (joined v (pieces m'))
            ∙ ap (λ (i : ℕ). take at out ++ (take half_hash v ++ joined v (pieces i))) r
            ∙ ap (λ (u : List ℕ). take at out ++ (take half_hash u ++ joined u (pieces (m - half_hash)))) (full h)
            ∙ ap (λ (l : List ℕ). take at out ++ l) (sym (first_piece a.x m h))
            ∙ a.rest;
      }

  -- the last piece is written
  pub all_on : m ≤ max_output → at + m ≡ length out → paste out at v m ≡ total
  all_on h k =
      ap (λ (l : List ℕ). (take at out ++ take m v) ++ l) (drop_of_length-le out {i = at + m} (omega arith))
      ∙ append-nil (take at out ++ take m v)
      ∙ ap (λ (l : List ℕ). take at out ++ l) (ap (take m) a.hash ∙ digest_last a.x m h ∙ sym (last_piece a.x m h))
      ∙ a.rest
