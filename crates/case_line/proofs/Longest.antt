-- More bytes than the longest good case and one cannot matter: from the first 1,069 bytes an input is parsed as from all of it,
-- since each section that is read lies in the first 1,068. Assumes nothing.
use Prim.Native.Nat.{ℕ, ◌+◌, ◌*◌, ◌≤◌, ◌<◌}
use mathlib.Core.Bool.{Bool, true, false, cond, ◌||◌}
use mathlib.Core.List.{List, ◌++◌}
use mathlib.Core.Path.{◌≡◌, refl, sym, ap, ◌∙◌}
use native.Mathlib.Omega.{arith}
use borrow.Author.Tests.{lt-ltb, le-ltb, ltb-true, ltb-false}
use Rattle.std.specs.Prelude.{Option, Some, None, Result, Ok, Err}
use lib.Dec.{ltb}
use lib.ListN.{length, take, get_or, replicate}
use lib.Seq.{length-take-le, take_all, get_or-take}
use Rattle.word.specs.Word.{from_le, number_at, to_le}
use Rattle.word.proofs.Part.{bytes_of}
use Rattle.word.proofs.Table.{same_table}
use Rattle.case_line.specs.Cases.{number_bytes, numbers, numbers_end, max_section, longest, count_at, numbers_bad, section_at, after, with_data, with_secret, with_salt, with_password, parsed}
use Rattle.case_line.specs.declared.sections.Span.{Span}
use Rattle.case_line.specs.Answers.{answer_text, memory_after}
use Rattle.case_line.specs.declared.sections.Case.{Case}
use Rattle.case_line.specs.declared.sections.BadInput.{BadInput}
use Rattle.case_line.specs.declared.sections.BadInput.TheVariants.{Numbers, Password, Salt, Secret, Data}
use Rattle.case_line.proofs.Spans.{Lies, section_bytes, read, Read, good_fits}

-- where a section has room before n, only its count decides
room : (n at count : ℕ) → at + section_bytes ≤ n → (ltb n (at + number_bytes) || ltb max_section count || ltb n (at + number_bytes + count)) ≡ ltb max_section count
room n at count h = rw (le-ltb n (at + number_bytes) (omega arith)) (go (ltb max_section count) refl)
  where
    go : (t : Bool) → ltb max_section count ≡ t → (t || ltb n (at + number_bytes + count)) ≡ t
    go true e = refl
    go false e = let few = ltb-false max_section count e in le-ltb n (at + number_bytes + count) (omega arith)

module _ (n : ℕ) (s : List ℕ) (long : n ≤ length s) (past : longest < n) where
  number_same : (k at : ℕ) → at + k ≤ n → number_at k (take n s) at ≡ number_at k s at
  number_same k at h =
      bytes_of k (take n s) at (rw (length-take-le n s long) h)
      ∙ ap from_le (same_table (λ i. get_or (take n s) (at + i) 0) (λ i. get_or s (at + i) 0) k (λ i b. get_or-take n s (at + i) 0 (omega arith)))
      ∙ sym (bytes_of k s at (omega arith))

  section_same : (at : ℕ) → at + section_bytes ≤ n → section_at (take n s) at ≡ section_at s at
  unfolding section_at
  section_same at h =
      rw (
        length-take-le n s long,
        number_same number_bytes at (omega arith),
        room n at (count_at s at) h,
        room (length s) at (count_at s at) (omega arith),
      )

  after_same : (bad : BadInput) (at : ℕ) (f g : Span → Result Case BadInput) → at + section_bytes ≤ n → ((b : Span) → Lies s (at + section_bytes) b → f b ≡ g b)
      → after bad (section_at (take n s) at) f ≡ after bad (section_at s at) g
  after_same bad at f g h same = rw (section_same at h) (go (section_at s at) (read s at))
    where
      go : (x : Option Span) → Read s at x → after bad x f ≡ after bad x g
      go None r = refl
      go (Some b) r = same b r

  numbers_same : numbers_bad (take n s) ≡ numbers_bad s
  unfolding numbers_bad
  numbers_same =
      rw (
        length-take-le n s long,
        number_same number_bytes 0 (omega arith),
        number_same number_bytes (number_bytes * numbers) (omega arith),
        le-ltb n numbers_end (omega arith),
        le-ltb (length s) numbers_end (omega arith),
      )

  -- bytes are left after the last section, of the first n as of all
  data_same : (password salt secret ad : Span) → ad.end ≤ longest → with_data (take n s) password salt secret ad ≡ with_data s password salt secret ad
  unfolding with_data
  data_same password salt secret ad h =
      rw (length-take-le n s long, lt-ltb ad.end n (omega arith), lt-ltb ad.end (length s) (omega arith))

  first_bytes : parsed (take n s) ≡ parsed s
  unfolding parsed with_password with_salt with_secret
  first_bytes =
      rw numbers_same
      (ap (cond (numbers_bad s) (Err Numbers))
      (after_same Password numbers_end (with_password (take n s)) (with_password s) (omega arith) (λ password p.
      after_same Salt password.end (with_salt (take n s) password) (with_salt s password) (omega arith) (λ salt q.
      after_same Secret salt.end (with_secret (take n s) password salt) (with_secret s password salt) (omega arith) (λ secret r.
      after_same Data secret.end (with_data (take n s) password salt secret) (with_data s password salt secret) (omega arith) (λ ad t.
      data_same password salt secret ad (omega arith)))))))

pub more_cannot_matter : (s : List ℕ) → parsed (take (longest + 1) s) ≡ parsed s
more_cannot_matter s = go (ltb (longest + 1) (length s)) refl
  where
    go : (t : Bool) → ltb (longest + 1) (length s) ≡ t → parsed (take (longest + 1) s) ≡ parsed s
    go true e = let h = ltb-true (longest + 1) (length s) e in first_bytes (longest + 1) s (omega arith) (omega arith)
    go false e = ap parsed (take_all (longest + 1) s (ltb-false (longest + 1) (length s) e))

-- so the line and the words after it are the same: either all bytes were there, or the case is bad and no byte is hashed
pub same_answer : (s w : List ℕ) → let first = take (longest + 1) s in
    (answer_text first w (parsed first) ≡ answer_text s w (parsed s)) × (memory_after first w (parsed first) ≡ memory_after s w (parsed s))
same_answer s w = go (ltb (longest + 1) (length s)) refl
  where
    Same : List ℕ → Result Case BadInput → Type 0
    Same x p = (answer_text x w p ≡ answer_text s w (parsed s)) × (memory_after x w p ≡ memory_after s w (parsed s))

    long : (p : Result Case BadInput) → parsed s ≡ p → longest < length s → Same (take (longest + 1) s) p
    long (Ok c) e h = absurd (omega (arith, (good_fits s c e).1))
    long (Err bad) e h = rw e (refl, refl)

    go : (t : Bool) → ltb (longest + 1) (length s) ≡ t → Same (take (longest + 1) s) (parsed (take (longest + 1) s))
    go true e = rw (more_cannot_matter s) (long (parsed s) refl (let h = ltb-true (longest + 1) (length s) e in omega arith))
    go false e = rw (take_all (longest + 1) s (ltb-false (longest + 1) (length s) e)) (refl, refl)

-- a good case has at most that length
pub longest_good : (s : List ℕ) (c : Case) → parsed s ≡ Ok c → length s ≤ longest
longest_good s c e = (good_fits s c e).1

-- and one has it: seven numbers that are 0, and four sections of 255 zeros
abbrev full : List ℕ
full = to_le number_bytes numbers ++ replicate (number_bytes * numbers) 0 ++ body ++ body ++ body ++ body
  where
    body : List ℕ
    body = to_le number_bytes max_section ++ replicate max_section 0

abbrev is_good : Result Case BadInput → Bool
is_good (Ok c) = true
is_good (Err bad) = false

pub longest_attained : (length full ≡ longest) × (is_good (parsed full) ≡ true)
unfolding parsed numbers_bad number_at section_at with_password with_salt with_secret with_data
longest_attained = (refl, refl)
