-- What a parsed case is known by: its sections lie in the input, one after the other, and a bad section's number is a digit.
-- Each definition's tests are gone through once, for any property of what it gives. Assumes nothing.
use Prim.Native.Nat.{ℕ, ◌+◌, ◌≤◌, ◌<◌}
use mathlib.Core.Bool.{Bool, true, false, cond, not, ◌||◌}
use mathlib.Core.List.{List}
use mathlib.Core.Path.{◌≡◌, refl, subst}
use native.Mathlib.Omega.{arith}
use borrow.Author.Tests.{ltb-false}
use Rattle.std.specs.Prelude.{Option, Some, None, Result, Ok, Err}
use lib.Dec.{lit<, ltb, eqb}
use lib.ListN.{length}
use Rattle.case_line.specs.Cases.{Inside, Fits, number_bytes, numbers, numbers_end, max_section, max_tag, longest, number_of, count_at, numbers_bad, section_at, bad_number, after, with_data, with_secret, with_salt, with_password, parsed}
use Rattle.case_line.specs.declared.sections.Span.{Span}
use Rattle.case_line.specs.declared.sections.Case.{Case}
use Rattle.case_line.specs.declared.sections.BadInput.{BadInput}
use Rattle.case_line.specs.declared.sections.BadInput.TheVariants.{Password, Salt, Secret, Data}

-- what stands where a test fails or holds
pub tested : {A : Type 0} (P : A → Type 0) (test : Bool) {x y : A} → P x → (test ≡ false → P y) → P (cond test x y)
tested P true p q = p
tested P false p q = q refl

-- of three tests none holds
second : (a b d : Bool) → (a || b || d) ≡ false → b ≡ false
second true b d e = cc
second false true d e = cc
second false false d e = refl

third : (a b d : Bool) → (a || b || d) ≡ false → d ≡ false
third true b d e = cc
third false true d e = cc
third false false d e = e

-- a span of the input whose end is not past a place
pub record Lies (s : List ℕ) (most : ℕ) (b : Span) : Type 0 where
  pub inside : Inside s b
  pub near : b.end ≤ most

-- the most bytes that a section takes
abbrev pub section_bytes : ℕ
section_bytes = number_bytes + max_section

abbrev pub Read : List ℕ → ℕ → Option Span → Type 0
Read s at None = Unit {0}
Read s at (Some b) = Lies s (at + section_bytes) b

pub read : (s : List ℕ) (at : ℕ) → Read s at (section_at s at)
unfolding section_at
read s at =
    let a = ltb (length s) (at + number_bytes) in
    let b = ltb max_section (count_at s at) in
    let d = ltb (length s) (at + number_bytes + count_at s at) in
    tested (Read s at) (a || b || d) tt
    (λ e.
    let few = ltb-false max_section (count_at s at) (second a b d e) in
    let whole = ltb-false (length s) (at + number_bytes + count_at s at) (third a b d e) in
    record { inside = record { order = omega arith; within = omega arith }; near = omega arith })

-- a property of what follows from a section holds if it holds of a bad one and of what follows from its bytes
pub followed : (P : Result Case BadInput → Type 0) (s : List ℕ) (bad : BadInput) (at : ℕ) (f : Span → Result Case BadInput) → P (Err bad) → ((b : Span) → Lies s (at + section_bytes) b → P (f b))
    → P (after bad (section_at s at) f)
followed P s bad at f p q = go (section_at s at) (read s at)
  where
    go : (x : Option Span) → Read s at x → P (after bad x f)
    go None r = p
    go (Some b) r = q b r

-- a good case is no longer than the longest, and a bad section's number is a digit
abbrev pub Holds : List ℕ → Result Case BadInput → Type 0
Holds s (Ok c) = Fits s c × (length s ≤ longest)
Holds s (Err bad) = bad_number bad < 10

tag_fits : (s : List ℕ) → numbers_bad s ≡ false → number_of s 7 ≤ max_tag
unfolding numbers_bad
tag_fits s e = ltb-false max_tag (number_of s 7) (third (ltb (length s) numbers_end) (not (eqb (number_of s 0) numbers)) (ltb max_tag (number_of s 7)) e)

pub holds : (s : List ℕ) → Holds s (parsed s)
unfolding parsed with_password with_salt with_secret with_data
holds s =
    tested (Holds s) (numbers_bad s) (lit< tt) (λ e.
    followed (Holds s) s Password numbers_end (with_password s) (lit< tt) (λ password p.
    followed (Holds s) s Salt password.end (with_salt s password) (lit< tt) (λ salt q.
    followed (Holds s) s Secret salt.end (with_secret s password salt) (lit< tt) (λ secret r.
    followed (Holds s) s Data secret.end (with_data s password salt secret) (lit< tt) (λ ad t.
    tested (Holds s) (ltb ad.end (length s)) (lit< tt) (λ last.
    let all = ltb-false ad.end (length s) last in
    (record { tag = tag_fits s e; password = p.inside; salt = q.inside; secret = r.inside; ad = t.inside }, omega arith)))))))

-- what was parsed, told by its equation
pub good_fits : (s : List ℕ) (c : Case) → parsed s ≡ Ok c → Fits s c × (length s ≤ longest)
good_fits s c e = subst (Holds s) e (holds s)

pub bad_digit : (s : List ℕ) (bad : BadInput) → parsed s ≡ Err bad → bad_number bad < 10
bad_digit s bad e = subst (Holds s) e (holds s)
