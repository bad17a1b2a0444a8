-- Document 01, "The program and the host": one case in sections, each after its count, counts and numbers 4 bytes little-endian.
use Rattle.std.specs.Prelude.{ℕ, ◌+◌, ◌*◌, ◌≤◌, Bool, cond, not, ◌||◌, List, ltb, eqb, length, Option, Some, None, Result, Ok, Err}
use Rattle.word.specs.Word.{number_at}
use Rattle.params.specs.Limits.{from_numbers}
use Rattle.params.specs.declared.Params.{Params}
use Rattle.case_line.specs.declared.sections.Span.{Span}
use Rattle.case_line.specs.declared.sections.Case.{Case}
use Rattle.case_line.specs.declared.sections.BadInput.{BadInput}
use Rattle.case_line.specs.declared.sections.BadInput.TheVariants.{Numbers, Password, Salt, Secret, Data, End}

-- a number's bytes, and the seven numbers of section 1
abbrev pub number_bytes : ℕ
number_bytes = 4

abbrev pub numbers : ℕ
numbers = 7

-- section 1: its count and its numbers
abbrev pub numbers_end : ℕ
numbers_end = number_bytes * (1 + numbers)

-- the most bytes of each other section, and of a tag
abbrev pub max_section : ℕ
max_section = 255

abbrev pub max_tag : ℕ
max_tag = 256

-- the longest good case: section 1, and four sections of a count and 255 bytes
abbrev pub longest : ℕ
longest = numbers_end + 4 * (number_bytes + max_section)

-- number k of section 1, its count being number 0
abbrev pub number_of : List ℕ → ℕ → ℕ
number_of s k = number_at number_bytes s (number_bytes * k)

-- algorithm, version, m, t, p, configured length or 0 for none; the tag length is number 7
unfoldable pub params_of : List ℕ → Params
params_of s = from_numbers (number_of s 1) (number_of s 2) (number_of s 3) (number_of s 4) (number_of s 5) (number_of s 6)

-- section 1 is cut, its count is not 7, or the tag length is over 256
unfoldable pub numbers_bad : List ℕ → Bool
numbers_bad s = ltb (length s) numbers_end || not (eqb (number_of s 0) numbers) || ltb max_tag (number_of s 7)

-- the count at a place
abbrev pub count_at : List ℕ → ℕ → ℕ
count_at s at = number_at number_bytes s at

-- another section: its count is cut or over 255, or its bytes are cut; else its bytes
unfoldable pub section_at : List ℕ → ℕ → Option Span
section_at s at =
    cond (ltb (length s) (at + number_bytes) || ltb max_section (count_at s at) || ltb (length s) (at + number_bytes + count_at s at))
    None
    (Some (record { start = at + number_bytes; end = at + number_bytes + count_at s at }))

-- the number that a bad input is answered with: the bad section's, or 6
abbrev pub bad_number : BadInput → ℕ
bad_number Numbers = 1
bad_number Password = 2
bad_number Salt = 3
bad_number Secret = 4
bad_number Data = 5
bad_number End = 6

-- a bad input where this section is cut; else what follows from its bytes
abbrev pub after : BadInput → Option Span → (Span → Result Case BadInput) → Result Case BadInput
after bad None f = Err bad
after bad (Some bytes) f = f bytes

-- bad for bytes after the last
unfoldable pub with_data : List ℕ → Span → Span → Span → Span → Result Case BadInput
with_data s password salt secret ad =
    cond (ltb ad.end (length s)) (Err End)
    (Ok (record { params = params_of s; tag = number_of s 7; password = password; salt = salt; secret = secret; ad = ad }))

unfoldable pub with_secret : List ℕ → Span → Span → Span → Result Case BadInput
with_secret s password salt secret = after Data (section_at s secret.end) (with_data s password salt secret)

unfoldable pub with_salt : List ℕ → Span → Span → Result Case BadInput
with_salt s password salt = after Secret (section_at s salt.end) (with_secret s password salt)

unfoldable pub with_password : List ℕ → Span → Result Case BadInput
with_password s password = after Salt (section_at s password.end) (with_salt s password)

-- the sections in their order
unfoldable pub parsed : List ℕ → Result Case BadInput
parsed s = cond (numbers_bad s) (Err Numbers) (after Password (section_at s numbers_end) (with_password s))

-- a span that lies in the input
pub record Inside (s : List ℕ) (b : Span) : Type 0 where
  pub order : b.start ≤ b.end
  pub within : b.end ≤ length s

-- a good case: a tag of at most 256 bytes, and four sections in the input
pub record Fits (s : List ℕ) (c : Case) : Type 0 where
  pub tag : c.tag ≤ max_tag
  pub password : Inside s c.password
  pub salt : Inside s c.salt
  pub secret : Inside s c.secret
  pub ad : Inside s c.ad
