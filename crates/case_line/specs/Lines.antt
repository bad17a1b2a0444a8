-- Document 01, "The program and the host": the line that answers a case, in bytes.
use Rattle.std.specs.Prelude.{ℕ, ◌+◌, ◌*◌, ◌/◌, ◌%◌, cond, List, [], ◌∷◌, ◌++◌, ◌≡◌, ltb, length, drop}
use Rattle.hex_text.specs.Hex.{hex_digits}
use Rattle.case_line.specs.Cases.{max_tag}

-- "tag ", "refused " and "bad input "
abbrev pub tag_word : List ℕ
tag_word = 116 ∷ 97 ∷ 103 ∷ 32 ∷ []

abbrev pub refused_words : List ℕ
refused_words = 114 ∷ 101 ∷ 102 ∷ 117 ∷ 115 ∷ 101 ∷ 100 ∷ 32 ∷ []

abbrev pub bad_words : List ℕ
bad_words = 98 ∷ 97 ∷ 100 ∷ 32 ∷ 105 ∷ 110 ∷ 112 ∷ 117 ∷ 116 ∷ 32 ∷ []

-- every line ends in a newline
abbrev pub newline : List ℕ
newline = 10 ∷ []

-- a number under 100 in decimal
abbrev pub decimal : ℕ → List ℕ
decimal n = cond (ltb n 10) ((48 + n) ∷ []) ((48 + n / 10) ∷ (48 + n % 10) ∷ [])

-- `refused N` and `bad input K`
abbrev pub numbered_text : List ℕ → ℕ → List ℕ
numbered_text words n = words ++ decimal n ++ newline

-- `tag ` and lower-case hex
abbrev pub tag_text : List ℕ → List ℕ
tag_text tag = tag_word ++ hex_digits tag ++ newline

-- room for the longest answer
abbrev pub line_bytes : ℕ
line_bytes = 4 + 2 * max_tag + 1

-- a text at the start of a lent line
abbrev pub on_line : List ℕ → List ℕ → List ℕ
on_line text line = text ++ drop (length text) line

-- a text was written, and r is its length
pub record Written (text line line' : List ℕ) (r : ℕ) : Type 0 where
  pub bytes : line' ≡ on_line text line
  pub count : r ≡ length text
