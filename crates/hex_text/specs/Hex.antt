-- Lower-case hex (document 01, "The program and the host"): two digits a byte, the high one first.
use Rattle.std.specs.Prelude.{ℕ, ◌+◌, ◌-◌, ◌*◌, ◌/◌, ◌%◌, Bool, cond, List, [], ◌∷◌, ◌++◌, length, drop, leb, ltb}

-- the digit of a number under 16, as a character: 0 to 9 are 48 to 57, a to f are 97 to 102
abbrev pub digit_of : ℕ → ℕ
digit_of n = cond (ltb n 10) (48 + n) (97 + (n - 10))

-- the digits of a byte
abbrev pub hex_of : ℕ → List ℕ
hex_of b = digit_of (b / 16) ∷ digit_of (b % 16) ∷ []

-- the digits of a list of bytes
unfoldable pub hex_digits : List ℕ → List ℕ
hex_digits [] = []
hex_digits (b ∷ bs) = hex_of b ++ hex_digits bs

-- whether a text has room for the digits of the bytes
abbrev pub fits : List ℕ → List ℕ → Bool
fits bs text = leb (2 * length bs) (length text)

-- how many digits are written
abbrev pub written : List ℕ → List ℕ → ℕ
written bs text = cond (fits bs text) (2 * length bs) 0

-- the text after them
abbrev pub text_after : List ℕ → List ℕ → List ℕ
text_after bs text = cond (fits bs text) (hex_digits bs ++ drop (2 * length bs) text) text
