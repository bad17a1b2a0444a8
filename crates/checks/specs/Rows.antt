-- Document 01, "Answers": the rows of the calls, over a rule. Lengths are numbers of bytes, or of words for the memory.
use Rattle.std.specs.Prelude.{ℕ, ◌*◌, Bool, List, [], ◌∷◌, ◌++◌, ltb, Option, None, Some}
use Rattle.answer.specs.Answers.{Row, ◌when◌, length_rows}
use Rattle.params.specs.Limits.{v10, rows_from, blocks, min_tag}
use Rattle.params.specs.declared.Params.{Params}
use Rattle.word.specs.Word.{max_length}
use Rattle.checks.specs.declared.Rule.{Rule}

-- the most associated data, and the least salt
abbrev pub max_data : ℕ
max_data = 32

abbrev pub min_salt : ℕ
min_salt = 8

-- the least and the most bytes of a tag: the configured length, or 4 to 2^32 - 1 with none
abbrev pub least_tag : Option ℕ → ℕ
least_tag None = min_tag
least_tag (Some n) = n

abbrev pub most_tag : Option ℕ → ℕ
most_tag None = max_length
most_tag (Some n) = n

-- 9: associated data over 32 bytes
abbrev pub ad_too_long : ℕ → Row
ad_too_long ad = 9 when ltb max_data ad

-- 10: SecretTooLong
abbrev pub secret_too_long : ℕ → Row
secret_too_long secret = 10 when ltb max_length secret

-- 13: PwdTooLong
abbrev pub pwd_too_long : ℕ → Row
pwd_too_long password = 13 when ltb max_length password

-- 14: SaltTooShort
abbrev pub salt_too_short : ℕ → ℕ → Row
salt_too_short least salt = 14 when ltb salt least

-- 15: SaltTooLong
abbrev pub salt_too_long : ℕ → Row
salt_too_long salt = 15 when ltb max_length salt

-- 16: MemoryTooLittle: lent words under 128 · m'. The unit is how many a block has of what is lent: 128 words
abbrev pub too_little : ℕ → Params → ℕ → Bool
too_little unit P lent = ltb lent (unit * blocks P)

abbrev pub memory_too_little : ℕ → Params → ℕ → Row
memory_too_little unit P lent = 16 when too_little unit P lent

-- 11 and 12
abbrev pub output_rows : Option ℕ → ℕ → List Row
output_rows configured out = length_rows (least_tag configured) (most_tag configured) out

-- 9 and 10
abbrev pub extra_rows : ℕ → ℕ → List Row
extra_rows secret ad = ad_too_long ad ∷ secret_too_long secret ∷ []

-- 13 to 16
abbrev pub input_rows : ℕ → ℕ → Params → ℕ → ℕ → ℕ → List Row
input_rows least unit P password salt lent =
    pwd_too_long password ∷ salt_too_short least salt ∷ salt_too_long salt ∷ memory_too_little unit P lent ∷ []

-- document 01's own rule: version 16 or 19, a salt of 8 bytes or more
abbrev pub plain : Rule
plain = record { oldest = v10; salt = min_salt }

-- start and the whole hash check 1 to 16 in that order
abbrev pub start_rows : Rule → ℕ → Params → ℕ → ℕ → ℕ → ℕ → ℕ → ℕ → List Row
start_rows rule unit P tag password salt secret ad lent =
    rows_from rule.oldest P
    ++ extra_rows secret ad
    ++ output_rows P.configured tag
    ++ input_rows rule.salt unit P password salt lent

-- fill_memory does the same without 11 and 12
abbrev pub fill_rows : Rule → ℕ → Params → ℕ → ℕ → ℕ → ℕ → ℕ → List Row
fill_rows rule unit P password salt secret ad lent =
    rows_from rule.oldest P ++ extra_rows secret ad ++ input_rows rule.salt unit P password salt lent
