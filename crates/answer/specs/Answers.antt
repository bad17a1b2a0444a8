-- Document 01, "Answers": the number of each answer, and the rows of a check.
use Rattle.std.specs.Prelude.{ℕ, Bool, cond, List, [], ◌∷◌, ltb, eqb, Result, Ok, Err}
use Rattle.answer.specs.declared.Refusal.{Refusal}
use Rattle.answer.specs.declared.Refusal.TheVariants.{AlgorithmInvalid, VersionInvalid, ThreadsTooFew, ThreadsTooMany, MemoryTooSmall, MemoryTooMuch, TimeTooSmall, TagTooShort, AdTooLong, SecretTooLong, OutputTooShort, OutputTooLong, PwdTooLong, SaltTooShort, SaltTooLong, MemoryTooLittle, Inconsistent, Complete, NoSuchLane, LaneFinished, NotComplete}

-- the table's first column
abbrev pub refusal : Refusal → ℕ
refusal AlgorithmInvalid = 1
refusal VersionInvalid = 2
refusal ThreadsTooFew = 3
refusal ThreadsTooMany = 4
refusal MemoryTooSmall = 5
refusal MemoryTooMuch = 6
refusal TimeTooSmall = 7
refusal TagTooShort = 8
refusal AdTooLong = 9
refusal SecretTooLong = 10
refusal OutputTooShort = 11
refusal OutputTooLong = 12
refusal PwdTooLong = 13
refusal SaltTooShort = 14
refusal SaltTooLong = 15
refusal MemoryTooLittle = 16
refusal Inconsistent = 17
refusal Complete = 18
refusal NoSuchLane = 19
refusal LaneFinished = 20
refusal NotComplete = 21

-- an answer's number: 0 where it accepts
abbrev pub number : {T : Type 0} → Result T Refusal → ℕ
number (Ok _) = 0
number (Err r) = refusal r

-- a row: a number, and the test by which it is given
infixl 20 ◌when◌
pub data Row : Type 0 where
  ◌when◌ : ℕ → Bool → Row

-- the number of the first row that holds; 0, accepted, where none does
abbrev pub first : List Row → ℕ
first [] = 0
first ((n when test) ∷ rows) = cond test n (first rows)

-- what is left by an answer of this number: the new value if it is accepted; a refusal leaves the old one
abbrev pub if_accepted : {A : Type 0} → ℕ → A → A → A
if_accepted n new old = cond (eqb n 0) new old

-- 11: OutputTooShort
abbrev pub output_too_short : ℕ → ℕ → Row
output_too_short least n = 11 when ltb n least

-- 12: OutputTooLong
abbrev pub output_too_long : ℕ → ℕ → Row
output_too_long most n = 12 when ltb most n

-- 11 and 12, for an output of n bytes that may have from least to most
abbrev pub length_rows : ℕ → ℕ → ℕ → List Row
length_rows least most n = output_too_short least n ∷ output_too_long most n ∷ []
