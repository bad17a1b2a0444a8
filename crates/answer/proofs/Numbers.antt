-- An answer's number tells which answer it is: the table, read at the number of an answer, gives that answer back. Assumes nothing.
use Prim.Native.Nat.{ℕ, zero, suc, ◌<◌}
use Rattle.std.specs.Prelude.{⊤, Result, Ok, Err}
use mathlib.Core.Path.{◌≡◌, refl, sym, ap, ◌∙◌}
use mathlib.Core.List.{List, [], ◌∷◌}
use native.Mathlib.Omega.{arith}
use lib.Dec.{lit<}
use Rattle.answer.specs.Answers.{refusal, number}
use Rattle.answer.specs.declared.Refusal.{Refusal}
use Rattle.answer.specs.declared.Refusal.TheVariants.{AlgorithmInvalid, VersionInvalid, ThreadsTooFew, ThreadsTooMany, MemoryTooSmall, MemoryTooMuch, TimeTooSmall, TagTooShort, AdTooLong, SecretTooLong, OutputTooShort, OutputTooLong, PwdTooLong, SaltTooShort, SaltTooLong, MemoryTooLittle, Inconsistent, Complete, NoSuchLane, LaneFinished, NotComplete}

-- the answer that stands at a place of the table
abbrev at : List (Result ⊤ Refusal) → ℕ → Result ⊤ Refusal
at [] n = Ok tt
at (a ∷ rest) zero = a
at (a ∷ rest) (suc n) = at rest n

abbrev table : List (Result ⊤ Refusal)
table =
    Ok tt ∷ Err AlgorithmInvalid ∷ Err VersionInvalid ∷ Err ThreadsTooFew ∷ Err ThreadsTooMany ∷ Err MemoryTooSmall ∷ Err MemoryTooMuch ∷ Err TimeTooSmall ∷ Err TagTooShort ∷ Err AdTooLong ∷ Err SecretTooLong ∷ Err OutputTooShort ∷ Err OutputTooLong ∷ Err PwdTooLong ∷ Err SaltTooShort ∷ Err SaltTooLong ∷ Err MemoryTooLittle ∷ Err Inconsistent ∷ Err Complete ∷ Err NoSuchLane ∷ Err LaneFinished ∷ Err NotComplete ∷ []

read_back : (a : Result ⊤ Refusal) → at table (number a) ≡ a
read_back (Ok x) = refl
read_back (Err AlgorithmInvalid) = refl
read_back (Err VersionInvalid) = refl
read_back (Err ThreadsTooFew) = refl
read_back (Err ThreadsTooMany) = refl
read_back (Err MemoryTooSmall) = refl
read_back (Err MemoryTooMuch) = refl
read_back (Err TimeTooSmall) = refl
read_back (Err TagTooShort) = refl
read_back (Err AdTooLong) = refl
read_back (Err SecretTooLong) = refl
read_back (Err OutputTooShort) = refl
read_back (Err OutputTooLong) = refl
read_back (Err PwdTooLong) = refl
read_back (Err SaltTooShort) = refl
read_back (Err SaltTooLong) = refl
read_back (Err MemoryTooLittle) = refl
read_back (Err Inconsistent) = refl
read_back (Err Complete) = refl
read_back (Err NoSuchLane) = refl
read_back (Err LaneFinished) = refl
read_back (Err NotComplete) = refl

-- the refusal that an answer is; any, where it accepts
abbrev refused_by : Result ⊤ Refusal → Refusal
refused_by (Ok x) = NotComplete
refused_by (Err r) = r

pub refusals_differ : {r s : Refusal} → refusal r ≡ refusal s → r ≡ s
refusals_differ {r} {s} e = ap refused_by (sym (read_back (Err r)) ∙ ap (at table) e ∙ read_back (Err s))

-- two digits are enough to print a number
pub number_lt : (a : Result ⊤ Refusal) → number a < 22
number_lt (Ok x) = lit< tt
number_lt (Err AlgorithmInvalid) = lit< tt
number_lt (Err VersionInvalid) = lit< tt
number_lt (Err ThreadsTooFew) = lit< tt
number_lt (Err ThreadsTooMany) = lit< tt
number_lt (Err MemoryTooSmall) = lit< tt
number_lt (Err MemoryTooMuch) = lit< tt
number_lt (Err TimeTooSmall) = lit< tt
number_lt (Err TagTooShort) = lit< tt
number_lt (Err AdTooLong) = lit< tt
number_lt (Err SecretTooLong) = lit< tt
number_lt (Err OutputTooShort) = lit< tt
number_lt (Err OutputTooLong) = lit< tt
number_lt (Err PwdTooLong) = lit< tt
number_lt (Err SaltTooShort) = lit< tt
number_lt (Err SaltTooLong) = lit< tt
number_lt (Err MemoryTooLittle) = lit< tt
number_lt (Err Inconsistent) = lit< tt
number_lt (Err Complete) = lit< tt
number_lt (Err NoSuchLane) = lit< tt
number_lt (Err LaneFinished) = lit< tt
number_lt (Err NotComplete) = lit< tt

-- a refusal's number is not 0
pub refused : (r : Refusal) → refusal r ≡ 0 → ⊥
refused AlgorithmInvalid e = omega (arith, e)
refused VersionInvalid e = omega (arith, e)
refused ThreadsTooFew e = omega (arith, e)
refused ThreadsTooMany e = omega (arith, e)
refused MemoryTooSmall e = omega (arith, e)
refused MemoryTooMuch e = omega (arith, e)
refused TimeTooSmall e = omega (arith, e)
refused TagTooShort e = omega (arith, e)
refused AdTooLong e = omega (arith, e)
refused SecretTooLong e = omega (arith, e)
refused OutputTooShort e = omega (arith, e)
refused OutputTooLong e = omega (arith, e)
refused PwdTooLong e = omega (arith, e)
refused SaltTooShort e = omega (arith, e)
refused SaltTooLong e = omega (arith, e)
refused MemoryTooLittle e = omega (arith, e)
refused Inconsistent e = omega (arith, e)
refused Complete e = omega (arith, e)
refused NoSuchLane e = omega (arith, e)
refused LaneFinished e = omega (arith, e)
refused NotComplete e = omega (arith, e)

-- two answers of one number are equal, if what they accept is
pub same_answer : {T : Type 0} (a b : Result T Refusal) → number a ≡ number b
    → ((x y : T) → a ≡ Ok x → b ≡ Ok y → x ≡ y) → a ≡ b
same_answer (Ok x) (Ok y) e f = ap Ok (f x y refl refl)
same_answer (Ok x) (Err s) e f = absurd (refused s (sym e))
same_answer (Err r) (Ok y) e f = absurd (refused r e)
same_answer (Err r) (Err s) e f = ap Err (refusals_differ e)

pub injective : {a b : Result ⊤ Refusal} → number a ≡ number b → a ≡ b
injective {a} {b} e = same_answer a b e (λ x y _ _. refl)
