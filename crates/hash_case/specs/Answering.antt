-- What the program does with its input and its output.
use Rattle.std.specs.Prelude.{ℕ, ◌+◌, ◌*◌, ◌≤◌, List, length, replicate}
use Rattle.std.specs.declared.option.Option.{Option}
use Rattle.std.specs.Io.KnownBytes.{Consumes, Appends}
use Rattle.case_line.specs.Answers.{answer_text}
use Rattle.case_line.specs.Cases.{longest, parsed}

-- the words that the program lends: 56 blocks of 128 zeros
abbrev pub lent : List ℕ
lent = replicate (56 * 128) 0

-- bytes were taken from the input, at most one more than the longest good case has, and the line that answers them went to the output
abbrev pub Answers : Option (List ℕ) → Option (List ℕ) → Option (List ℕ) → Option (List ℕ) → Type 0
Answers input input' output output' =
    (bytes : List ℕ) × (length bytes ≤ longest + 1) × Consumes input input' bytes × Appends output output' (answer_text bytes lent (parsed bytes))
