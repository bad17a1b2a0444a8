-- A tag length that rows 11 and 12 pass is one that 4 bytes count: the configured length is a number of 32 bits, which a function that
-- holds it knows from its type. Assumes nothing.
use Rattle.std.specs.Prelude.{Option, Some, None}
use Prim.Native.Nat.{ℕ, ◌^◌, ◌≤◌, ◌<◌}
use mathlib.Core.List.{◌++◌}
use mathlib.Core.Path.{◌≡◌, refl}
use native.Mathlib.Omega.{arith}
use Rattle.answer.specs.Answers.{first}
use Rattle.answer.proofs.Answered.{between}
use Rattle.answer.proofs.Rows.{Passed, passed, accepted, passed_front, passed_back}
use Rattle.params.specs.Limits.{rows_from}
use Rattle.params.specs.declared.Params.{Params}
use Rattle.word.specs.Word.{max_length}
use Rattle.checks.specs.Rows.{least_tag, most_tag, extra_rows, output_rows, input_rows, start_rows}
use Rattle.checks.specs.declared.Rule.{Rule}

-- a configured length that is a number of 32 bits
pub held_fits : (g : Option ℕ) → ((k : ℕ) → g ≡ Some k → k < 2 ^ 32) → most_tag g ≤ max_length
held_fits None h = omega arith
held_fits (Some k) h = omega (arith, h k refl)

pub output_fits : (g : Option ℕ) (n : ℕ) → most_tag g ≤ max_length → first (output_rows g n) ≡ 0 → n ≤ max_length
output_fits g n h e = omega (arith, (between (least_tag g) (most_tag g) n e).1)

module _ (rule : Rule) (unit : ℕ) (P : Params) (tag password salt secret ad lent : ℕ) where
  pub start_fits : most_tag P.configured ≤ max_length → first (start_rows rule unit P tag password salt secret ad lent) ≡ 0 → tag ≤ max_length
  start_fits h e =
      let extra = extra_rows secret ad in
      let output = output_rows P.configured tag in
      let input = input_rows rule.salt unit P password salt lent in
      let numbers = rows_from rule.oldest P in
      let all : Passed (numbers ++ extra ++ output ++ input) = passed (numbers ++ extra ++ output ++ input) tt e in
      output_fits P.configured tag h (accepted output (passed_back (numbers ++ extra) output (passed_front (numbers ++ extra ++ output) input all)))
