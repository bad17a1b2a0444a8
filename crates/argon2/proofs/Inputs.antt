-- What accepted inputs are: parameters in a memory that has their blocks, and a tag of some bytes. Assumes nothing.
use Prim.Native.Nat.{ℕ, ◌*◌, ◌≤◌}
use mathlib.Core.Bool.{false}
use mathlib.Core.List.{◌++◌}
use mathlib.Core.Path.{◌≡◌}
use native.Mathlib.Omega.{arith}
use lib.Dec.{ltb}
use borrow.Author.Tests.{ltb-false}
use Rattle.answer.specs.Answers.{first}
use Rattle.answer.proofs.Rows.{Passed, passed, accepted, passed_front, passed_back}
use Rattle.block.specs.Block.{block_words}
use Rattle.params.specs.Limits.{rows, blocks, min_tag, under_min_tag}
use Rattle.std.specs.Prelude.{Option, None, Some}
use Rattle.params.specs.declared.Params.{Params}
use Rattle.memory.specs.Lent.{Lent}
use Rattle.checks.specs.Rows.{min_salt, plain, least_tag, output_rows, extra_rows, input_rows, start_rows, fill_rows}

-- a length that rows 8 and 11 accept is not 0
some_bytes : (g : Option ℕ) (n : ℕ) → under_min_tag g ≡ false → ltb n (least_tag g) ≡ false → 1 ≤ n
some_bytes None n a b = omega (arith, ltb-false n min_tag b)
some_bytes (Some k) n a b = omega (arith, ltb-false k min_tag a, ltb-false n k b)

pub tag_some : (P : Params) (n : ℕ) → first (rows P) ≡ 0 → first (output_rows P.configured n) ≡ 0 → 1 ≤ n
tag_some P n a b =
    some_bytes P.configured n (passed (rows P) tt a).1.1.1.1.1.1.1.0 (passed (output_rows P.configured n) tt b).0

module _ (P : Params) (password salt secret ad words : ℕ) where
  lent : Passed (rows P) → Passed (input_rows min_salt block_words P password salt words) → Lent P words
  lent numbers inputs =
      record { accepted = accepted (rows P) numbers; enough = ltb-false words (block_words * blocks P) inputs.1.1.1.0 }

  -- start and the whole hash, for a tag of n bytes
  module _ (n : ℕ) (h : first (start_rows plain block_words P n password salt secret ad words) ≡ 0) where
    all : Passed (start_rows plain block_words P n password salt secret ad words)
    all = passed (start_rows plain block_words P n password salt secret ad words) tt h

    after : Passed (extra_rows secret ad ++ output_rows P.configured n ++ input_rows min_salt block_words P password salt words)
    after = passed_back (rows P) (extra_rows secret ad ++ output_rows P.configured n ++ input_rows min_salt block_words P password salt words) all

    numbers : Passed (rows P)
    numbers = passed_front (rows P) (extra_rows secret ad ++ output_rows P.configured n ++ input_rows min_salt block_words P password salt words) all

    inputs : Passed (input_rows min_salt block_words P password salt words)
    inputs = passed_back (extra_rows secret ad ++ output_rows P.configured n) (input_rows min_salt block_words P password salt words) after

    pub start_lent : Lent P words
    start_lent = lent numbers inputs

    pub start_some : 1 ≤ n
    start_some = some_bytes P.configured n numbers.1.1.1.1.1.1.1.0 after.1.1.0

  -- fill_memory
  module _ (h : first (fill_rows plain block_words P password salt secret ad words) ≡ 0) where
    fill_all_lem : Passed (fill_rows plain block_words P password salt secret ad words)
    fill_all_lem = passed (fill_rows plain block_words P password salt secret ad words) tt h

    fill_after : Passed (extra_rows secret ad ++ input_rows min_salt block_words P password salt words)
    fill_after = passed_back (rows P) (extra_rows secret ad ++ input_rows min_salt block_words P password salt words) fill_all_lem

    pub fill_lent : Lent P words
    fill_lent = lent (passed_front (rows P) (extra_rows secret ad ++ input_rows min_salt block_words P password salt words) fill_all_lem) fill_after.1.1
