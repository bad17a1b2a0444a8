-- Document 01, "Domain and sizes": which blocks a memory has, and when it has all those of some parameters.
use Rattle.std.specs.Prelude.{ℕ, ◌+◌, ◌*◌, ◌/◌, ◌≤◌, Bool, not, ◌&&◌, ◌≡◌, ltb, eqb}
use Rattle.answer.specs.Answers.{first}
use Rattle.block.specs.Block.{block_words}
use Rattle.params.specs.Limits.{rows, blocks}
use Rattle.params.specs.declared.Params.{Params}
use Rattle.checks.specs.Rows.{too_little}

-- a memory of so many words has block b
abbrev pub has : ℕ → ℕ → Bool
has words b = ltb b (words / block_words)

-- rows 1 to 8 accept the parameters, and row 16 does not hold
unfoldable pub lent : Params → ℕ → Bool
lent P words = eqb (first (rows P)) 0 && not (too_little block_words P words)

-- the same as facts, for proofs
abbrev pub Has : ℕ → ℕ → Type 0
Has words b = block_words * b + block_words ≤ words

pub record Lent (P : Params) (words : ℕ) : Type 0 where
  pub accepted : first (rows P) ≡ 0
  pub enough : block_words * blocks P ≤ words
