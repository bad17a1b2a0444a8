-- Three sums that wrap are one. Assumes nothing.
use Rattle.std.proofs.Common.{◌≡◌, ℕ, ◌+◌, ◌*◌, ◌%◌, ◌^◌, sym, ap, ◌∙◌, arith}
use native.Mathlib.Nat.{add-mod}
use Rattle.word.specs.Word.{low_half}
use Rattle.block.specs.Block.{multiply_add}

wraps : (a b p : ℕ) → ((a + b) % 2 ^ 64 + (p + p) % 2 ^ 64) % 2 ^ 64 ≡ (a + b + 2 * p) % 2 ^ 64
wraps a b p =
    sym (add-mod (a + b) (p + p) (2 ^ 64))
    ∙ ap (λ (n : ℕ). (a + b + n) % 2 ^ 64) (omega arith)

-- the sum of sums, of the low halves
pub mixed : (a b : ℕ) {t u : ℕ} → t ≡ low_half a → u ≡ low_half b → ((a + b) % 2 ^ 64 + (t * u + t * u) % 2 ^ 64) % 2 ^ 64 ≡ multiply_add a b
unfolding multiply_add
mixed a b e f = rw (e, f) (wraps a b (low_half a * low_half b))
