-- Vectors by a rule, as the RFCs write them: word k of the result is f k.
use Rattle.std.specs.Prelude.{ℕ, zero, suc, List, [], ◌∷◌}

-- f 0, f 1, .., f (n - 1)
unfoldable pub table : (ℕ → ℕ) → ℕ → List ℕ
table f zero = []
table f (suc n) = f 0 ∷ table (λ k. f (suc k)) n
