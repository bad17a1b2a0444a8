-- A loop over memory.
use Rattle.std.specs.Prelude.{ℕ, zero, suc, ◌+◌, List}

-- w after f at i, i + 1, ..: n turns
abbrev pub loop : ℕ → ℕ → (ℕ → List ℕ → List ℕ) → List ℕ → List ℕ
loop zero i f w = w
loop (suc n) i f w = loop n (i + 1) f (f i w)
