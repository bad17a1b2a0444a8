-- Two outcomes that meet the promise are equal, the output included. Assumes nothing.
use mathlib.Core.List.{List}
use mathlib.Core.Path.{◌≡◌, sym, ◌∙◌}
use Prim.Native.Nat.{ℕ}
use Rattle.std.specs.Prelude.{⊤, Result}
use Rattle.answer.specs.declared.Refusal.{Refusal}
use Rattle.answer.proofs.Numbers.{injective}
use Rattle.blake2b_long.specs.Promises.{LongPromise}

pub long_settled : {input out x x' : List ℕ} {r r' : Result ⊤ Refusal} → LongPromise input out r x → LongPromise input out r' x' → (r ≡ r') × (x ≡ x')
long_settled p p' = (injective (p.answer ∙ sym p'.answer), p.output ∙ sym p'.output)
