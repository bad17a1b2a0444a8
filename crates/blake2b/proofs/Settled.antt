-- Two outcomes that meet a promise are equal, the output included. Assumes nothing.
use Prim.Native.Nat.{ℕ}
use mathlib.Core.List.{List}
use mathlib.Core.Path.{◌≡◌, sym, ◌∙◌}
use Rattle.std.specs.Prelude.{⊤, Result}
use Rattle.answer.specs.declared.Refusal.{Refusal}
use Rattle.answer.proofs.Numbers.{injective}
use Rattle.blake2b.specs.declared.Engine.{Engine}
use Rattle.blake2b.specs.Promises.{InitialPromise, BeginPromise, FeedPromise, EndPromise, HashPromise}

pub initial_settled : {n : ℕ} {r r' : List ℕ} → InitialPromise n r → InitialPromise n r' → r ≡ r'
initial_settled p p' = p.result ∙ sym p'.result

pub begin_settled : {h₀ : List ℕ} {r r' : Engine} → BeginPromise h₀ r → BeginPromise h₀ r' → r ≡ r'
begin_settled p p' = p.result ∙ sym p'.result

pub feed_settled : {s r r' : Engine} {piece : List ℕ} → FeedPromise s piece r → FeedPromise s piece r' → r ≡ r'
feed_settled p p' = p.result ∙ sym p'.result

pub end_settled : {s : Engine} {r r' : List ℕ} → EndPromise s r → EndPromise s r' → r ≡ r'
end_settled p p' = p.result ∙ sym p'.result

pub hash_settled : {input out x x' : List ℕ} {r r' : Result ⊤ Refusal} → HashPromise input out r x → HashPromise input out r' x' → (r ≡ r') × (x ≡ x')
hash_settled p p' = (injective (p.answer ∙ sym p'.answer), p.output ∙ sym p'.output)
