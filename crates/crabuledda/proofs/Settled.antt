-- Two outcomes that meet a promise are equal, lent buffers included. Assumes nothing.
use Prim.Native.Nat.{ℕ}
use mathlib.Core.List.{List}
use mathlib.Core.Path.{◌≡◌, sym, ◌∙◌}
use Rattle.crabuledda.specs.Promises.{CrabuleddaHashPromise, CrabuleddaFillMemoryPromise, CrabuleddaLongPromise}
use Rattle.params.specs.declared.Params.{Params}

pub hash_settled : {P : Params} {password salt secret ad w out : List ℕ} {r r' : ℕ} {w₁ w₂ out₁ out₂ : List ℕ}
    → CrabuleddaHashPromise P password salt secret ad w out r w₁ out₁ → CrabuleddaHashPromise P password salt secret ad w out r' w₂ out₂
    → (r ≡ r') × (w₁ ≡ w₂) × (out₁ ≡ out₂)
hash_settled p p' = (p.answer ∙ sym p'.answer, p.memory ∙ sym p'.memory, p.output ∙ sym p'.output)

pub fill_memory_settled : {P : Params} {password salt secret ad w : List ℕ} {r r' : ℕ} {w₁ w₂ : List ℕ}
    → CrabuleddaFillMemoryPromise P password salt secret ad w r w₁ → CrabuleddaFillMemoryPromise P password salt secret ad w r' w₂
    → (r ≡ r') × (w₁ ≡ w₂)
fill_memory_settled p p' = (p.answer ∙ sym p'.answer, p.memory ∙ sym p'.memory)

pub long_settled : {input out : List ℕ} {r r' : ℕ} {out₁ out₂ : List ℕ}
    → CrabuleddaLongPromise input out r out₁ → CrabuleddaLongPromise input out r' out₂ → (r ≡ r') × (out₁ ≡ out₂)
long_settled p p' = (p.answer ∙ sym p'.answer, p.output ∙ sym p'.output)
