-- Two outcomes that meet a promise are equal. Assumes nothing.
use Prim.Native.Nat.{ℕ}
use mathlib.Core.List.{List}
use mathlib.Core.Path.{◌≡◌, sym, ◌∙◌}
use Rattle.case_line.specs.Promises.{ParsePromise, AnswerLinePromise}
use Rattle.case_line.specs.declared.sections.BadInput.{BadInput}
use Rattle.case_line.specs.declared.sections.Case.{Case}
use Rattle.std.specs.Prelude.{Result}

pub parse_settled : {input : List ℕ} {r r' : Result Case BadInput} → ParsePromise input r → ParsePromise input r' → r ≡ r'
parse_settled p p' = p.result ∙ sym p'.result

pub answer_line_settled : {input words line : List ℕ} {r r' : ℕ} {words₁ words₂ line₁ line₂ : List ℕ}
    → AnswerLinePromise input words line r words₁ line₁ → AnswerLinePromise input words line r' words₂ line₂
    → (r ≡ r') × (words₁ ≡ words₂) × (line₁ ≡ line₂)
answer_line_settled p p' = (p.count ∙ sym p'.count, p.memory ∙ sym p'.memory, p.text ∙ sym p'.text)
