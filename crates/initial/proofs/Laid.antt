-- Pieces laid one after another: what was laid so far stands at the front. Assumes nothing.
use mathlib.Core.List.{List, ◌++◌}
use mathlib.Core.Path.{◌≡◌, refl, sym, ap, ◌∙◌}
use Prim.Native.Nat.{ℕ, ◌+◌, ◌≤◌}
use native.Mathlib.Omega.{arith}
use lib.ListN.{length, take, drop, length-append, length-take, length-drop}
use lib.Seq.{take_at, take_all, length-take-le}

-- a piece p laid at a place of o
module _ (o p : List ℕ) (at : ℕ) {o' : List ℕ} (fits : at + length p ≤ length o) (lay : o' ≡ take at o ++ p ++ drop (at + length p) o) where
  pub laid_length : length o' ≡ length o
  laid_length = ap length lay ∙ simp (length-append, length-take, length-drop) (omega arith)

  -- where a stood before it
  pub laid : {a : List ℕ} → take at o ≡ a → take (at + length p) o' ≡ a ++ p
  laid e =
      ap (take (at + length p)) lay
      ∙ take_at (take at o ++ p) (drop (at + length p) o) (at + length p)
      (length-append (take at o) p ∙ ap (λ (n : ℕ). n + length p) (length-take-le at o (omega arith)))
      ∙ ap (λ (l : List ℕ). l ++ p) e

-- three pieces that fill o
pub three_laid : (o a b c : List ℕ) (m n : ℕ) {o₁ o₂ o₃ : List ℕ} → length a ≡ m → m + length b ≡ n → n + length c ≡ length o
    → o₁ ≡ take 0 o ++ a ++ drop (0 + length a) o → o₂ ≡ take m o₁ ++ b ++ drop (m + length b) o₁ → o₃ ≡ take n o₂ ++ c ++ drop (n + length c) o₂
    → o₃ ≡ a ++ b ++ c
three_laid o a b c m n {o₁} {o₂} {o₃} la lb lc e₁ e₂ e₃ =
    let l₁ : length o₁ ≡ length o = laid_length o a 0 (omega arith) e₁ in
    let l₂ : length o₂ ≡ length o₁ = laid_length o₁ b m (omega arith) e₂ in
    let l₃ : length o₃ ≡ length o₂ = laid_length o₂ c n (omega arith) e₃ in
    let at₁ : m ≡ 0 + length a = omega arith in
    let t₁ : take m o₁ ≡ a = ap (λ (k : ℕ). take k o₁) at₁ ∙ laid o a 0 (omega arith) e₁ refl in
    let t₂ : take n o₂ ≡ a ++ b = ap (λ (k : ℕ). take k o₂) (sym lb) ∙ laid o₁ b m (omega arith) e₂ t₁ in
    sym (take_all (n + length c) o₃ (omega arith)) ∙ laid o₂ c n (omega arith) e₃ t₂
