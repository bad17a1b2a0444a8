-- The quarter step from the equations of its words, the permutation from those of its quarter steps, and the compression from those of its
-- passes. Assumes nothing.
use Rattle.std.proofs.Common.{◌≡◌, ℕ, List, [], ◌∷◌, length, get_or, sym, refl, ap, ◌∙◌, subst}
use lib.Bits.{bit_xor}
use Rattle.word.specs.Table.{table}
use Rattle.word.specs.Word.{rotr}
use Rattle.word.proofs.Table.{table_self}
use Rattle.block.specs.Block.{row_words, R1, R2, R3, R4, multiply_add, quarter, quarter_at, permutation, rows, columns, xors, compress}

-- the quarter step, word after word
pub quartered : (a b c d : ℕ) {a1 d1 c1 b1 a2 d2 c2 b2 : ℕ}
    → a1 ≡ multiply_add a b → d1 ≡ rotr R1 (bit_xor d a1) → c1 ≡ multiply_add c d1 → b1 ≡ rotr R2 (bit_xor b c1)
    → a2 ≡ multiply_add a1 b1 → d2 ≡ rotr R3 (bit_xor d1 a2) → c2 ≡ multiply_add c1 d2 → b2 ≡ rotr R4 (bit_xor b1 c2)
    → a2 ∷ b2 ∷ c2 ∷ d2 ∷ [] ≡ quarter a b c d
unfolding quarter
quartered a b c d e₁ e₂ e₃ e₄ e₅ e₆ e₇ e₈ = cc

-- the words of the four diagonals where they stand, four rows of four
abbrev pub rejoined : List ℕ → List ℕ → List ℕ → List ℕ → List ℕ
rejoined d0 d1 d2 d3 =
    get_or d0 0 0 ∷ get_or d1 0 0 ∷ get_or d2 0 0 ∷ get_or d3 0 0
    ∷ get_or d3 1 0 ∷ get_or d0 1 0 ∷ get_or d1 1 0 ∷ get_or d2 1 0
    ∷ get_or d2 2 0 ∷ get_or d3 2 0 ∷ get_or d0 2 0 ∷ get_or d1 2 0
    ∷ get_or d1 3 0 ∷ get_or d2 3 0 ∷ get_or d3 3 0 ∷ get_or d0 3 0
    ∷ []

-- the words of the permutation, each by the steps on columns and on diagonals that make it
unfoldable worked : (ℕ → ℕ) → List ℕ
worked w =
    let c0 = quarter (w 0) (w 4) (w 8) (w 12) in
    let c1 = quarter (w 1) (w 5) (w 9) (w 13) in
    let c2 = quarter (w 2) (w 6) (w 10) (w 14) in
    let c3 = quarter (w 3) (w 7) (w 11) (w 15) in
    let d0 = quarter (get_or c0 0 0) (get_or c1 1 0) (get_or c2 2 0) (get_or c3 3 0) in
    let d1 = quarter (get_or c1 0 0) (get_or c2 1 0) (get_or c3 2 0) (get_or c0 3 0) in
    let d2 = quarter (get_or c2 0 0) (get_or c3 1 0) (get_or c0 2 0) (get_or c1 3 0) in
    let d3 = quarter (get_or c3 0 0) (get_or c0 1 0) (get_or c1 2 0) (get_or c2 3 0) in
    rejoined d0 d1 d2 d3

of_table : (w : ℕ → ℕ) → permutation (table w row_words) ≡ worked w
unfolding table permutation quarter_at worked
of_table w = refl

of_words : (v : List ℕ) → length v ≡ row_words → worked (λ j. get_or v j 0) ≡ permutation v
of_words v e =
    sym (of_table (λ j. get_or v j 0))
    ∙ ap permutation (subst (λ (n : ℕ). table (λ j. get_or v j 0) n ≡ v) e (table_self v))

-- four steps on columns and four on diagonals, each from the words before it, are the permutation
pub eight_steps : (v : List ℕ) → length v ≡ row_words → {c0 c1 c2 c3 d0 d1 d2 d3 : List ℕ}
    → c0 ≡ quarter (get_or v 0 0) (get_or v 4 0) (get_or v 8 0) (get_or v 12 0)
    → c1 ≡ quarter (get_or v 1 0) (get_or v 5 0) (get_or v 9 0) (get_or v 13 0)
    → c2 ≡ quarter (get_or v 2 0) (get_or v 6 0) (get_or v 10 0) (get_or v 14 0)
    → c3 ≡ quarter (get_or v 3 0) (get_or v 7 0) (get_or v 11 0) (get_or v 15 0)
    → d0 ≡ quarter (get_or c0 0 0) (get_or c1 1 0) (get_or c2 2 0) (get_or c3 3 0)
    → d1 ≡ quarter (get_or c1 0 0) (get_or c2 1 0) (get_or c3 2 0) (get_or c0 3 0)
    → d2 ≡ quarter (get_or c2 0 0) (get_or c3 1 0) (get_or c0 2 0) (get_or c1 3 0)
    → d3 ≡ quarter (get_or c3 0 0) (get_or c0 1 0) (get_or c1 2 0) (get_or c2 3 0)
    → rejoined d0 d1 d2 d3 ≡ permutation v
unfolding worked
eight_steps v e h₀ h₁ h₂ h₃ h₄ h₅ h₆ h₇ = cc (of_words v e)

-- the compression from its passes, the last one first
pub passed : (x y : List ℕ) {r q z w : List ℕ} → w ≡ xors z r → z ≡ columns q → q ≡ rows r → r ≡ xors x y → w ≡ compress x y
unfolding compress
passed x y e₄ e₃ e₂ e₁ = cc
