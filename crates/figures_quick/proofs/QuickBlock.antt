-- The compression, so that it can be computed quickly: every line of registers is permuted once, and the XOR is an argument.
-- By the definition each of a block's 128 words names the permutation of its line. Assumes nothing.
use mathlib.Core.List.{List, [], ◌∷◌}
use mathlib.Core.Path.{◌≡◌, refl, ap, ◌∙◌, fun_ext}
use Prim.Native.Nat.{ℕ, ◌+◌, ◌*◌, ◌/◌, ◌%◌}
use lib.Bits.{bit_xor}
use lib.ListN.{get_or, set}
use Rattle.word.specs.Table.{table}
use Rattle.word.specs.Word.{rotr}
use Rattle.block.specs.Block.{block_words, register_words, row_words, R1, R2, R3, R4, row, column, multiply_add, quarter, quarter_at, permutation, rows, columns, xors, compress}
use Rattle.figures_quick.proofs.Xor.{quick, quick_is}

-- P of each of the eight lines
abbrev pub lines : (ℕ → List ℕ) → List (List ℕ)
lines f = f 0 ∷ f 1 ∷ f 2 ∷ f 3 ∷ f 4 ∷ f 5 ∷ f 6 ∷ f 7 ∷ []

unfoldable pub rows_of : (List ℕ → List ℕ) → List ℕ → List ℕ
rows_of f q =
    let p = lines (λ i. f (row i q)) in
    table (λ n. get_or (get_or p (n / row_words) []) (n % row_words) 0) block_words

rows_of_lem : (q : List ℕ) → rows q ≡ rows_of permutation q
unfolding rows rows_of table
rows_of_lem q = refl

unfoldable pub columns_of : (List ℕ → List ℕ) → List ℕ → List ℕ
columns_of f q =
    let p = lines (λ i. f (column i q)) in
    table (λ n. get_or (get_or p (n % row_words / register_words) []) (register_words * (n / row_words) + n % register_words) 0) block_words

columns_of_lem : (q : List ℕ) → columns q ≡ columns_of permutation q
unfolding columns columns_of table
columns_of_lem q = refl

module _ (x : ℕ → ℕ → ℕ) where
  unfoldable pub quarter_by : ℕ → ℕ → ℕ → ℕ → List ℕ
  quarter_by a b c d =
      let a1 = multiply_add a b in
      let d1 = rotr R1 (x d a1) in
      let c1 = multiply_add c d1 in
      let b1 = rotr R2 (x b c1) in
      let a2 = multiply_add a1 b1 in
      let d2 = rotr R3 (x d1 a2) in
      let c2 = multiply_add c1 d2 in
      let b2 = rotr R4 (x b1 c2) in
      a2 ∷ b2 ∷ c2 ∷ d2 ∷ []

  unfoldable pub quarter_at_by : List ℕ → ℕ → ℕ → ℕ → ℕ → List ℕ
  quarter_at_by v a b c d =
      let q = quarter_by (get_or v a 0) (get_or v b 0) (get_or v c 0) (get_or v d 0) in
      set (set (set (set v a (get_or q 0 0)) b (get_or q 1 0)) c (get_or q 2 0)) d (get_or q 3 0)

  unfoldable pub permutation_by : List ℕ → List ℕ
  permutation_by v =
      let v1 = quarter_at_by v 0 4 8 12 in
      let v2 = quarter_at_by v1 1 5 9 13 in
      let v3 = quarter_at_by v2 2 6 10 14 in
      let v4 = quarter_at_by v3 3 7 11 15 in
      let v5 = quarter_at_by v4 0 5 10 15 in
      let v6 = quarter_at_by v5 1 6 11 12 in
      let v7 = quarter_at_by v6 2 7 8 13 in
      quarter_at_by v7 3 4 9 14

  unfoldable pub xors_by : List ℕ → List ℕ → List ℕ
  xors_by a b = table (λ n. x (get_or a n 0) (get_or b n 0)) block_words

  unfoldable pub compress_by : List ℕ → List ℕ → List ℕ
  compress_by a b = let r = xors_by a b in xors_by (columns_of permutation_by (rows_of permutation_by r)) r

quarter_by_lem : (a b c d : ℕ) → quarter a b c d ≡ quarter_by bit_xor a b c d
unfolding quarter quarter_by
quarter_by_lem a b c d = refl

quarter_at_by_lem : (v : List ℕ) (a b c d : ℕ) → quarter_at v a b c d ≡ quarter_at_by bit_xor v a b c d
unfolding quarter_at quarter_at_by
quarter_at_by_lem v a b c d = simp quarter_by_lem

permutation_by_lem : (v : List ℕ) → permutation v ≡ permutation_by bit_xor v
unfolding permutation permutation_by
permutation_by_lem v = simp quarter_at_by_lem

xors_by_lem : (a b : List ℕ) → xors a b ≡ xors_by bit_xor a b
unfolding xors xors_by
xors_by_lem a b = refl

compress_by_lem : (a b : List ℕ) → compress a b ≡ compress_by bit_xor a b
unfolding compress compress_by
compress_by_lem a b =
    ap (λ (r : List ℕ). xors (columns (rows r)) r) (xors_by_lem a b)
    ∙ xors_by_lem _ _
    ∙ ap (λ (z : List ℕ). xors_by bit_xor z (xors_by bit_xor a b))
    (columns_of_lem _ ∙ ap (columns_of permutation) (rows_of_lem _)
    ∙ ap (λ (f : List ℕ → List ℕ). columns_of f (rows_of f (xors_by bit_xor a b))) (fun_ext permutation_by_lem))

unfoldable pub compress_quick : List ℕ → List ℕ → List ℕ
compress_quick a b = compress_by quick a b

pub compress_quick_lem : (a b : List ℕ) → compress a b ≡ compress_quick a b
unfolding compress_quick
compress_quick_lem a b = compress_by_lem a b ∙ ap (λ (x : ℕ → ℕ → ℕ). compress_by x a b) quick_is

pub xors_quick : (a b : List ℕ) → xors a b ≡ xors_by quick a b
xors_quick a b = xors_by_lem a b ∙ ap (λ (x : ℕ → ℕ → ℕ). xors_by x a b) quick_is
