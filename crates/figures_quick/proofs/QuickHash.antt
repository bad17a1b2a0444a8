-- BLAKE2b and the variable hash, word for word, with the XOR as an argument; so that they can be computed with a quicker one. Assumes nothing.
use mathlib.Core.Bool.{Bool, true, false}
use mathlib.Core.List.{List, [], ◌∷◌, ◌++◌}
use mathlib.Core.Path.{◌≡◌, refl, ap, ◌∙◌}
use Prim.Native.Nat.{ℕ, zero, suc, ◌+◌, ◌*◌}
use lib.Bits.{bit_xor}
use lib.ListN.{length, take, set}
use Rattle.word.specs.Table.{table}
use Rattle.word.specs.Word.{rotr, to_le, bytes}
use Rattle.blake2b_compression.specs.Compression.{rounds, block_bytes, state_words, R1, R2, R3, R4, ◌!◌, row, sum, turn, G, round, mixed, local, fold, F, words}
use Rattle.blake2b.specs.Blake2b.{max_output, block, initial, chain, before, final, blake2b}
use Rattle.blake2b_long.specs.Long.{length_bytes, pieces, joined, long}
use Rattle.figures_quick.proofs.Xor.{quick, quick_is}

module _ (x : ℕ → ℕ → ℕ) where
  unfoldable pub turn_by : List ℕ → ℕ → ℕ → ℕ → List ℕ
  turn_by v d a n = set v d (rotr n (x (v ! d) (v ! a)))

  unfoldable pub GBy : List ℕ → ℕ → ℕ → ℕ → ℕ → ℕ → ℕ → List ℕ
  GBy v a b c d m₁ m₂ =
      let v₁ = sum v a b m₁ in
      let v₂ = turn_by v₁ d a R1 in
      let v₃ = sum v₂ c d 0 in
      let v₄ = turn_by v₃ b c R2 in
      let v₅ = sum v₄ a b m₂ in
      let v₆ = turn_by v₅ d a R3 in
      let v₇ = sum v₆ c d 0 in
      turn_by v₇ b c R4

  unfoldable pub round_by : (ℕ → ℕ) → List ℕ → List ℕ
  round_by m v =
      let v₁ = GBy v 0 4 8 12 (m 0) (m 1) in
      let v₂ = GBy v₁ 1 5 9 13 (m 2) (m 3) in
      let v₃ = GBy v₂ 2 6 10 14 (m 4) (m 5) in
      let v₄ = GBy v₃ 3 7 11 15 (m 6) (m 7) in
      let v₅ = GBy v₄ 0 5 10 15 (m 8) (m 9) in
      let v₆ = GBy v₅ 1 6 11 12 (m 10) (m 11) in
      let v₇ = GBy v₆ 2 7 8 13 (m 12) (m 13) in
      GBy v₇ 3 4 9 14 (m 14) (m 15)

  unfoldable pub mixed_by : ℕ → List ℕ → List ℕ → List ℕ
  mixed_by zero m v = v
  mixed_by (suc i) m v = round_by (λ j. m ! (row i ! j)) (mixed_by i m v)

  unfoldable pub fold_by : List ℕ → List ℕ → List ℕ
  fold_by h v = table (λ i. x (x (h ! i) (v ! i)) (v ! (i + state_words))) state_words

  unfoldable pub FBy : List ℕ → List ℕ → ℕ → Bool → List ℕ
  FBy h m t last = fold_by h (mixed_by rounds m (local h t last))

  unfoldable pub chain_by : List ℕ → ℕ → List ℕ → List ℕ
  chain_by h₀ zero msg = h₀
  chain_by h₀ (suc i) msg = FBy (chain_by h₀ i msg) (words (block i msg)) (block_bytes * suc i) false

  unfoldable pub blake2b_by : ℕ → List ℕ → List ℕ
  blake2b_by n msg =
      take n (bytes (FBy (chain_by (initial n) (before msg) msg) (words (block (before msg) msg)) (length msg) true))

  unfoldable pub joined_by : List ℕ → List ℕ → List ℕ
  joined_by m [] = []
  joined_by m (n ∷ []) = blake2b_by n m
  joined_by m (n ∷ k ∷ more) = let y = blake2b_by max_output m in take n y ++ joined_by y (k ∷ more)

  unfoldable pub long_by : ℕ → List ℕ → List ℕ
  long_by n input = joined_by (to_le length_bytes n ++ input) (pieces n)

turn_by_lem : (v : List ℕ) (d a n : ℕ) → turn v d a n ≡ turn_by bit_xor v d a n
unfolding turn turn_by
turn_by_lem v d a n = refl

G_by : (v : List ℕ) (a b c d m₁ m₂ : ℕ) → G v a b c d m₁ m₂ ≡ GBy bit_xor v a b c d m₁ m₂
unfolding G GBy
G_by v a b c d m₁ m₂ = simp turn_by_lem

round_by_lem : (m : ℕ → ℕ) (v : List ℕ) → round m v ≡ round_by bit_xor m v
unfolding round round_by
round_by_lem m v = simp G_by

mixed_by_lem : (i : ℕ) (m v : List ℕ) → mixed i m v ≡ mixed_by bit_xor i m v
unfolding mixed mixed_by
mixed_by_lem zero m v = refl
mixed_by_lem (suc i) m v = ap (round (λ j. m ! (row i ! j))) (mixed_by_lem i m v) ∙ round_by_lem (λ j. m ! (row i ! j)) (mixed_by bit_xor i m v)

fold_by_lem : (h v : List ℕ) → fold h v ≡ fold_by bit_xor h v
unfolding fold fold_by
fold_by_lem h v = refl

F_by : (h m : List ℕ) (t : ℕ) (last : Bool) → F h m t last ≡ FBy bit_xor h m t last
unfolding F FBy
F_by h m t last = ap (fold h) (mixed_by_lem rounds m (local h t last)) ∙ fold_by_lem h (mixed_by bit_xor rounds m (local h t last))

chain_by_lem : (h₀ : List ℕ) (i : ℕ) (msg : List ℕ) → chain h₀ i msg ≡ chain_by bit_xor h₀ i msg
unfolding chain chain_by
chain_by_lem h₀ zero msg = refl
chain_by_lem h₀ (suc i) msg =
    ap (λ (c : List ℕ). F c (words (block i msg)) (block_bytes * suc i) false) (chain_by_lem h₀ i msg) ∙ F_by _ _ _ _

blake2b_by_lem : (n : ℕ) (msg : List ℕ) → blake2b n msg ≡ blake2b_by bit_xor n msg
unfolding blake2b final blake2b_by
blake2b_by_lem n msg =
    ap (λ (r : List ℕ). take n (bytes r))
    (ap (λ (c : List ℕ). F c (words (block (before msg) msg)) (length msg) true) (chain_by_lem (initial n) (before msg) msg) ∙ F_by _ _ _ _)

joined_by_lem : (m ns : List ℕ) → joined m ns ≡ joined_by bit_xor m ns
unfolding joined joined_by
joined_by_lem m [] = refl
joined_by_lem m (n ∷ []) = blake2b_by_lem n m
joined_by_lem m (n ∷ k ∷ more) =
    ap (λ (y : List ℕ). take n y ++ joined y (k ∷ more)) (blake2b_by_lem max_output m)
    ∙ ap (λ (r : List ℕ). take n (blake2b_by bit_xor max_output m) ++ r) (joined_by_lem (blake2b_by bit_xor max_output m) (k ∷ more))

pub blake2b_quick : (n : ℕ) (msg : List ℕ) → blake2b n msg ≡ blake2b_by quick n msg
blake2b_quick n msg = blake2b_by_lem n msg ∙ ap (λ (x : ℕ → ℕ → ℕ). blake2b_by x n msg) quick_is

pub long_quick : (n : ℕ) (input : List ℕ) → long n input ≡ long_by quick n input
unfolding long long_by
long_quick n input = joined_by_lem _ (pieces n) ∙ ap (λ (x : ℕ → ℕ → ℕ). joined_by x (to_le length_bytes n ++ input) (pieces n)) quick_is
