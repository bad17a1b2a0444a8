-- The lines of G, the mixings of a round and the rounds, one after the other, and the schedule's rows. Assumes nothing.
use Rattle.std.proofs.Common.{◌≡◌, ℕ, zero, suc, ◌+◌, ◌%◌, ◌^◌, ◌<◌, Bool, true, false, ◌&&◌, ltb, List, [], ◌∷◌, length, get_or, set, refl, ap, ◌∙◌, le_of_suc-le-suc, not-suc-le-zero, add-one, mod-lt, arith, lit<, ltb-true}
use Rattle.word.specs.Table.{table}
use Rattle.word.specs.Word.{rotr}
use Rattle.word.proofs.Library.{xor_rotated}
use Rattle.word.proofs.Rotation.{rotr-lt}
use Rattle.std.proofs.lemmas.Nat.{xor_lt}
use Rattle.std.specs.Int.{w64, rotate_right}
use Rattle.blake2b_compression.specs.Compression.{◌!◌, ◌⊕◌, block_words, R1, R2, R3, R4, SIGMA, row, sum, turn, G, round, mixed}

-- ---- the lines of G, as the code's stores
sum_line : (v : List ℕ) (a b x : ℕ) {u : List ℕ} {r s : ℕ} → u ≡ v → r ≡ (u ! a + u ! b) % 2 ^ 64 → s ≡ (r + x) % 2 ^ 64 → set u a s ≡ sum v a b x
unfolding sum
sum_line v a b x {u} {r} {s} p q t = ap (set u a) wraps ∙ rw p
  where
    wraps : s ≡ (u ! a + u ! b + x) % 2 ^ 64
    wraps = omega arith

plain_line : (v : List ℕ) (a b : ℕ) {u : List ℕ} {r : ℕ} → u ≡ v → r ≡ (u ! a + u ! b) % 2 ^ 64 → set u a r ≡ sum v a b 0
unfolding sum
plain_line v a b {u} {r} p q = ap (set u a) wraps ∙ rw p
  where
    wraps : r ≡ (u ! a + u ! b + 0) % 2 ^ 64
    wraps = omega arith

turn_line : (v : List ℕ) (d a n : ℕ) {u : List ℕ} {r : ℕ} → u ≡ v → r ≡ rotr n (u ! d ⊕ u ! a) → set u d r ≡ turn v d a n
unfolding turn
turn_line v d a n {u} p q = ap (set u d) q ∙ rw p

-- G, line by line: v₁ to v₈ are what the array holds after each store
module _ (v : List ℕ) (a b c d x y : ℕ) where
  pub eight_lines : {s₁ t₁ t₂ t₃ t₄ s₅ t₅ t₆ t₇ t₈ : ℕ}
      → (let v₁ = set v a t₁ in
      let v₂ = set v₁ d t₂ in
      let v₃ = set v₂ c t₃ in
      let v₄ = set v₃ b t₄ in
      let v₅ = set v₄ a t₅ in
      let v₆ = set v₅ d t₆ in
      let v₇ = set v₆ c t₇ in
      s₁ ≡ (v ! a + v ! b) % 2 ^ 64
      → t₁ ≡ (s₁ + x) % 2 ^ 64
      → t₂ ≡ rotr R1 (v₁ ! d ⊕ v₁ ! a)
      → t₃ ≡ (v₂ ! c + v₂ ! d) % 2 ^ 64
      → t₄ ≡ rotr R2 (v₃ ! b ⊕ v₃ ! c)
      → s₅ ≡ (v₄ ! a + v₄ ! b) % 2 ^ 64
      → t₅ ≡ (s₅ + y) % 2 ^ 64
      → t₆ ≡ rotr R3 (v₅ ! d ⊕ v₅ ! a)
      → t₇ ≡ (v₆ ! c + v₆ ! d) % 2 ^ 64
      → t₈ ≡ rotr R4 (v₇ ! b ⊕ v₇ ! c)
      → set v₇ b t₈ ≡ G v a b c d x y)
  unfolding G
  eight_lines p₁ q₁ q₂ q₃ q₄ p₅ q₅ q₆ q₇ q₈ =
      turn_line _ b c R4
      (plain_line _ c d
      (turn_line _ d a R3
      (sum_line _ a b y
      (turn_line _ b c R2
      (plain_line _ c d
      (turn_line _ d a R1
      (sum_line v a b x refl p₁ q₁) q₂) q₃) q₄) p₅ q₅) q₆) q₇) q₈

-- ---- the same by std's methods: every word of the list is one of 64 bits
abbrev pub Words : List ℕ → Type 0
Words v = (i : ℕ) → v ! i < 2 ^ 64

stored : (v : List ℕ) (k t : ℕ) → Words v → t < 2 ^ 64 → Words (set v k t)
stored [] k t w h i = w i
stored (x ∷ v) zero t w h zero = h
stored (x ∷ v) zero t w h (suc i) = w (suc i)
stored (x ∷ v) (suc k) t w h zero = w zero
stored (x ∷ v) (suc k) t w h (suc i) = stored v k t (λ j. w (suc j)) h i

summed : (v : List ℕ) (k t : ℕ) → Words v → Words (set v k (t % 2 ^ 64))
summed v k t w = stored v k (t % 2 ^ 64) w (mod-lt t (lit< tt))

module _ (u : List ℕ) (d a n : ℕ) (w : Words u) (some : 0 < n) (less : n < 64) {r : ℕ} (e : r ≡ rotate_right w64 (u ! d ⊕ u ! a) n) where
  turned : r ≡ rotr n (u ! d ⊕ u ! a)
  turned = e ∙ xor_rotated n (u ! d) (u ! a) some less (w d) (w a)

  turned_words : Words (set u d r)
  turned_words = stored u d r w (rw turned (rotr-lt n (u ! d ⊕ u ! a) (omega arith) (xor_lt 64 (u ! d) (u ! a) (w d) (w a))))

module _ (v : List ℕ) (a b c d x y : ℕ) (w : Words v) where
  pub eight_stores : {t₂ t₄ t₆ t₈ : ℕ}
      → (let v₁ = set v a (((v ! a + v ! b) % 2 ^ 64 + x) % 2 ^ 64) in
      let v₂ = set v₁ d t₂ in
      let v₃ = set v₂ c ((v₂ ! c + v₂ ! d) % 2 ^ 64) in
      let v₄ = set v₃ b t₄ in
      let v₅ = set v₄ a (((v₄ ! a + v₄ ! b) % 2 ^ 64 + y) % 2 ^ 64) in
      let v₆ = set v₅ d t₆ in
      let v₇ = set v₆ c ((v₆ ! c + v₆ ! d) % 2 ^ 64) in
      t₂ ≡ rotate_right w64 (v₁ ! d ⊕ v₁ ! a) R1
      → t₄ ≡ rotate_right w64 (v₃ ! b ⊕ v₃ ! c) R2
      → t₆ ≡ rotate_right w64 (v₅ ! d ⊕ v₅ ! a) R3
      → t₈ ≡ rotate_right w64 (v₇ ! b ⊕ v₇ ! c) R4
      → set v₇ b t₈ ≡ G v a b c d x y)
  eight_stores e₂ e₄ e₆ e₈ =
      let w₁ = summed v a _ w in
      let w₃ = summed _ c _ (turned_words _ d a R1 w₁ (omega arith) (omega arith) e₂) in
      let w₅ = summed _ a _ (turned_words _ b c R2 w₃ (omega arith) (omega arith) e₄) in
      let w₇ = summed _ c _ (turned_words _ d a R3 w₅ (omega arith) (omega arith) e₆) in
      eight_lines v a b c d x y refl refl
      (turned _ d a R1 w₁ (omega arith) (omega arith) e₂) refl
      (turned _ b c R2 w₃ (omega arith) (omega arith) e₄) refl refl
      (turned _ d a R3 w₅ (omega arith) (omega arith) e₆) refl
      (turned _ b c R4 w₇ (omega arith) (omega arith) e₈)

-- ---- a round, mixing by mixing
one_mixing : (a b c d x y : ℕ) {u u' v : List ℕ} → v ≡ G u a b c d x y → u ≡ u' → v ≡ G u' a b c d x y
one_mixing a b c d x y e p = e ∙ ap (λ (t : List ℕ). G t a b c d x y) p

pub eight_mixings : (x : ℕ → ℕ) (v : List ℕ) {v₁ v₂ v₃ v₄ v₅ v₆ v₇ v₈ : List ℕ}
    → v₁ ≡ G v 0 4 8 12 (x 0) (x 1)
    → v₂ ≡ G v₁ 1 5 9 13 (x 2) (x 3)
    → v₃ ≡ G v₂ 2 6 10 14 (x 4) (x 5)
    → v₄ ≡ G v₃ 3 7 11 15 (x 6) (x 7)
    → v₅ ≡ G v₄ 0 5 10 15 (x 8) (x 9)
    → v₆ ≡ G v₅ 1 6 11 12 (x 10) (x 11)
    → v₇ ≡ G v₆ 2 7 8 13 (x 12) (x 13)
    → v₈ ≡ G v₇ 3 4 9 14 (x 14) (x 15)
    → v₈ ≡ round x v
unfolding round
eight_mixings x v q₁ q₂ q₃ q₄ q₅ q₆ q₇ q₈ =
    one_mixing 3 4 9 14 (x 14) (x 15) q₈
    (one_mixing 2 7 8 13 (x 12) (x 13) q₇
    (one_mixing 1 6 11 12 (x 10) (x 11) q₆
    (one_mixing 0 5 10 15 (x 8) (x 9) q₅
    (one_mixing 3 7 11 15 (x 6) (x 7) q₄
    (one_mixing 2 6 10 14 (x 4) (x 5) q₃
    (one_mixing 1 5 9 13 (x 2) (x 3) q₂ q₁))))))

-- a round reads its rule below 16 alone: the words may be laid out first
pub laid_out : (x : ℕ → ℕ) (v : List ℕ) → round (λ j. table x block_words ! j) v ≡ round x v
unfolding round table
laid_out x v = refl

-- one round more
pub round_more : (i : ℕ) (m v₀ : List ℕ) {v u w s : List ℕ} → u ≡ round (λ j. w ! j) v → w ≡ table (λ j. m ! (s ! j)) block_words → s ≡ row i → v ≡ mixed i m v₀
    → u ≡ mixed (i + 1) m v₀
unfolding mixed
round_more i m v₀ {v} {u} {w} {s} p q r e =
    rw add-one
    (p
    ∙ ap (λ (t : List ℕ). round (λ j. t ! j) v) q
    ∙ laid_out (λ j. m ! (s ! j)) v
    ∙ ap (λ (t : List ℕ). round (λ j. m ! (t ! j)) v) r
    ∙ ap (round (λ j. m ! (row i ! j))) e)

-- ---- the rows of the schedule: every entry is below 16
abbrev small : List ℕ → Bool
small [] = true
small (x ∷ xs) = ltb x block_words && small xs

abbrev smalls : List (List ℕ) → Bool
smalls [] = true
smalls (x ∷ xs) = small x && smalls xs

left : (a b : Bool) → a && b ≡ true → a ≡ true
left true b h = refl
left false b h = h

right : (a b : Bool) → a && b ≡ true → b ≡ true
right true b h = h
right false true h = refl
right false false h = h

at : (l : List ℕ) → small l ≡ true → (j : ℕ) → l ! j < block_words
at [] h j = omega arith
at (x ∷ xs) h zero = ltb-true x block_words (left (ltb x block_words) (small xs) h)
at (x ∷ xs) h (suc j) = at xs (right (ltb x block_words) (small xs) h) j

at_row : (l : List (List ℕ)) → smalls l ≡ true → (i : ℕ) → small (get_or l i []) ≡ true
at_row [] h i = refl
at_row (x ∷ xs) h zero = left (small x) (smalls xs) h
at_row (x ∷ xs) h (suc i) = at_row xs (right (small x) (smalls xs) h) i

row_small : (i j : ℕ) → row i ! j < block_words
unfolding row
row_small i j = at (get_or SIGMA (i % length SIGMA) []) (at_row SIGMA refl (i % length SIGMA)) j

-- a row that the code holds
pub held_small : (i : ℕ) {s : List ℕ} → s ≡ row i → (j : ℕ) → s ! j < block_words
held_small i e j = rw e (row_small i j)

-- what stands at a place of a list does not depend on what a read past its end would give
inside {ℓ} : {A : Type ℓ} (l : List A) (i : ℕ) (d e : A) → i < length l → get_or l i d ≡ get_or l i e
inside (x ∷ l) zero d e h = refl
inside (x ∷ l) (suc i) d e h = inside l i d e (le_of_suc-le-suc h)
inside [] i d e h = absurd (not-suc-le-zero h)

pub row_is : (i : ℕ) (d : List ℕ) → get_or SIGMA (i % length SIGMA) d ≡ row i
unfolding row
row_is i d = inside SIGMA (i % length SIGMA) d [] (omega arith)
