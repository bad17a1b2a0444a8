-- Lines of registers, once for rows and columns: where a line's words stand, a line laid down word by word, and line after line.
-- A block every line of which is P of another's is that block's `rows`, or its `columns`. Assumes nothing.
use Rattle.std.proofs.Common.{◌≡◌, ℕ, ◌+◌, ◌-◌, ◌*◌, ◌/◌, ◌%◌, ◌<◌, ◌≤◌, List, length, get_or, set, sym, ap, ◌∙◌, ap₂, ⊎_elim, eq-or-lt_of_le, mul-le-mul_left, one-mul, arith, length-set, get_or-set_other, get_or-set_same}
use mathlib.Core.Path.{subst⁻¹}
use native.Mathlib.Nat.{eq_of_mul-eq-mul_left}
use Rattle.word.proofs.Table.{length-table, get_or-table, is_table, same_table}
use Rattle.block.specs.Block.{block_words, register_words, side, row_words, place, registers, permutation, quarter_at, rows, columns}
use Rattle.block.specs.Line.{Inside, Laid, Cut, into_rows, into_columns, Permuted}

le_of_lt-add_one : {a b : ℕ} → a < b + 1 → a ≤ b
le_of_lt-add_one {a} {b} h = omega arith

-- the registers of a line do not go beyond its last
pub steps_le : (step k : ℕ) → k < row_words → step * (k / register_words) ≤ step * (side - 1)
steps_le step k h = mul-le-mul_left step (omega arith)

pub place-lt : (first step k : ℕ) → Inside first step → k < row_words → place first step k < block_words
place-lt first step k l h = omega (arith, steps_le step k h, l.last)

-- a place tells which word of the line stands there
halves : (a b x y : ℕ) → register_words * a + x % register_words ≡ register_words * b + y % register_words → a ≡ b
halves a b x y e = omega arith

pub place_injective : (first step j k : ℕ) → Inside first step → place first step j ≡ place first step k → j ≡ k
place_injective first step j k l e =
    let a : first + step * (j / register_words) ≡ first + step * (k / register_words) = halves _ _ j k e in
    let h : j / register_words ≡ k / register_words = eq_of_mul-eq-mul_left step l.apart _ _ (omega arith) in
    omega arith

-- one more word of a line
pub lay_more : (first step k : ℕ) (v t₀ t : List ℕ) → Inside first step → k < row_words → Laid first step k v t₀ t
    → Laid first step (k + 1) v t₀ (set t (place first step k) (get_or v k 0))
lay_more first step k v t₀ t i h l =
    record {
      long = length-set t (place first step k) (get_or v k 0) ∙ l.long;
      on_line = λ j b.
          ⊎_elim
          (λ (s : j ≡ k).
          subst⁻¹ (λ (n : ℕ). get_or (set t (place first step k) (get_or v k 0)) (place first step n) 0 ≡ get_or v n 0) s
          (get_or-set_same t (place first step k) (get_or v k 0) 0
          (subst⁻¹ (λ (n : ℕ). place first step k < n) l.long (place-lt first step k i h))))
          (λ (s : j < k).
          get_or-set_other t (place first step k) (place first step j) (get_or v k 0) 0
          (λ e. omega (arith, place_injective first step j k i e))
          ∙ l.on_line j s)
          (eq-or-lt_of_le (le_of_lt-add_one b));
      elsewhere = λ m f.
          get_or-set_other t (place first step k) m (get_or v k 0) 0 (λ e. f k (omega arith) (sym e))
          ∙ l.elsewhere m (λ j b. f j (omega arith));
    }

-- the lines of a block stand in it, apart from each other
pub inside : {b s : ℕ} (i : ℕ) → Cut b s → i < side → Inside (b * i) s
inside i into_rows h = record { apart = omega arith; last = omega arith }
inside i into_columns h = record { apart = omega arith; last = omega arith }

meet : {b s : ℕ} (i j k l : ℕ) → Cut b s → i < side → j < side → k < row_words → l < row_words
    → place (b * i) s k ≡ place (b * j) s l → i ≡ j
meet i j k l into_rows hi hj hk hl e = omega arith
meet i j k l into_columns hi hj hk hl e = omega arith

pub length-quarter_at : (v : List ℕ) (a b c d : ℕ) → length (quarter_at v a b c d) ≡ length v
unfolding quarter_at
length-quarter_at v a b c d = simp length-set

pub length_permutation : (v : List ℕ) → length (permutation v) ≡ length v
unfolding permutation
length_permutation v = simp length-quarter_at

pub length-registers : (first step : ℕ) (q : List ℕ) → length (registers first step q) ≡ row_words
unfolding registers
length-registers first step q = length-table _ row_words

-- the line that was laid down, and a line that was not
on_line : (first step : ℕ) (v t t' : List ℕ) → length v ≡ row_words → Laid first step row_words v t t' → registers first step t' ≡ v
unfolding registers
on_line first step v t t' e l = sym (is_table _ row_words v e (λ k b. sym (l.on_line k b)))

off_line : (first step other : ℕ) (v t t' : List ℕ) → Laid first step row_words v t t'
    → ((j k : ℕ) → j < row_words → k < row_words → place first step j ≡ place other step k → ⊥)
    → registers other step t' ≡ registers other step t
unfolding registers
off_line first step other v t t' l f = same_table _ _ row_words (λ k b. l.elsewhere (place other step k) (λ j h. f j k h b))

-- one more line
pub permute_more : {b s : ℕ} (i : ℕ) (q v t t' : List ℕ) → Cut b s → i < side → v ≡ permutation (registers (b * i) s q)
    → Laid (b * i) s row_words v t t' → Permuted b s i q t → Permuted b s (i + 1) q t'
permute_more {b} {s} i q v t t' cut h e l p =
    record {
      long = l.long;
      each = λ j g.
          ⊎_elim
          (λ (n : j ≡ i).
          subst⁻¹ (λ (m : ℕ). registers (b * m) s t' ≡ permutation (registers (b * m) s q)) n
          (on_line (b * i) s v t t' (ap length e ∙ length_permutation _ ∙ length-registers (b * i) s q) l ∙ e))
          (λ (n : j < i).
          off_line (b * i) s (b * j) v t t' l (λ x y hx hy o. omega (arith, meet i j x y cut h (omega arith) hx hy o))
          ∙ p.each j n)
          (eq-or-lt_of_le (le_of_lt-add_one g));
    }

-- word n of the result, wherever it stands
word_of : {b s : ℕ} (q r : List ℕ) (i k n : ℕ) → Permuted b s side q r → i < side → k < row_words → place (b * i) s k ≡ n
    → get_or r n 0 ≡ get_or (permutation (registers (b * i) s q)) k 0
unfolding registers
word_of {b} {s} q r i k n p hi hk e =
    ap (λ (m : ℕ). get_or r m 0) (sym e)
    ∙ sym (get_or-table _ row_words k hk)
    ∙ ap (λ (l : List ℕ). get_or l k 0) (p.each i hi)

-- P on every line of a cut
abbrev pub along : {b s : ℕ} → Cut b s → List ℕ → List ℕ
along into_rows q = rows q
along into_columns q = columns q

-- a block every line of which is P of that line of q
pub are_lines : {b s : ℕ} {q r : List ℕ} → Permuted b s side q r → (cut : Cut b s) → r ≡ along cut q
unfolding rows columns
are_lines {q = q} {r = r} p into_rows =
    is_table _ block_words r p.long
    (λ n h. word_of q r (n / row_words) (n % row_words) n p (omega arith) (omega arith) (omega arith))
are_lines {q = q} {r = r} p into_columns =
    is_table _ block_words r p.long
    (λ n h.
    word_of q r (n % row_words / register_words) (register_words * (n / row_words) + n % register_words) n p (omega arith) (omega arith) (omega arith)
    ∙ ap (λ (i : ℕ). get_or (permutation (registers i side q)) (register_words * (n / row_words) + n % register_words) 0)
    (one-mul (n % row_words / register_words)))

-- and the other way: each row of `rows` is P of that row, each column of `columns` P of that column
permuted : (b s : ℕ) (q r : List ℕ) → length r ≡ block_words
    → ((i k : ℕ) → i < side → k < row_words → get_or r (place (b * i) s k) 0 ≡ get_or (permutation (registers (b * i) s q)) k 0)
    → Permuted b s side q r
unfolding registers
permuted b s q r e f =
    record {
      long = e;
      each = λ i h.
          sym (is_table _ row_words _ (length_permutation _ ∙ length-registers (b * i) s q) (λ k g. sym (f i k h g)));
    }

row_place : (i k : ℕ) → i < side → k < row_words → (place (side * i) 1 k / row_words ≡ i) × (place (side * i) 1 k % row_words ≡ k)
row_place i k hi hk = (omega arith, omega arith)

column-place : (i k : ℕ) → i < side → k < row_words
    → (place (1 * i) side k % row_words / register_words ≡ 1 * i)
    × (register_words * (place (1 * i) side k / row_words) + place (1 * i) side k % register_words ≡ k)
column-place i k hi hk = (omega arith, omega arith)

pub rows_permuted : (q : List ℕ) → Permuted side 1 side q (rows q)
unfolding rows
rows_permuted q =
    permuted side 1 q _ (length-table _ block_words)
    (λ i k hi hk.
    get_or-table _ block_words _ (place-lt _ _ k (inside i into_rows hi) hk)
    ∙ ap₂ (λ (m n : ℕ). get_or (permutation (registers (side * m) 1 q)) n 0) (row_place i k hi hk).0 (row_place i k hi hk).1)

pub columns_permuted : (q : List ℕ) → Permuted 1 side side q (columns q)
unfolding columns
columns_permuted q =
    permuted 1 side q _ (length-table _ block_words)
    (λ i k hi hk.
    get_or-table _ block_words _ (place-lt _ _ k (inside i into_columns hi) hk)
    ∙ ap₂ (λ (m n : ℕ). get_or (permutation (registers m side q)) n 0) (column-place i k hi hk).0 (column-place i k hi hk).1)
