-- Columns that follow each other, going round the lane: the shape of every part of the window. Laws on tables first. Assumes nothing.
use mathlib.Core.Bool.{Bool, cond}
use mathlib.Core.List.{List, [], ◌∷◌, ◌++◌}
use mathlib.Core.Logic.{◌≢◌, ◌⊎◌, inl, inr}
use mathlib.Core.Path.{◌≡◌, refl, sym, ap, ◌∙◌}
use Prim.Native.Nat.{ℕ, zero, suc, ◌+◌, ◌-◌, ◌*◌, ◌%◌, ◌≤◌, ◌<◌}
use native.Mathlib.Nat.{le_refl, mod-lt, mod-add-mod}
use native.Mathlib.Omega.{arith}
use lib.Arith.{digits_div, digits_mod, mod-mul}
use lib.ListN.{length, get_or, take, drop}
use borrow.Author.Tests.{eq-eqb, ne_eqb}
use Rattle.params.specs.Limits.{slices}
use Rattle.position.specs.Position.{column}
use Rattle.position.specs.Window.{blocks_of, excluding, last, but_last}
use Rattle.position.proofs.Referring.{mod_once}
use Rattle.word.specs.Table.{table}
use Rattle.word.proofs.Table.{length-table, get_or-table, same_table, table-append, drop-table, take-table}

-- ---- the ends of a table

pub last-table : (f : ℕ → ℕ) (n j : ℕ) → last j (table f n) ≡ table (λ i. f (n - j + i)) (n - (n - j))
last-table f n j = ap (λ (z : ℕ). drop (z - j) (table f n)) (length-table f n) ∙ drop-table f n (n - j)

pub but_last-table : (f : ℕ → ℕ) (n : ℕ) → but_last (table f n) ≡ table f (n - 1)
but_last-table f n = ap (λ (z : ℕ). take (z - 1) (table f n)) (length-table f n) ∙ take-table f n (n - 1) (omega arith)

-- ---- a list without a number

pub excluding-last : (x : ℕ) (l : List ℕ) → ((i : ℕ) → i < length l → get_or l i 0 ≢ x) → excluding x (l ++ (x ∷ [])) ≡ l
unfolding excluding
excluding-last x [] h = ap (λ (t : Bool). cond t [] (x ∷ [])) (eq-eqb x x refl)
excluding-last x (y ∷ ys) h =
    ap (λ (t : Bool). cond t (excluding x (ys ++ (x ∷ []))) (y ∷ excluding x (ys ++ (x ∷ [])))) (ne_eqb y x (h 0 (omega arith)))
    ∙ ap (λ (l : List ℕ). y ∷ l) (excluding-last x ys (λ i b. h (suc i) (omega arith)))

-- ---- n columns from column c on, going round

unfoldable pub ring : ℕ → ℕ → ℕ → List ℕ
ring s c n = table (λ i. (c + i) % (slices * s)) n

pub length-ring : (s c n : ℕ) → length (ring s c n) ≡ n
unfolding ring
length-ring s c n = length-table (λ i. (c + i) % (slices * s)) n

pub get_or-ring : (s c n i : ℕ) → i < n → get_or (ring s c n) i 0 ≡ (c + i) % (slices * s)
unfolding ring
get_or-ring s c n i h = get_or-table (λ j. (c + j) % (slices * s)) n i h

pub ring-append : (s c n m : ℕ) → ring s c n ++ ring s (c + n) m ≡ ring s c (n + m)
unfolding ring
ring-append s c n m =
    ap (λ (l : List ℕ). table (λ i. (c + i) % (slices * s)) n ++ l)
    (same_table (λ i. (c + n + i) % (slices * s)) (λ i. (c + (n + i)) % (slices * s)) m (λ i b. ap (λ (z : ℕ). z % (slices * s)) (omega arith)))
    ∙ table-append (λ i. (c + i) % (slices * s)) n m

pub ring-but_last : (s c n : ℕ) → but_last (ring s c n) ≡ ring s c (n - 1)
unfolding ring
ring-but_last s c n = but_last-table (λ i. (c + i) % (slices * s)) n

-- one column more
ring-last : (s c n : ℕ) → ring s c (n + 1) ≡ ring s c n ++ ((c + n) % (slices * s) ∷ [])
unfolding ring table
ring-last s c n =
    let here : c + n + 0 ≡ c + n = omega arith in
    sym (ring-append s c n 1) ∙ ap (λ (z : ℕ). ring s c n ++ (z % (slices * s) ∷ [])) here

-- columns less than a lane apart are not the same
differ : (q a d : ℕ) → 1 ≤ d → d < q → a % q ≢ (a + d) % q
differ q a d some few e = go (mod_once (b + d) q (omega (arith, small)))
  where
    b : ℕ
    b = a % q

    small : b < q
    small = mod-lt a (omega arith)

    same : (b + d) % q ≡ b
    same = mod-add-mod a q d ∙ sym e

    go : (((b + d) % q ≡ b + d) × (b + d < q)) ⊎ (((b + d) % q + q ≡ b + d) × (q ≤ b + d)) → ⊥
    go (inl m) = omega (arith, same)
    go (inr m) = omega (arith, same)

-- columns that do not go all round, without their last one
pub ring-excluding : (s c n : ℕ) → n < slices * s → excluding ((c + n) % (slices * s)) (ring s c (n + 1)) ≡ ring s c n
ring-excluding s c n h =
    ap (λ (l : List ℕ). excluding ((c + n) % (slices * s)) l) (ring-last s c n)
    ∙ excluding-last ((c + n) % (slices * s)) (ring s c n)
    (λ i b e.
    let i' : i < n = omega (arith, length-ring s c n) in
    let apart : c + i + (n - i) ≡ c + n = omega arith in
    differ (slices * s) (c + i) (n - i) (omega arith) (omega arith)
    (sym (get_or-ring s c n i i') ∙ e ∙ ap (λ (z : ℕ). z % (slices * s)) (sym apart)))

-- the first column may be told going round
pub ring_round : (s c c' n : ℕ) → c % (slices * s) ≡ c' % (slices * s) → ring s c n ≡ ring s c' n
unfolding ring
ring_round s c c' n e =
    same_table (λ i. (c + i) % (slices * s)) (λ i. (c' + i) % (slices * s)) n
    (λ i b.
    sym (mod-add-mod c (slices * s) i) ∙ ap (λ (z : ℕ). (z + i) % (slices * s)) e ∙ mod-add-mod c' (slices * s) i)

-- the column of block i of the g-th segment that a lane computes
pub segment_column : (s g i : ℕ) → i < s → column s (g % slices) i ≡ (g * s + i) % (slices * s)
segment_column s g i h =
    sym (mod-mul (g * s + i) {m = slices} {c = s} (omega arith) (omega arith)
    ∙ ap (λ (z : ℕ). z % slices * s + (g * s + i) % s) (digits_div g h)
    ∙ ap (λ (z : ℕ). g % slices * s + z) (digits_mod g h))

pub segment_ring : (s g n : ℕ) → n ≤ s → table (λ i. column s (g % slices) i) n ≡ ring s (g * s) n
unfolding ring
segment_ring s g n h =
    same_table (λ i. column s (g % slices) i) (λ i. (g * s + i) % (slices * s)) n (λ i b. segment_column s g i (omega arith))

-- the blocks of n segments that are computed one after another
pub blocks_ring : (s g n : ℕ) → blocks_of s (table (λ i. (g + i) % slices) n) ≡ ring s (g * s) (n * s)
unfolding blocks_of table ring
blocks_ring s g zero =
    let none : 0 ≡ zero * s = omega arith in
    ap (λ (z : ℕ). ring s (g * s) z) none
blocks_ring s g (suc n) =
    let this : g + 0 ≡ g = omega arith in
    let next : suc g * s ≡ g * s + s = omega arith in
    let all : s + n * s ≡ suc n * s = omega arith in
    ap (λ (z : ℕ). table (λ i. column s (z % slices) i) s ++ blocks_of s (table (λ i. (g + suc i) % slices) n)) this
    ∙ ap (λ (l : List ℕ). table (λ i. column s (g % slices) i) s ++ blocks_of s l)
    (same_table (λ i. (g + suc i) % slices) (λ i. (suc g + i) % slices) n (λ i b. ap (λ (z : ℕ). z % slices) (omega arith)))
    ∙ ap (λ (l : List ℕ). table (λ i. column s (g % slices) i) s ++ l) (blocks_ring s (suc g) n)
    ∙ ap (λ (l : List ℕ). l ++ ring s (suc g * s) (n * s)) (segment_ring s g s (le_refl s))
    ∙ ap (λ (z : ℕ). ring s (g * s) s ++ ring s z (n * s)) next
    ∙ ring-append s (g * s) s (n * s)
    ∙ ap (λ (z : ℕ). ring s (g * s) z) all
