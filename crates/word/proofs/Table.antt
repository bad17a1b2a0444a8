-- Lists by a rule: their length, their elements, their parts, and a list as the table of its own elements. Assumes nothing.
use Prim.Native.Nat.{ℕ, zero, suc, ◌+◌, ◌-◌, ◌<◌, ◌≤◌}
use mathlib.Core.Bool.{Bool, true, false}
use mathlib.Core.Path.{◌≡◌, refl, ap, sym, ◌∙◌, subst, subst⁻¹}
use denote.Param.Members.{Mut}
use Rattle.std.specs.Fn.{Called}
use Rattle.std.specs.Array.{IsFromFnResult, IsFromFnResultFrom}
use mathlib.Core.Logic.{⊎_elim}
use mathlib.Core.List.{List, [], ◌∷◌, ◌++◌}
use native.Mathlib.Nat.{eq-or-lt_of_le}
use native.Mathlib.Omega.{arith}
use borrow.Author.Tests.{ltb-true, ltb-false}
use lib.Dec.{ltb}
use lib.ListN.{length, get_or, set, take, drop, length-append, length-drop, get_or-append}
use lib.Seq.{ext_get_or, get_or-set_same, get_or-set_other, length-take-le, get_or-take, get_or-drop, get_or-append-add}
use Rattle.word.specs.Table.{table}

pub length-table : (f : ℕ → ℕ) (n : ℕ) → length (table f n) ≡ n
unfolding table
length-table f zero = refl
length-table f (suc n) = ap suc (length-table (λ k. f (suc k)) n)

pub get_or-table : (f : ℕ → ℕ) (n k : ℕ) → k < n → get_or (table f n) k 0 ≡ f k
unfolding table
get_or-table f zero k h = omega arith
get_or-table f (suc n) zero h = refl
get_or-table f (suc n) (suc k) h = get_or-table (λ j. f (suc j)) n k (omega arith)

pub table_self : (l : List ℕ) → table (λ j. get_or l j 0) (length l) ≡ l
unfolding table
table_self [] = refl
table_self (x ∷ l) = ap (λ (t : List ℕ). x ∷ t) (table_self l)

-- a list of n numbers, each by the rule f, is f's table
pub is_table : (f : ℕ → ℕ) (n : ℕ) (l : List ℕ) → length l ≡ n → ((k : ℕ) → k < n → get_or l k 0 ≡ f k) → l ≡ table f n
is_table f n l e h =
    ext_get_or 0 l (table f n) (e ∙ sym (length-table f n)) (λ k b. h k (omega arith) ∙ sym (get_or-table f n k (omega arith)))

-- `array::from_fn` of a closure that gives what f says, and that no call changes
each : {F : Type 0} (g : Mut F (ℕ × Unit {0}) ℕ) (c : F) (l : List ℕ) (f : ℕ → ℕ) → ((k r : ℕ) (d : F) → Called g c (k, tt) r d → (r ≡ f k) × (d ≡ c))
    → (i n k : ℕ) → IsFromFnResultFrom g c l i n → i ≤ k → k < i + n → get_or l k 0 ≡ f k
each {F} g c l f h i zero k w a b = omega arith
each {F} g c l f h i (suc n) k w a b =
    let now = h i w.1 w.0 w.3 in
    ⊎_elim
    (λ (s : i ≡ k). subst (λ (m : ℕ). get_or l m 0 ≡ f m) s (w.2.1 0 ∙ now.0))
    (λ (s : i < k). each g c l f h (i + 1) n k (subst (λ (d : F). IsFromFnResultFrom g d l (i + 1) n) now.1 w.4) (omega arith) (omega arith))
    (eq-or-lt_of_le a)

pub by_calls : {F : Type 0} {g : Mut F (ℕ × Unit {0}) ℕ} {c : F} {l : List ℕ} (f : ℕ → ℕ)
    → ((k r : ℕ) (d : F) → Called g c (k, tt) r d → (r ≡ f k) × (d ≡ c)) → (n : ℕ) → IsFromFnResult g c l n → l ≡ table f n
by_calls {g = g} {c = c} {l = l} f h n w = is_table f n l w.long (λ k b. each g c l f h 0 n k w.each (omega arith) (omega arith))

-- two rules that agree below n have one table
pub same_table : (f g : ℕ → ℕ) (n : ℕ) → ((k : ℕ) → k < n → f k ≡ g k) → table f n ≡ table g n
same_table f g n h = is_table g n (table f n) (length-table f n) (λ k b. get_or-table f n k b ∙ h k b)

-- a loop that fills a list by a rule, one store a turn
pub filled : (f : ℕ → ℕ) (v : List ℕ) (k x : ℕ) → k < length v → ((j : ℕ) → j < k → get_or v j 0 ≡ f j) → x ≡ f k
    → (j : ℕ) → j < k + 1 → get_or (set v k x) j 0 ≡ f j
filled f v k x l h e j b =
    ⊎_elim
    (λ (s : j ≡ k). subst⁻¹ (λ (n : ℕ). get_or (set v k x) n 0 ≡ f n) s (get_or-set_same v k x 0 l ∙ e))
    (λ (n : j < k). get_or-set_other v k j x 0 (λ s. omega arith) ∙ h j n)
    (eq-or-lt_of_le (omega arith))

-- ---- one table after another, without its first entries, its first entries alone
pub table-append : (f : ℕ → ℕ) (n m : ℕ) → table f n ++ table (λ i. f (n + i)) m ≡ table f (n + m)
table-append f n m =
    is_table f (n + m) (table f n ++ table g m)
    (length-append (table f n) (table g m) ∙ omega (arith, length-table f n, length-table g m))
    (λ i b. at i b (ltb i n) refl)
  where
    g : ℕ → ℕ
    g i = f (n + i)

    at : (i : ℕ) → i < n + m → (t : Bool) → ltb i n ≡ t → get_or (table f n ++ table g m) i 0 ≡ f i
    at i b true e =
        let h : i < n = ltb-true i n e in
        get_or-append (table f n) (table g m) 0 i (omega (arith, length-table f n)) ∙ get_or-table f n i h
    at i b false e =
        let h : n ≤ i = ltb-false i n e in
        let j : ℕ = i - n in
        let is : i ≡ length (table f n) + j = omega (arith, length-table f n) in
        ap (λ (z : ℕ). get_or (table f n ++ table g m) z 0) is
        ∙ get_or-append-add (table f n) (table g m) j 0
        ∙ get_or-table g m j (omega arith)
        ∙ ap f (omega arith)

pub drop-table : (f : ℕ → ℕ) (n j : ℕ) → drop j (table f n) ≡ table (λ i. f (j + i)) (n - j)
drop-table f n j =
    is_table (λ i. f (j + i)) (n - j) (drop j (table f n))
    (length-drop j (table f n) ∙ ap (λ (z : ℕ). z - j) (length-table f n))
    (λ i b. get_or-drop j (table f n) i 0 ∙ get_or-table f n (j + i) (omega arith))

pub take-table : (f : ℕ → ℕ) (n j : ℕ) → j ≤ n → take j (table f n) ≡ table f j
take-table f n j h =
    is_table f j (take j (table f n))
    (length-take-le j (table f n) (omega (arith, length-table f n)))
    (λ i b. get_or-take j (table f n) i 0 b ∙ get_or-table f n i (omega arith))
