-- The definitions' tests go over the lanes by their numbers, the code over the list of their positions: the two agree. Assumes nothing.
use mathlib.Core.Path.{◌≡◌, refl, sym, ap, ap₂, ◌∙◌}
use mathlib.Core.Bool.{Bool, true, false, ◌&&◌, ◌||◌}
use mathlib.Core.List.{List}
use Prim.Native.Nat.{ℕ, zero, suc, ◌+◌, ◌-◌, ◌≤◌, ◌<◌}
use native.Mathlib.Numerals.{add-one}
use native.Mathlib.Omega.{arith}
use lib.Dec.{ltb}
use lib.ListN.{length, get_or, take, drop, length-drop}
use borrow.Author.Tests.{ltb-true, ltb-false, lt-ltb, le-ltb}
use Rattle.std.specs.List.{list_all, list_any}
use Rattle.std.proofs.lemmas.List.{get_or-drop, take_all, drop_all}
use Rattle.std.proofs.lemmas.List.Folds.{list_all_more, list_any_more}
use Rattle.job.specs.Jobs.{all, any}
use Rattle.job.proofs.Tests.{all_of, or_left}

-- of the first n positions
pub first_all : (f : ℕ → Bool) (xs : List ℕ) (n : ℕ) → n ≤ length xs → all n (λ l. f (get_or xs l 0)) ≡ list_all f (take n xs)
first_all f xs zero h = refl
first_all f xs (suc n) h =
    ap (λ t. t && f (get_or xs n 0)) (first_all f xs n (omega arith))
    ∙ sym (ap (λ k. list_all f (take k xs)) (sym (add-one n)) ∙ list_all_more f xs n 0 (omega arith))

pub first_any : (f : ℕ → Bool) (xs : List ℕ) (n : ℕ) → n ≤ length xs → any n (λ l. f (get_or xs l 0)) ≡ list_any f (take n xs)
first_any f xs zero h = refl
first_any f xs (suc n) h =
    ap (λ t. t || f (get_or xs n 0)) (first_any f xs n (omega arith))
    ∙ sym (ap (λ k. list_any f (take k xs)) (sym (add-one n)) ∙ list_any_more f xs n 0 (omega arith))

-- of the positions from n on
from_all : (f : ℕ → Bool) (xs : List ℕ) (n k : ℕ) → n + k ≤ length xs
    → all (n + k) (λ l. ltb l n || f (get_or xs l 0)) ≡ list_all f (take k (drop n xs))
from_all f xs n zero h = all_of (n + zero) (λ l. ltb l n || f (get_or xs l 0)) (λ i p. or_left (f (get_or xs i 0)) (lt-ltb i n (omega arith)))
from_all f xs n (suc k) h =
    let g : ℕ → Bool = λ l. ltb l n || f (get_or xs l 0) in
    let last : g (n + k) ≡ f (get_or (drop n xs) k 0) =
    ap (λ t. t || f (get_or xs (n + k) 0)) (le-ltb (n + k) n (omega arith)) ∙ ap f (sym (get_or-drop n xs k 0)) in
    let one_more : n + suc k ≡ suc (n + k) = omega arith in
    let there : k < length (drop n xs) = rw length-drop (omega arith) in
    ap (λ m. all m g) one_more
    ∙ ap₂ (λ s t. s && t) (from_all f xs n k (omega arith)) last
    ∙ sym (ap (λ m. list_all f (take m (drop n xs))) (sym (add-one k)) ∙ list_all_more f (drop n xs) k 0 there)

pub idle_all : (f : ℕ → Bool) (xs : List ℕ) (n : ℕ) → all (length xs) (λ l. ltb l n || f (get_or xs l 0)) ≡ list_all f (drop n xs)
idle_all f xs n = go (ltb (length xs) n) refl
  where
    go : (t : Bool) → ltb (length xs) n ≡ t → all (length xs) (λ l. ltb l n || f (get_or xs l 0)) ≡ list_all f (drop n xs)
    go true e =
        all_of (length xs) (λ l. ltb l n || f (get_or xs l 0)) (λ i p. or_left (f (get_or xs i 0)) (lt-ltb i n (omega (arith, ltb-true (length xs) n e))))
        ∙ sym (ap (list_all f) (drop_all n xs (omega (arith, ltb-true (length xs) n e))))
    go false e =
        let h = ltb-false (length xs) n e in
        let k : ℕ = length xs - n in
        let parts : length xs ≡ n + k = omega arith in
        let whole : length (drop n xs) ≤ k = rw length-drop (omega arith) in
        ap (λ m. all m (λ l. ltb l n || f (get_or xs l 0))) parts ∙ from_all f xs n k (omega arith) ∙ ap (list_all f) (take_all k (drop n xs) whole)
