-- What a test that passed says, for `&&`, `||`, `all` and `any`, and back. Assumes nothing.
use mathlib.Core.Path.{◌≡◌, refl, sym, ap, ◌∙◌, subst}
use mathlib.Core.Logic.{◌⊎◌, inl, inr}
use mathlib.Core.Bool.{Bool, true, false, ◌&&◌, ◌||◌, false≢true, true≢false}
use Prim.Native.Nat.{ℕ, zero, suc, ◌+◌, ◌<◌}
use native.Mathlib.Numerals.{add-one}
use native.Mathlib.Omega.{arith}
use lib.Dec.{ltb}
use borrow.Author.Tests.{ltb-true, ltb-false}
use Rattle.job.specs.Jobs.{all, any}

pub and-true : (a b : Bool) → a && b ≡ true → (a ≡ true) × (b ≡ true)
and-true true b e = (refl, e)
and-true false b e = absurd (false≢true e)

pub and_of : {a b : Bool} → a ≡ true → b ≡ true → a && b ≡ true
and_of {a} {b} p q = ap (λ (t : Bool). t && b) p ∙ q

pub and-false : {a : Bool} (b : Bool) → a ≡ false → a && b ≡ false
and-false b p = ap (λ (t : Bool). t && b) p

pub or_left : {a : Bool} (b : Bool) → a ≡ true → a || b ≡ true
or_left b p = ap (λ (t : Bool). t || b) p

pub or_right : (a : Bool) {b : Bool} → b ≡ true → a || b ≡ true
or_right true p = refl
or_right false p = p

pub or-true : (a b : Bool) → a || b ≡ true → (a ≡ true) ⊎ (b ≡ true)
or-true true b e = inl refl
or-true false b e = inr e

pub or-false : (a b : Bool) → a || b ≡ false → (a ≡ false) × (b ≡ false)
or-false true b e = absurd (true≢false e)
or-false false b e = (refl, e)

pub or_second : {a : Bool} (b : Bool) → a ≡ false → a || b ≡ true → b ≡ true
or_second b p e = subst (λ (t : Bool). t || b ≡ true) p e

-- the last number under suc n, or one under n
last : (i n : ℕ) → i < suc n → (i ≡ n) ⊎ (i < n)
last i n h = go (ltb i n) refl
  where
    go : (t : Bool) → ltb i n ≡ t → (i ≡ n) ⊎ (i < n)
    go true e = inr (ltb-true i n e)
    go false e = inl (omega (arith, ltb-false i n e))

pub all_true : (n : ℕ) (f : ℕ → Bool) → all n f ≡ true → (i : ℕ) → i < n → f i ≡ true
all_true zero f e i h = absurd (omega arith)
all_true (suc n) f e i h =
    go (all_true n f (and-true (all n f) (f n) e).0 i) (last i n h)
  where
    go : (i < n → f i ≡ true) → (i ≡ n) ⊎ (i < n) → f i ≡ true
    go ih (inl q) = ap f q ∙ (and-true (all n f) (f n) e).1
    go ih (inr q) = ih q

pub all_of : (n : ℕ) (f : ℕ → Bool) → ((i : ℕ) → i < n → f i ≡ true) → all n f ≡ true
all_of zero f h = refl
all_of (suc n) f h = and_of (all_of n f (λ i k. h i (omega arith))) (h n (omega arith))

pub any_of : (n : ℕ) (f : ℕ → Bool) (i : ℕ) → i < n → f i ≡ true → any n f ≡ true
any_of zero f i h e = absurd (omega arith)
any_of (suc n) f i h e = go (λ k. any_of n f i k e) (last i n h)
  where
    go : (i < n → any n f ≡ true) → (i ≡ n) ⊎ (i < n) → any n f || f n ≡ true
    go ih (inl q) = or_right (any n f) (ap f (sym q) ∙ e)
    go ih (inr q) = or_left (f n) (ih q)

pub any_true : (n : ℕ) (f : ℕ → Bool) → any n f ≡ true → (i : ℕ) × (i < n) × (f i ≡ true)
any_true zero f e = absurd (false≢true e)
any_true (suc n) f e = go (λ p. any_true n f p) (or-true (any n f) (f n) e)
  where
    go : (any n f ≡ true → (i : ℕ) × (i < n) × (f i ≡ true)) → (any n f ≡ true) ⊎ (f n ≡ true) → (i : ℕ) × (i < suc n) × (f i ≡ true)
    go ih (inl p) = let q : (i : ℕ) × (i < n) × (f i ≡ true) = ih p in (q.0, omega (arith, q.1), q.2)
    go ih (inr p) = (n, omega arith, p)

pub any_false : (n : ℕ) (f : ℕ → Bool) → any n f ≡ false → (i : ℕ) → i < n → f i ≡ false
any_false zero f e i h = absurd (omega arith)
any_false (suc n) f e i h = go (any_false n f (or-false (any n f) (f n) e).0 i) (last i n h)
  where
    go : (i < n → f i ≡ false) → (i ≡ n) ⊎ (i < n) → f i ≡ false
    go ih (inl q) = ap f q ∙ (or-false (any n f) (f n) e).1
    go ih (inr q) = ih q

pub any_of_false : (n : ℕ) (f : ℕ → Bool) → ((i : ℕ) → i < n → f i ≡ false) → any n f ≡ false
any_of_false zero f h = refl
any_of_false (suc n) f h = ap (λ (t : Bool). t || f n) (any_of_false n f (λ i k. h i (omega arith))) ∙ h n (omega arith)

pub or_none : (a : Bool) → a || false ≡ a
or_none true = refl
or_none false = refl

-- one number more, as code counts
pub any_one : (n : ℕ) (f : ℕ → Bool) → any (n + 1) f ≡ any n f || f n
any_one n f = ap (λ (k : ℕ). any k f) (add-one n)

pub all_one : (n : ℕ) (f : ℕ → Bool) → all (n + 1) f ≡ all n f && f n
all_one n f = ap (λ (k : ℕ). all k f) (add-one n)

-- two tests that agree under n
pub all_same : (n : ℕ) (f g : ℕ → Bool) → ((i : ℕ) → f i ≡ g i) → all n f ≡ all n g
all_same zero f g h = refl
all_same (suc n) f g h = ap (λ (t : Bool). t && f n) (all_same n f g h) ∙ ap (λ (t : Bool). all n g && t) (h n)
