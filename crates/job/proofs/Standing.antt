-- The tests of a job as its code makes them, lanes from one to another between two blocks, are those of its definition. Assumes nothing.
use mathlib.Core.Path.{◌≡◌, refl, sym, ap, ◌∙◌}
use mathlib.Core.Bool.{Bool, true, false, ◌&&◌, ◌||◌}
use Prim.Native.Nat.{ℕ, ◌<◌}
use native.Mathlib.Omega.{arith}
use lib.Dec.{leb, ltb, eqb}
use lib.ListN.{length}
use borrow.Author.Tests.{eqb-true, eqb-false, le-leb, lt-leb, le-ltb, eq-eqb}
use Rattle.params.specs.Limits.{max_lanes}
use Rattle.job.specs.Jobs.{all, position, laid_out}
use Rattle.job.specs.declared.Job.{Job}
use Rattle.job.proofs.Tests.{and_of, all_same}

-- between 0 and 0
is_zero : (x : ℕ) → leb 0 x && leb x 0 ≡ eqb x 0
is_zero x = go (eqb x 0) refl
  where
    go : (t : Bool) → eqb x 0 ≡ t → leb 0 x && leb x 0 ≡ eqb x 0
    go true e = let h : x ≡ 0 = eqb-true x 0 e in and_of (le-leb 0 x (omega arith)) (le-leb x 0 (omega arith)) ∙ sym e
    go false e =
        let n = eqb-false x 0 e in
        let h : 0 < x = omega arith in
        ap (λ (t : Bool). t && leb x 0) (le-leb 0 x (omega arith)) ∙ lt-leb x 0 h ∙ sym e

-- from lane 0 on
from_zero : (l : ℕ) (b : Bool) → ltb l 0 || b ≡ b
from_zero l b = ap (λ (t : Bool). t || b) (le-ltb l 0 (omega arith))

pub all_used : (n : ℕ) (f : ℕ → Bool) → all n (λ l. ltb l 0 || f l) ≡ all n f
all_used n f = all_same n (λ l. ltb l 0 || f l) f (λ l. from_zero l (f l))

pub all_zero : (j : Job) (n : ℕ) → all n (λ l. ltb l 0 || leb 0 (position j l) && leb (position j l) 0) ≡ all n (λ l. eqb (position j l) 0)
all_zero j n =
    all_same n (λ l. ltb l 0 || leb 0 (position j l) && leb (position j l) 0) (λ l. eqb (position j l) 0)
    (λ l. from_zero l (leb 0 (position j l) && leb (position j l) 0) ∙ is_zero (position j l))

pub all_idle : (j : Job) → length j.positions ≡ max_lanes
    → all max_lanes (λ l. ltb l j.params.lanes || leb 0 (position j l) && leb (position j l) 0) ≡ laid_out j
all_idle j e =
    all_same max_lanes
    (λ l. ltb l j.params.lanes || leb 0 (position j l) && leb (position j l) 0)
    (λ l. ltb l j.params.lanes || eqb (position j l) 0)
    (λ l. ap (λ (t : Bool). ltb l j.params.lanes || t) (is_zero (position j l)))
    ∙ sym (ap (λ (t : Bool). t && all max_lanes (λ l. ltb l j.params.lanes || eqb (position j l) 0)) (eq-eqb (length j.positions) max_lanes e))
