-- The last turn of a loop; and a loop of the code that goes over memory as `loop` does: after each turn, what is left of it leads to the same
-- end. Assumes nothing.
use Prim.Native.Nat.{ℕ, zero, suc, ◌+◌, ◌-◌, ◌≤◌, ◌<◌}
use mathlib.Core.List.{List}
use mathlib.Core.Path.{◌≡◌, refl, sym, ap, ◌∙◌}
use native.Mathlib.Omega.{arith}
use lib.ListN.{length}
use Rattle.memory.specs.Loop.{loop}

-- the last turn of a loop
pub loop_last : (n i : ℕ) (f : ℕ → List ℕ → List ℕ) (w : List ℕ) → loop (suc n) i f w ≡ f (i + n) (loop n i f w)
loop_last zero i f w = ap (λ (m : ℕ). f m w) (omega arith)
loop_last (suc n) i f w =
    let at : i + 1 + n ≡ i + suc n = omega arith in
    loop_last n (i + 1) f (f i w) ∙ ap (λ (m : ℕ). f m (loop n (i + 1) f (f i w))) at

pub loop_last-zero : (n : ℕ) (f : ℕ → List ℕ → List ℕ) (w : List ℕ) → loop (suc n) 0 f w ≡ f n (loop n 0 f w)
loop_last-zero n f w =
    let at : 0 + n ≡ n = omega arith in
    loop_last n 0 f w ∙ ap (λ (m : ℕ). f m (loop n 0 f w)) at

-- the loop of f up to n, that began with the memory w₀ and leads to end, stands at turn i with the memory w, which is as long
pub record Leads (n : ℕ) (f : ℕ → List ℕ → List ℕ) (end w₀ w : List ℕ) (i : ℕ) : Type 0 where
  pub long : length w ≡ length w₀
  pub left : loop (n - i) i f w ≡ end

pub leads_first : (n i : ℕ) (f : ℕ → List ℕ → List ℕ) (w : List ℕ) → Leads n f (loop (n - i) i f w) w w i
leads_first n i f w = record { long = refl; left = refl }

pub leads_zero : (n : ℕ) (f : ℕ → List ℕ → List ℕ) (w : List ℕ) → Leads n f (loop n 0 f w) w w 0
leads_zero n f w =
    let m : n - 0 ≡ n = omega arith in
    record { long = refl; left = ap (λ (j : ℕ). loop j 0 f w) m }

module _ {n : ℕ} {f : ℕ → List ℕ → List ℕ} {end w₀ w : List ℕ} {i : ℕ} (leads : Leads n f end w₀ w i) where
  -- one turn
  pub leads_next : (w' : List ℕ) → i < n → w' ≡ f i w → length w' ≡ length w → Leads n f end w₀ w' (i + 1)
  leads_next w' h e l =
      let m : n - i ≡ suc (n - (i + 1)) = omega arith in
      record {
        long = l ∙ leads.long;
        left =
            ap (λ (v : List ℕ). loop (n - (i + 1)) (i + 1) f v) e
            ∙ sym (ap (λ (j : ℕ). loop j i f w) m)
            ∙ leads.left;
      }

  -- no turn is left
  pub leads_last : n ≤ i → w ≡ end
  leads_last h =
      let m : n - i ≡ zero = omega arith in
      sym (ap (λ (j : ℕ). loop j i f w) m) ∙ leads.left
