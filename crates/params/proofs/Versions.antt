-- Row 2 at document 01's oldest version, 16: it is given exactly when the version is not 16 or 19. Assumes nothing.
use Prim.Native.Nat.{ℕ}
use mathlib.Core.Bool.{Bool, true, false, not, ◌||◌}
use mathlib.Core.List.{[], ◌∷◌}
use mathlib.Core.Path.{◌≡◌, refl, ap}
use native.Mathlib.Omega.{arith}
use borrow.Author.Tests.{eqb-true, le-ltb}
use lib.Dec.{eqb, ltb}
use Rattle.answer.specs.Answers.{◌when◌}
use Rattle.params.specs.Limits.{v10, v13, among, version_invalid}

pub version_plain : (v : ℕ) → version_invalid v10 v ≡ (2 when not (among v (v10 ∷ v13 ∷ [])))
version_plain v = ap (λ (b : Bool). 2 when b) (go (eqb v v10) refl (eqb v v13) refl)
  where
    go : (x : Bool) → eqb v v10 ≡ x → (y : Bool) → eqb v v13 ≡ y → not (x || (y || false)) || ltb v v10 ≡ not (x || (y || false))
    go true e y f = le-ltb v v10 (omega (arith, eqb-true v v10 e))
    go false e true f = le-ltb v v10 (omega (arith, eqb-true v v13 f))
    go false e false f = refl
