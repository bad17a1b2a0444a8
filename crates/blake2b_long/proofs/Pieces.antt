-- Document 01's P9: the pieces that are put out, by computation. Assumes nothing.
use mathlib.Core.List.{[], ◌∷◌, ◌++◌}
use mathlib.Core.Path.{◌≡◌, refl}
use lib.ListN.{replicate}
use Rattle.blake2b_long.specs.Long.{halves, pieces}

pub direct : pieces 64 ≡ 64 ∷ []
unfolding pieces halves
direct = refl

pub just_over : pieces 65 ≡ 32 ∷ 33 ∷ []
unfolding pieces halves
just_over = refl

pub ninety_six : pieces 96 ≡ 32 ∷ 64 ∷ []
unfolding pieces halves
ninety_six = refl

pub ninety_seven : pieces 97 ≡ 32 ∷ 32 ∷ 33 ∷ []
unfolding pieces halves
ninety_seven = refl

pub a_block : pieces 1024 ≡ replicate 30 32 ++ 64 ∷ []
unfolding pieces halves
a_block = refl
