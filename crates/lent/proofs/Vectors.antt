-- Figures of other implementations hold of the definitions, by computation. Assumes nothing.
use Rattle.std.proofs.Common.{◌≡◌, refl}
use Rattle.lent.specs.Lent.{mixed, drawn, xorshift}

-- splitmix64, from the state 1234567
pub first_draw : drawn 1234567 0 ≡ 6457827717110365317
unfolding drawn mixed
first_draw = refl

pub second_draw : drawn 1234567 1 ≡ 3203168211198807973
unfolding drawn mixed
second_draw = refl

-- xorshift, from the seed of Marsaglia's paper
pub first_shift : xorshift 88172645463325252 ≡ 8748534153485358512
unfolding xorshift
first_shift = refl

pub second_shift : xorshift 8748534153485358512 ≡ 3040900993826735515
unfolding xorshift
second_shift = refl
