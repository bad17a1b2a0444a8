-- A rotation is made of two shifts: the low bits, shifted left, stand where the word shifted right has zeros. It is a word again. Assumes nothing.
use Prim.Native.Nat.{ℕ, ◌+◌, ◌-◌, ◌*◌, ◌%◌, ◌/◌, ◌^◌, ◌<◌, ◌≤◌}
use mathlib.Core.Path.{◌≡◌, ap, sym, ◌∙◌, subst⁻¹}
use native.Mathlib.Nat.{add_comm, mod-lt, le_of_eq}
use native.Mathlib.Omega.{arith}
use lib.Arith.{digits_lt}
use lib.Bits.{bit_or, or_shifted_r}
use lib.Pow.{pow_pos, pow-add, shl_exact, shr_lt}
use Rattle.word.specs.Word.{rotr}

-- `(x >> k) | (x % 2^k) << j`, at k + j = 64
pub turn : (k j x : ℕ) → k + j ≡ 64 → x < 2 ^ (j + k) → bit_or (x / 2 ^ k) (x % 2 ^ k * 2 ^ j % 2 ^ 64) ≡ x / 2 ^ k + x % 2 ^ k * 2 ^ j
turn k j x e h =
    ap (bit_or (x / 2 ^ k)) (shl_exact k j 64 (mod-lt x (pow_pos k)) (le_of_eq e))
    ∙ or_shifted_r (x % 2 ^ k) j (x / 2 ^ k) (shr_lt j k h)
    ∙ add_comm (x % 2 ^ k * 2 ^ j) (x / 2 ^ k)

pub rotr-lt : (n x : ℕ) → n ≤ 64 → x < 2 ^ 64 → rotr n x < 2 ^ 64
unfolding rotr
rotr-lt n x l h =
    let back : 64 - n + n ≡ 64 = omega arith in
    let hx : x < 2 ^ (64 - n + n) = subst⁻¹ (λ (m : ℕ). x < 2 ^ m) back h in
    let whole : n + (64 - n) ≡ 64 = omega arith in
    let d : x % 2 ^ n * 2 ^ (64 - n) + x / 2 ^ n < 2 ^ n * 2 ^ (64 - n) = digits_lt (mod-lt x (pow_pos n)) (shr_lt (64 - n) n hx) in
    let e : 2 ^ n * 2 ^ (64 - n) ≡ 2 ^ 64 = sym (pow-add 2 n (64 - n)) ∙ ap (λ (m : ℕ). 2 ^ m) whole in
    omega (arith, d, e)
