-- What std's methods give is what the RFCs' definitions say: a rotation, and the little-endian order of bytes both ways. Assumes nothing.
use Prim.Native.Nat.{ℕ, ◌+◌, ◌-◌, ◌*◌, ◌/◌, ◌%◌, ◌^◌, ◌<◌}
use mathlib.Core.List.{List, [], ◌∷◌}
use mathlib.Core.Path.{◌≡◌, refl, sym, ap, ◌∙◌, subst}
use native.Mathlib.Nat.{add_comm, add-zero, div-div-eq-div-mul}
use native.Mathlib.Omega.{arith}
use lib.Bits.{bit_or, bit_xor, or_shifted_r, xor_lt}
use lib.ListN.{length, get_or}
use lib.Pow.{pow_pos, shr_lt}
use Rattle.std.proofs.lemmas.Nat.{mod-pow-add, shl-shr, mod_low}
use Rattle.std.specs.Int.{w32, w64, rotate_right, to_le_bytes, from_le_bytes}
use Rattle.word.specs.Promises.{RotatePromise, FromLePromise, ToLePromise}
use Rattle.word.specs.Table.{table}
use Rattle.word.specs.Word.{rotr, from_le, to_le}
use Rattle.word.proofs.Table.{is_table}

-- `x.rotate_right(n)`
pub rotate_right_is_rotr : (n x : ℕ) → 0 < n → n < 64 → x < 2 ^ 64 → rotate_right w64 x n ≡ rotr n x
unfolding rotr
rotate_right_is_rotr n x some less h =
    let j : ℕ = 64 - n in
    let whole : 64 ≡ n + j = omega arith in
    let other : 64 ≡ j + n = omega arith in
    let down : n % 64 ≡ n = omega arith in
    let up : (64 - n) % 64 ≡ 64 - n = omega arith in
    let clear : x * 2 ^ j % 2 ^ j ≡ 0 = ap (λ (y : ℕ). y % 2 ^ j) (sym (add-zero (x * 2 ^ j))) ∙ mod_low x j 0 (pow_pos j) in
    let low : x * 2 ^ j % 2 ^ 64 ≡ x % 2 ^ n * 2 ^ j =
    ap (λ (i : ℕ). x * 2 ^ j % 2 ^ i) whole ∙ mod-pow-add (x * 2 ^ j) n j ∙ rw (shl-shr x j, clear) (add-zero _) in
    let high : x / 2 ^ n < 2 ^ j = shr_lt j n (subst (λ (i : ℕ). x < 2 ^ i) other h) in
    rw (down, up)
    (ap (bit_or (x / 2 ^ n)) low ∙ or_shifted_r (x % 2 ^ n) j (x / 2 ^ n) high ∙ add_comm (x % 2 ^ n * 2 ^ j) (x / 2 ^ n))

-- `(x ^ y).rotate_right(n)`
pub xor_rotated : (n x y : ℕ) → 0 < n → n < 64 → x < 2 ^ 64 → y < 2 ^ 64 → rotate_right w64 (bit_xor x y) n ≡ rotr n (bit_xor x y)
xor_rotated n x y some less a b = rotate_right_is_rotr n (bit_xor x y) some less (xor_lt 64 x y a b)

-- `x.to_le_bytes()`
pub to_le_bytes_8 : (x : ℕ) → to_le_bytes w64 x ≡ to_le 8 x
to_le_bytes_8 x = simp div-div-eq-div-mul

pub to_le_bytes_4 : (x : ℕ) → to_le_bytes w32 x ≡ to_le 4 x
to_le_bytes_4 x = simp div-div-eq-div-mul

-- `from_le_bytes(bs)`
pub from_le_bytes_8 : (bs : List ℕ) → length bs ≡ 8 → from_le_bytes w64 bs ≡ from_le bs
unfolding table
from_le_bytes_8 bs is = omega (arith, ap from_le (is_table (λ k. get_or bs k 0) 8 bs is (λ k b. refl)))

pub from_le_bytes_4 : (bs : List ℕ) → length bs ≡ 4 → from_le_bytes w32 bs ≡ from_le bs
unfolding table
from_le_bytes_4 bs is = omega (arith, ap from_le (is_table (λ k. get_or bs k 0) 4 bs is (λ k b. refl)))

-- and so these methods keep the promises of a rotation and of a number's bytes
pub rotates : (n x : ℕ) → 0 < n → n < 64 → x < 2 ^ 64 → RotatePromise n x (rotate_right w64 x n)
rotates n x some less h = record { result = rotate_right_is_rotr n x some less h }

pub reads : (a b c d e f g h : ℕ) → FromLePromise a b c d e f g h (from_le_bytes w64 (a ∷ b ∷ c ∷ d ∷ e ∷ f ∷ g ∷ h ∷ []))
reads a b c d e f g h = record { result = from_le_bytes_8 (a ∷ b ∷ c ∷ d ∷ e ∷ f ∷ g ∷ h ∷ []) refl }

pub writes_8 : (x : ℕ) → ToLePromise 8 x (to_le_bytes w64 x)
writes_8 x = record { result = to_le_bytes_8 x }

pub writes_4 : (x : ℕ) → ToLePromise 4 x (to_le_bytes w32 x)
writes_4 x = record { result = to_le_bytes_4 x }
