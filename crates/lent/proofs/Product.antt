-- The product that wraps, from products of half words. Assumes nothing.
use Rattle.std.proofs.Common.{◌≡◌, ℕ, ◌+◌, ◌*◌, ◌/◌, ◌%◌, ◌^◌, ◌<◌, sym, ap, ◌∙◌, ap₂, mul_assoc, mul_comm, add-mul, div-add-mod', mul-add, arith}
use native.Mathlib.Nat.{add-mul-mod_self_right, add-mod-mod}
use Rattle.word.proofs.Half.{product_lt}
use Rattle.lent.specs.Lent.{step}

-- what wraps away of the four products of halves
wrapped : (l x y z : ℕ) → (l + (x + y) % 2 ^ 64 % 2 ^ 32 * 2 ^ 32) % 2 ^ 64 ≡ (l + (x + y) * 2 ^ 32 + z * 2 ^ 64) % 2 ^ 64
wrapped l x y z = omega arith

-- a product by halves
halves : (h i j k : ℕ) → (h * 2 ^ 32 + i) * (j * 2 ^ 32 + k) ≡ i * k + (h * k + i * j) * 2 ^ 32 + h * j * 2 ^ 64
halves h i j k =
    let e : (h * 2 ^ 32 + i) * (j * 2 ^ 32 + k) ≡ (h * 2 ^ 32) * (j * 2 ^ 32) + (h * 2 ^ 32) * k + (i * (j * 2 ^ 32) + i * k) = rw (add-mul, mul-add, mul-add) in
    let a : (h * 2 ^ 32) * (j * 2 ^ 32) ≡ h * j * 2 ^ 64 =
    mul_assoc h (2 ^ 32) (j * 2 ^ 32) ∙ ap (λ (n : ℕ). h * n) (mul_comm (2 ^ 32) (j * 2 ^ 32) ∙ mul_assoc j (2 ^ 32) (2 ^ 32)) ∙ sym (mul_assoc h j (2 ^ 64)) in
    let b : (h * 2 ^ 32) * k ≡ h * k * 2 ^ 32 = mul_assoc h (2 ^ 32) k ∙ ap (λ (n : ℕ). h * n) (mul_comm (2 ^ 32) k) ∙ sym (mul_assoc h k (2 ^ 32)) in
    let d : i * (j * 2 ^ 32) ≡ i * j * 2 ^ 32 = sym (mul_assoc i j (2 ^ 32)) in
    omega arith

pub product : (a b : ℕ) {c r : ℕ} → c ≡ (a / 2 ^ 32 * (b % 2 ^ 32) + a % 2 ^ 32 * (b / 2 ^ 32)) % 2 ^ 64
    → r ≡ (a % 2 ^ 32 * (b % 2 ^ 32) + c % 2 ^ 32 * 2 ^ 32) % 2 ^ 64 → r ≡ a * b % 2 ^ 64
product a b e e' =
    let h = a / 2 ^ 32 in
    let i = a % 2 ^ 32 in
    let j = b / 2 ^ 32 in
    let k = b % 2 ^ 32 in
    e'
    ∙ ap (λ (n : ℕ). (i * k + n % 2 ^ 32 * 2 ^ 32) % 2 ^ 64) e
    ∙ wrapped (i * k) (h * k) (i * j) (h * j)
    ∙ ap (λ (n : ℕ). n % 2 ^ 64) (sym (halves h i j k) ∙ ap₂ (λ (m n : ℕ). m * n) (omega arith) (omega arith))

-- the products of halves fit
pub low_fits : (a b : ℕ) → a % 2 ^ 32 * (b % 2 ^ 32) < 2 ^ 64
low_fits a b = product_lt 32 (omega arith) (omega arith)

pub high_fits : (a b : ℕ) → a < 2 ^ 64 → a / 2 ^ 32 * (b % 2 ^ 32) < 2 ^ 64
high_fits a b h = product_lt 32 (omega arith) (omega arith)

pub cross_fits : (a b : ℕ) → b < 2 ^ 64 → a % 2 ^ 32 * (b / 2 ^ 32) < 2 ^ 64
cross_fits a b h = product_lt 32 (omega arith) (omega arith)

-- whole turns of the modulus m do not matter, in a factor
turns : (x q r s m : ℕ) → (x + (q * m + r) * s) % m ≡ (x + r * s) % m
turns x q r s m =
    let e : q * m * s ≡ q * s * m = mul_assoc q m s ∙ ap (λ (n : ℕ). q * n) (mul_comm m s) ∙ sym (mul_assoc q s m) in
    let f : (q * m + r) * s ≡ q * m * s + r * s = add-mul (q * m) r s in
    ap (λ (n : ℕ). n % m) (omega arith) ∙ add-mul-mod_self_right (x + r * s) (q * s) m

-- a seed and n steps: it does not matter how often a sum or a product wraps on the way
pub stepped : (seed n : ℕ) {k p r : ℕ} → k ≡ n % 2 ^ 64 → p ≡ k * step % 2 ^ 64 → r ≡ (seed + p) % 2 ^ 64 → r ≡ (seed + n * step) % 2 ^ 64
stepped seed n e e' e'' =
    e''
    ∙ ap (λ (x : ℕ). (seed + x) % 2 ^ 64) (e' ∙ ap (λ (x : ℕ). x * step % 2 ^ 64) e)
    ∙ add-mod-mod seed (n % 2 ^ 64 * step) (2 ^ 64)
    ∙ sym (turns seed (n / 2 ^ 64) (n % 2 ^ 64) step (2 ^ 64))
    ∙ ap (λ (x : ℕ). (seed + x * step) % 2 ^ 64) (div-add-mod' n (2 ^ 64))
