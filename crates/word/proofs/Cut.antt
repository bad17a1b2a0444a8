-- The four lowest bytes of a number are those of what is left of it by 2^32. Assumes nothing.
use Prim.Native.Nat.{ℕ, suc, ◌+◌, ◌*◌, ◌/◌, ◌%◌, ◌<◌}
use mathlib.Core.List.{List, [], ◌∷◌}
use mathlib.Core.Path.{◌≡◌, ap, ◌∙◌}
use native.Mathlib.Omega.{arith}
use lib.Arith.{mod-mul}
use Rattle.word.specs.Word.{half, to_le}

low : (x y : ℕ) → y < 256 → (x * 256 + y) % 256 ≡ y
low x y h = omega arith

high : (x y : ℕ) → y < 256 → (x * 256 + y) / 256 ≡ x
high x y h = omega arith

-- one byte
more : (k m n : ℕ) → 0 < m → to_le k (n / 256 % m) ≡ to_le k (n / 256) → to_le (suc k) (n % (m * 256)) ≡ to_le (suc k) n
more k m n some rest =
    let h : n % 256 < 256 = omega arith in
    ap (to_le (suc k)) (mod-mul n {m = m} {c = 256} some (omega arith))
    ∙ ap (λ (b : ℕ). b ∷ to_le k ((n / 256 % m * 256 + n % 256) / 256)) (low (n / 256 % m) (n % 256) h)
    ∙ ap (λ (q : ℕ). n % 256 ∷ to_le k q) (high (n / 256 % m) (n % 256) h)
    ∙ ap (λ (l : List ℕ). n % 256 ∷ l) rest

one : (n : ℕ) → to_le 1 (n % 256) ≡ to_le 1 n
one n =
    let e : n % 256 % 256 ≡ n % 256 = omega arith in
    ap (λ (b : ℕ). b ∷ []) e

pub four : (n : ℕ) → to_le 4 (n % half) ≡ to_le 4 n
four n =
    more 3 16777216 n (omega arith)
    (more 2 65536 (n / 256) (omega arith) (more 1 256 (n / 256 / 256) (omega arith) (one (n / 256 / 256 / 256))))
