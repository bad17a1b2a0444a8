-- XOR by digits of four bits, each pair looked up in a table that is one number. Assumes nothing.
use mathlib.Core.Bool.{true}
use mathlib.Core.Path.{◌≡◌, refl, sym, ap₂, ◌∙◌, fun_ext}
use Prim.Native.Nat.{ℕ, zero, suc, ◌+◌, ◌*◌, ◌/◌, ◌%◌, ◌^◌, ◌<◌}
use native.Mathlib.Nat.{mod-lt, div-add-mod', zero-lt-suc}
use lib.Bits.{bit_xor, xor_block}
use lib.Dec.{eqb}
use borrow.Author.Tests.{eqb-true}
use Rattle.job.specs.Jobs.{all}
use Rattle.job.proofs.Tests.{all_true}

-- digit 16 a + b, of four bits, is a XOR b
unfoldable pub pairs : ℕ
pairs = 0x123456789abcdef1032547698badcfe23016745ab89efcd32107654ba98fedc45670123cdef89ab54761032dcfe98ba67452301efcdab8976543210fedcba9889abcdef0123456798badcfe10325476ab89efcd23016745ba98fedc32107654cdef89ab45670123dcfe98ba54761032efcdab8967452301fedcba9876543210

unfoldable pub nibble : ℕ → ℕ → ℕ
nibble a b = pairs / 16 ^ (a * 16 + b) % 16

agrees : all 16 (λ a. all 16 (λ b. eqb (nibble a b) (bit_xor a b))) ≡ true
unfolding nibble pairs
agrees = refl

nibble_is : (a b : ℕ) → a < 16 → b < 16 → nibble a b ≡ bit_xor a b
nibble_is a b ha hb =
    eqb-true _ _
    (all_true 16 (λ n. eqb (nibble a n) (bit_xor a n)) (all_true 16 (λ m. all 16 (λ n. eqb (nibble m n) (bit_xor m n))) agrees a ha) b hb)

-- the n lowest digits by the table
unfoldable pub nibbles : ℕ → ℕ → ℕ → ℕ
nibbles zero a b = bit_xor a b
nibbles (suc n) a b = nibbles n (a / 16) (b / 16) * 16 + nibble (a % 16) (b % 16)

nibbles_is : (n a b : ℕ) → nibbles n a b ≡ bit_xor a b
unfolding nibbles
nibbles_is zero a b = refl
nibbles_is (suc n) a b =
    ap₂ (λ (x y : ℕ). x * 16 + y) (nibbles_is n (a / 16) (b / 16))
    (nibble_is (a % 16) (b % 16) (mod-lt a (zero-lt-suc 15)) (mod-lt b (zero-lt-suc 15)))
    ∙ sym (xor_block 4 (a / 16) (b / 16) (a % 16) (b % 16) (mod-lt a (zero-lt-suc 15)) (mod-lt b (zero-lt-suc 15)))
    ∙ ap₂ bit_xor (div-add-mod' a 16) (div-add-mod' b 16)

unfoldable pub quick : ℕ → ℕ → ℕ
quick a b = nibbles 16 a b

pub quick_is : bit_xor ≡ quick
unfolding quick
quick_is = sym (fun_ext (λ a. fun_ext (λ b. nibbles_is 16 a b)))
