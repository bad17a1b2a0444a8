-- The digits of a list of bytes, one by one, and a text into which they are written. Assumes nothing.
use Prim.Native.Nat.{ℕ, zero, suc, ◌+◌, ◌*◌, ◌/◌, ◌%◌, ◌<◌, ◌≤◌}
use mathlib.Core.List.{List, [], ◌∷◌, ◌++◌, append_assoc}
use mathlib.Core.Bool.{true, false}
use mathlib.Core.Path.{◌≡◌, refl, sym, ap, ◌∙◌}
use native.Mathlib.Numerals.{add-one}
use native.Mathlib.Omega.{arith}
use borrow.Author.Tests.{le-leb, lt-leb}
use borrow.Rule.Slice.PartMut.{put_mid}
use lib.ListN.{get_or, take, drop, length, length-append, length-drop}
use lib.Seq.{take_all, take_at, drop_at, length-take-le}
use Rattle.std.proofs.lemmas.List.{drop-drop}
use Rattle.hex_text.specs.Hex.{hex_of, hex_digits, fits}
use Rattle.hex_text.specs.Promises.{WritePromise}

pub length_digits : (bs : List ℕ) → length (hex_digits bs) ≡ 2 * length bs
unfolding hex_digits
length_digits [] = refl
length_digits (b ∷ bs) = omega (arith, length_digits bs)

-- one byte more
digits_suc : (bs : List ℕ) (k : ℕ) → k < length bs → hex_digits (take (suc k) bs) ≡ hex_digits (take k bs) ++ hex_of (get_or bs k 0)
unfolding hex_digits
digits_suc [] k h = absurd (omega arith)
digits_suc (b ∷ bs) zero h = refl
digits_suc (b ∷ bs) (suc k) h = ap (λ (l : List ℕ). hex_of b ++ l) (digits_suc bs k (omega arith))

-- a loop that writes the digits of a byte behind those of the bytes before
pub one_more : (bs text : List ℕ) (k n : ℕ) {t pair : List ℕ} → k < length bs → n ≡ 2 → pair ≡ hex_of (get_or bs k 0) → t ≡ hex_digits (take k bs) ++ drop (2 * k) text
    → put_mid (2 * k) n t pair ≡ hex_digits (take (k + 1) bs) ++ drop (2 * (k + 1)) text
one_more bs text k n {t} {pair} h two is e =
    let done = hex_digits (take k bs) in
    let l : length done ≡ 2 * k = length_digits (take k bs) ∙ ap (λ (m : ℕ). 2 * m) (length-take-le k bs (omega arith)) in
    let past : 2 * (k + 1) ≡ 2 * k + 2 = omega arith in
    rw (e, two, is, take_at done (drop (2 * k) text) (2 * k) l, drop_at done (drop (2 * k) text) (2 * k) l, drop-drop 2 (2 * k) text, past, add-one, digits_suc bs k h, append_assoc)

-- digit k is one of the two of byte k / 2
pub digit_is : (bs : List ℕ) (k : ℕ) → k < 2 * length bs → get_or (hex_digits bs) k 0 ≡ get_or (hex_of (get_or bs (k / 2) 0)) (k % 2) 0
unfolding hex_digits
digit_is [] k h = absurd (omega arith)
digit_is (b ∷ bs) zero h = refl
digit_is (b ∷ bs) (suc zero) h = refl
digit_is (b ∷ bs) (suc (suc k)) h =
    let q : suc (suc k) / 2 ≡ suc (k / 2) = omega arith in
    let r : suc (suc k) % 2 ≡ k % 2 = omega arith in
    digit_is bs k (omega arith) ∙ rw (q, r)

-- they count themselves at the text's start
pub counted : (d text : List ℕ) (n : ℕ) → n ≡ length d → n ≡ length (take n (d ++ drop n text))
counted d text n e = e ∙ sym (ap length (take_at d (drop n text) n (sym e)))

-- what a text becomes by a call of `write`, with room for the digits and without
pub refused : (bs text : List ℕ) → length text < 2 * length bs → WritePromise bs text 0 text
refused bs text h =
    let n : fits bs text ≡ false = lt-leb (2 * length bs) (length text) h in
    record { count = rw n; content = rw n; within = omega arith; counted = refl }

pub done : (bs text t : List ℕ) (n : ℕ) → n ≡ 2 * length bs → n ≤ length text → t ≡ take n (hex_digits bs) ++ drop n text → WritePromise bs text n t
done bs text t n e h w =
    let y : fits bs text ≡ true = le-leb (2 * length bs) (length text) (omega arith) in
    let l : length (hex_digits bs) ≡ n = length_digits bs ∙ sym e in
    let a : t ≡ hex_digits bs ++ drop n text = w ∙ rw (take_all n (hex_digits bs) (omega arith)) in
    record {
      count = rw y e;
      content = rw (y, ← e) a;
      within = rw a (simp (length-append, length-drop) (omega arith));
      counted = rw a (counted (hex_digits bs) text n (sym l));
    }
