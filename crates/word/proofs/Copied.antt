-- What a copy leaves of a list: the front is what was copied, the rest what it was. Assumes nothing.
use Prim.Native.Nat.{ℕ, ◌+◌, ◌-◌}
use mathlib.Core.List.{List, ◌++◌, append-nil, append_assoc}
use mathlib.Core.Path.{◌≡◌, sym, ap, ◌∙◌}
use native.Mathlib.Nat.{le_of_eq}
use native.Mathlib.Omega.{arith}
use lib.ListN.{length, take, drop, length-drop, drop_of_length-le}
use lib.Seq.{take_all, take-length, drop-drop}

-- s is copied to the front of o, as `bytes::copy` says it
pub copied : (s o : List ℕ) {o' : List ℕ} → o' ≡ take (length s) s ++ drop (length s) o → o' ≡ s ++ drop (length s) o
copied s o e = e ∙ ap (λ (l : List ℕ). l ++ drop (length s) o) (take-length s)

-- s fills o
pub copied_whole : (s o : List ℕ) {o' : List ℕ} → length s ≡ length o → o' ≡ take (length s) s ++ drop (length s) o → o' ≡ s
copied_whole s o l e =
    copied s o e ∙ ap (λ (r : List ℕ). s ++ r) (drop_of_length-le o {i = length s} (le_of_eq (sym l))) ∙ append-nil s

-- s is copied to the part of o that begins at a place and goes to the end
pub copied_part : (s o : List ℕ) (at : ℕ) {p : List ℕ} → p ≡ take (length s) s ++ drop (length s) (take (length o - at) (drop at o))
    → take at o ++ (p ++ drop (length o - at) (drop at o)) ≡ take at o ++ s ++ drop (at + length s) o
copied_part s o at {p} e =
    let l : length (drop at o) ≡ length o - at = length-drop at o in
    ap (λ (r : List ℕ). take at o ++ (p ++ r)) (drop_of_length-le (drop at o) {i = length o - at} (omega arith))
    ∙ ap (λ (r : List ℕ). take at o ++ r)
    (append-nil p
    ∙ copied s (take (length o - at) (drop at o)) e
    ∙ ap (λ (r : List ℕ). s ++ drop (length s) r) (take_all (length o - at) (drop at o) (omega arith))
    ∙ ap (λ (r : List ℕ). s ++ r) (drop-drop (length s) at o))
    ∙ sym (append_assoc (take at o) s (drop (at + length s) o))
