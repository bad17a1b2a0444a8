-- The number that the bytes from a place on are, read as a chunk of a rest, or as zeros where there are too few. Assumes nothing.
use Prim.Native.Nat.{ℕ, zero, suc, ◌+◌, ◌-◌, ◌<◌, ◌≤◌}
use denote.Ref.{Bor}
use mathlib.Core.List.{List, []}
use mathlib.Core.Logic.{◌⊎◌, ⊎_elim}
use mathlib.Core.Path.{◌≡◌, refl, sym, ap, ◌∙◌}
use native.Mathlib.Decide.{dec_lt}
use native.Mathlib.Omega.{arith}
use lib.ListN.{length, take, drop, replicate, length-drop, drop_of_length-le}
use lib.Seq.{take_all}
use Rattle.std.specs.Array.{IsFirstChunk}
use Rattle.std.specs.List.{slice_range}
use Rattle.std.specs.declared.option.Option.{Option}
use Rattle.std.specs.declared.option.Option.TheVariants.{None, Some}
use Rattle.std.specs.Option.{MatchOption, unwrap_or, option_copied}
use Rattle.word.specs.Word.{from_le, number_at}
use Rattle.word.proofs.Part.{inside, outside}

zeros : (n : ℕ) → from_le (replicate n 0) ≡ 0
zeros zero = refl
zeros (suc n) = omega (arith, zeros n)

read : (n : ℕ) (s : List ℕ) (at : ℕ) → n ≤ length s - at → from_le (take n (drop at s)) ≡ number_at n s at
read zero s at h =
    elim (dec_lt (length s) (at + 0)) [
      | yes b ↦ sym (outside 0 s at b)
      | no b ↦ sym (inside 0 s at (omega arith))
    ]
read (suc n) s at h = sym (inside (suc n) s at (omega arith))

-- the rest of a list from a place on: nothing past its end
pub rest_of : (s : List ℕ) (at : ℕ) (o : Option (Bor (List ℕ))) (d : Bor (List ℕ)) {r : Bor (List ℕ)} → d.now ≡ []
    → MatchOption o ((length s < at) ⊎ (length s < length s)) (λ x. (at ≤ length s) × (length s ≤ length s) × (x.now ≡ slice_range s at (length s)) × (length x.now + at ≡ length s))
    → r ≡ unwrap_or o d → r.now ≡ drop at s
rest_of s at None d e h is =
    let past : length s ≤ at = ⊎_elim (λ (b : length s < at). omega arith) (λ (b : length s < length s). omega arith) h in
    ap (λ (b : Bor (List ℕ)). b.now) is ∙ e ∙ sym (drop_of_length-le s {i = at} past)
rest_of s at (Some x) d e h is = ap (λ (b : Bor (List ℕ)). b.now) is ∙ h.2 ∙ take_all (length s - at) (drop at s) (omega (arith, length-drop at s))

-- the first n bytes of the rest, or zeros
pub first_of : (n : ℕ) (s : List ℕ) (at : ℕ) (rest : List ℕ) (o : Option (Bor (List ℕ))) → rest ≡ drop at s
    → MatchOption o (length rest < n) (λ y. IsFirstChunk rest y.now n)
    → from_le (unwrap_or (option_copied o) (replicate n 0)) ≡ number_at n s at
first_of n s at rest None e h = zeros n ∙ sym (outside n s at (omega (arith, h, ap length e, length-drop at s)))
first_of n s at rest (Some y) e h = ap from_le (h.same ∙ ap (take n) e) ∙ read n s at (omega (arith, h.enough, ap length e, length-drop at s))
