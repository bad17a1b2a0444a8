-- Two reads into a buffer, one after the other: the buffer is then the front of xs, what ys has behind it, and a rest.
use Rattle.std.proofs.Common.{◌≡◌, ℕ, ◌+◌, ◌≤◌, List, ◌++◌, None, Some, sym, ap, ◌∙◌, arith, length, take, append_assoc, length-append, subst, drop}
use Rattle.std.proofs.Math.Seq.{take-add}
use Rattle.std.proofs.lemmas.List.{take_at, drop_at, take-append-le, length-take-le}
use Rattle.std.specs.declared.option.Option.{Option}
use Rattle.std.specs.Io.KnownBytes.{Consumes}

pub fits_more : (xs ys rest : List ℕ) (d n : ℕ) → d ≤ length xs → n ≤ length ys → d + n ≤ length (take d xs ++ (ys ++ rest))
fits_more xs ys rest d n h k =
    simp (length-append, length-take-le d xs h) (omega arith)

-- xs begins with what was read up to d, and ys has that front and n bytes more
pub consumes_more : (a b c : Option (List ℕ)) (xs ys : List ℕ) (d n : ℕ) → take d ys ≡ take d xs → Consumes a b (take d xs) → Consumes b c (take n (drop d ys))
    → Consumes a c (take (d + n) ys)
consumes_more None b c xs ys d n front p q = tt
consumes_more (Some u) None c xs ys d n front p q = absurd p
consumes_more (Some u) (Some v) None xs ys d n front p q = absurd q
consumes_more (Some u) (Some v) (Some w) xs ys d n front p q =
    let joined = take-add d n ys ∙ ap (λ l. l ++ take n (drop d ys)) front in
    p ∙ ap (λ l. take d xs ++ l) q ∙ sym (append_assoc (take d xs) (take n (drop d ys)) w) ∙ ap (λ l. l ++ w) (sym joined)

-- the buffer of a second read
pub consumes_both : (a b c : Option (List ℕ)) (xs ys rest : List ℕ) (d n : ℕ) → d ≤ length xs → n ≤ length ys → Consumes a b (take d xs) → Consumes b c (take n ys)
    → Consumes a c (take (d + n) (take d xs ++ (ys ++ rest)))
consumes_both a b c xs ys rest d n h k p q =
    let e = length-take-le d xs h in
    let second : take n (drop d (take d xs ++ (ys ++ rest))) ≡ take n ys = rw (drop_at (take d xs) (ys ++ rest) d e, take-append-le n ys rest k) in
    consumes_more a b c xs (take d xs ++ (ys ++ rest)) d n (take_at (take d xs) (ys ++ rest) d e) p (subst (λ (l : List ℕ). Consumes b c l) (sym second) q)
