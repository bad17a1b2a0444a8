-- A count of 128 bits in two words: what the compression sees of it, and a word added to it. Assumes nothing.
use Rattle.std.proofs.Common.{◌≡◌, ℕ, zero, ◌+◌, ◌*◌, ◌/◌, ◌%◌, ◌^◌, ◌<◌, Bool, true, false, List, [], ◌∷◌, ◌++◌, length, sym, ap, ◌∙◌, mod-lt, mod-eq_of_lt, add-mul, add_comm, div-add-mod', arith, lit<}
use native.Mathlib.Nat.{add-mul-div_right, add-mul-mod_self_right}
use lib.Pow.{low as low_part, high as high_part}
use Rattle.std.specs.Bool.{FalseIff}
use Rattle.std.specs.Int.{from_bool}
use Rattle.word.specs.Table.{table}
use Rattle.word.proofs.Table.{table_self}
use Rattle.blake2b_compression.specs.declared.Count.{Count}
use Rattle.blake2b_compression.specs.Compression.{◌!◌, ◌⊕◌, state_words, IV, flips, local, words, F, count_of}

-- the second half of the local vector
unfoldable pub tail : ℕ → ℕ → ℕ → List ℕ
tail a b f = IV ! 0 ∷ IV ! 1 ∷ IV ! 2 ∷ IV ! 3 ∷ IV ! 4 ⊕ a ∷ IV ! 5 ⊕ b ∷ IV ! 6 ⊕ f ∷ IV ! 7 ∷ []

local_is : (h : List ℕ) (t a b f : ℕ) (last : Bool) → a ≡ t % 2 ^ 64 → b ≡ t / 2 ^ 64 % 2 ^ 64 → f ≡ flips last → h ++ tail a b f ≡ local h t last
unfolding local tail
local_is h t a b f last p q r = rw (p, q, r)

low_word : (low high : ℕ) → low < 2 ^ 64 → (low + high * 2 ^ 64) % 2 ^ 64 ≡ low
low_word low high a = rw (add_comm low (high * 2 ^ 64)) (low_part high 64 a)

high_word : (low high : ℕ) → low < 2 ^ 64 → high < 2 ^ 64 → (low + high * 2 ^ 64) / 2 ^ 64 % 2 ^ 64 ≡ high
high_word low high a b = rw (add_comm low (high * 2 ^ 64), high_part high 64 a) (mod-eq_of_lt b)

pub vector_is : (h : List ℕ) (low high f : ℕ) (last : Bool) → length h ≡ state_words → low < 2 ^ 64 → high < 2 ^ 64 → f ≡ flips last
    → table (λ i. h ! i) state_words ++ tail low high f ≡ local h (low + high * 2 ^ 64) last
vector_is h low high f last n a b e =
    ap (λ (l : List ℕ). l ++ tail low high f) (ap (table (λ i. h ! i)) (sym n) ∙ table_self h)
    ∙ local_is h (low + high * 2 ^ 64) low high f last (sym (low_word low high a)) (sym (high_word low high a b)) e

-- the compression sees of a count its two low words alone
F_count : (h m : List ℕ) (t low high : ℕ) (last : Bool) → low ≡ t % 2 ^ 64 → high ≡ t / 2 ^ 64 % 2 ^ 64 → F h m (low + high * 2 ^ 64) last ≡ F h m t last
unfolding F local
F_count h m t low high last p q =
    let a : low < 2 ^ 64 = rw p (mod-lt t (lit< tt)) in
    let b : high < 2 ^ 64 = rw q (mod-lt (t / 2 ^ 64) (lit< tt)) in
    rw (low_word low high a, high_word low high a b, p, q)

-- a block that is compressed with a count in two words
pub compressed : (h b : List ℕ) (t : ℕ) (last : Bool) {g : List ℕ} {c : Count} → g ≡ F h (words b) (c.low + c.high * 2 ^ 64) last → c ≡ count_of t
    → g ≡ F h (words b) t last
unfolding count_of
compressed h b t last {c = c} e p =
    e ∙ F_count h (words b) t c.low c.high last (ap (λ (k : Count). k.low) p) (ap (λ (k : Count). k.high) p)

-- ---- a word added to a count, with a carry and without
two_words : (t : ℕ) {l g : ℕ} → l ≡ t % 2 ^ 64 → g ≡ t / 2 ^ 64 % 2 ^ 64 → ◌≡◌ {A = Count} (record { low = l; high = g }) (count_of t)
unfolding count_of
two_words t p q = λ i. record { low = p i; high = q i }

carry : (low high n l k : ℕ) → l + k * 2 ^ 64 ≡ low + n → low + high * 2 ^ 64 + n ≡ l + (high + k) * 2 ^ 64
carry low high n l k e = rw (add-mul high k (2 ^ 64)) (omega arith)

carries : (low n l : ℕ) (c : Bool) → low < 2 ^ 64 → n < 2 ^ 64 → l ≡ (low + n) % 2 ^ 64 → FalseIff c (low + n < 2 ^ 64) → l + from_bool c * 2 ^ 64 ≡ low + n
carries low n l true hl hn e f = omega (arith, f)
carries low n l false hl hn e f = omega arith

pub added : (low high n : ℕ) (c : Bool) {l g : ℕ} → low < 2 ^ 64 → n < 2 ^ 64
    → l ≡ (low + n) % 2 ^ 64 → FalseIff c (low + n < 2 ^ 64) → g ≡ (high + from_bool c) % 2 ^ 64
    → ◌≡◌ {A = Count} (record { low = l; high = g }) (count_of (low + high * 2 ^ 64 + n))
added low high n c {l} {g} hl hn e f r =
    let w : low + high * 2 ^ 64 + n ≡ l + (high + from_bool c) * 2 ^ 64 = carry low high n l (from_bool c) (carries low n l c hl hn e f) in
    let s : l < 2 ^ 64 = omega arith in
    two_words (low + high * 2 ^ 64 + n)
    (rw w (sym (low_word l (high + from_bool c) s)))
    (rw (w, add_comm l ((high + from_bool c) * 2 ^ 64), high_part (high + from_bool c) 64 s) r)

-- ---- a count of any size: what is kept of it counts on as the count itself does, in the two words that are seen
pos : zero < 2 ^ 64
pos = lit< tt

abbrev pub seen : ℕ → ℕ
seen t = t % 2 ^ 64 + t / 2 ^ 64 % 2 ^ 64 * 2 ^ 64

whole_count : (t x : ℕ) → t + x ≡ (seen t + x) + t / 2 ^ 64 / 2 ^ 64 * 2 ^ 64 * 2 ^ 64
whole_count t x =
    let a = div-add-mod' t (2 ^ 64) in
    let b = ap (λ (u : ℕ). u * 2 ^ 64) (div-add-mod' (t / 2 ^ 64) (2 ^ 64)) in
    let d = add-mul (t / 2 ^ 64 / 2 ^ 64 * 2 ^ 64) (t / 2 ^ 64 % 2 ^ 64) (2 ^ 64) in
    regroup (t / 2 ^ 64 / 2 ^ 64 * 2 ^ 64 * 2 ^ 64) (t / 2 ^ 64 % 2 ^ 64 * 2 ^ 64) (t % 2 ^ 64) (t / 2 ^ 64 * 2 ^ 64) t x a (sym d ∙ b)
  where
    regroup : (p q r u s y : ℕ) → u + r ≡ s → p + q ≡ u → s + y ≡ (r + q + y) + p
    regroup p q r u s y e f = omega arith

pub seen_low : (t x : ℕ) → (seen t + x) % 2 ^ 64 ≡ (t + x) % 2 ^ 64
seen_low t x = sym (ap (λ (u : ℕ). u % 2 ^ 64) (whole_count t x) ∙ add-mul-mod_self_right (seen t + x) (t / 2 ^ 64 / 2 ^ 64 * 2 ^ 64) (2 ^ 64))

pub seen_high : (t x : ℕ) → (seen t + x) / 2 ^ 64 % 2 ^ 64 ≡ (t + x) / 2 ^ 64 % 2 ^ 64
seen_high t x =
    sym
    (ap (λ (u : ℕ). u / 2 ^ 64 % 2 ^ 64) (whole_count t x)
    ∙ ap (λ (u : ℕ). u % 2 ^ 64) (add-mul-div_right (seen t + x) (t / 2 ^ 64 / 2 ^ 64 * 2 ^ 64) pos)
    ∙ add-mul-mod_self_right ((seen t + x) / 2 ^ 64) (t / 2 ^ 64 / 2 ^ 64) (2 ^ 64))

pub F_seen : (h m : List ℕ) (t x : ℕ) (l : Bool) → F h m (seen t + x) l ≡ F h m (t + x) l
unfolding F local
F_seen h m t x l = rw (seen_low t x, seen_high t x)
