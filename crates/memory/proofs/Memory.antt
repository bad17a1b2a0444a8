-- What reading a block finds after another was put, and that two puts at different blocks can be swapped. Assumes nothing.
use mathlib.Core.Path.{◌≡◌, refl, sym, ap, ◌∙◌, subst}
use mathlib.Core.Logic.{◌≢◌}
use mathlib.Core.Bool.{Bool, true, false, cond}
use mathlib.Core.List.{List, ◌++◌}
use Prim.Native.Nat.{ℕ, ◌+◌, ◌-◌, ◌*◌, ◌/◌, ◌%◌, ◌≤◌, ◌<◌}
use native.Mathlib.Omega.{arith}
use lib.Dec.{ltb, eqb}
use lib.ListN.{length, get_or, take, drop, length-append, length-take, length-drop, get_or-append}
use lib.Seq.{get_or-append-add, get_or-take, get_or-drop, ext_get_or, length-take-le}
use borrow.Author.Tests.{ltb-true, ltb-false, eqb-true, eqb-false, ne_eqb}
use Rattle.block.specs.Block.{block_words}
use Rattle.memory.specs.Memory.{block, put}

module _ (b : ℕ) (x w : List ℕ) (fits : block_words * b + block_words ≤ length w) (full : length x ≡ block_words) where
  pub length-put : length (put b x w) ≡ length w
  unfolding put
  length-put = simp (length-append, length-take, length-drop) (omega arith)

  front : length (take (block_words * b) w) ≡ block_words * b
  front = length-take-le (block_words * b) w (omega arith)

  front2 : length (take (block_words * b) w ++ x) ≡ block_words * b + block_words
  front2 = length-append (take (block_words * b) w) x ∙ (omega (arith, front))

  low : (i : ℕ) → i < block_words * b → get_or (put b x w) i 0 ≡ get_or w i 0
  unfolding put
  low i h =
      get_or-append (take (block_words * b) w ++ x) (drop (block_words * b + block_words) w) 0 i (omega (arith, front2))
      ∙ get_or-append (take (block_words * b) w) x 0 i (omega (arith, front))
      ∙ get_or-take (block_words * b) w i 0 h

  mid : (i : ℕ) → i < block_words → get_or (put b x w) (block_words * b + i) 0 ≡ get_or x i 0
  unfolding put
  mid i h =
      get_or-append (take (block_words * b) w ++ x) (drop (block_words * b + block_words) w) 0 (block_words * b + i) (omega (arith, front2))
      ∙ ap (λ (n : ℕ). get_or (take (block_words * b) w ++ x) (n + i) 0) (sym front)
      ∙ get_or-append-add (take (block_words * b) w) x i 0

  high : (i : ℕ) → get_or (put b x w) (block_words * b + block_words + i) 0 ≡ get_or w (block_words * b + block_words + i) 0
  unfolding put
  high i =
      ap (λ (n : ℕ). get_or (take (block_words * b) w ++ x ++ drop (block_words * b + block_words) w) (n + i) 0) (sym front2)
      ∙ get_or-append-add (take (block_words * b) w ++ x) (drop (block_words * b + block_words) w) i 0
      ∙ get_or-drop (block_words * b + block_words) w i 0

  -- word i after a put
  pub put_at : (i : ℕ) → get_or (put b x w) i 0 ≡ cond (eqb (i / block_words) b) (get_or x (i % block_words) 0) (get_or w i 0)
  put_at i = go (eqb (i / block_words) b) refl
    where
      away : (t : Bool) → ltb i (block_words * b) ≡ t → i / block_words ≢ b → get_or (put b x w) i 0 ≡ get_or w i 0
      away true e n = low i (ltb-true i (block_words * b) e)
      away false e n =
          let ge : block_words * b ≤ i = ltb-false i (block_words * b) e in
          let at : block_words * b + block_words + (i - (block_words * b + block_words)) ≡ i = omega arith in
          subst (λ (m : ℕ). get_or (put b x w) m 0 ≡ get_or w m 0) at (high (i - (block_words * b + block_words)))

      go : (t : Bool) → eqb (i / block_words) b ≡ t → get_or (put b x w) i 0 ≡ cond t (get_or x (i % block_words) 0) (get_or w i 0)
      go true e =
          let q : i / block_words ≡ b = eqb-true (i / block_words) b e in
          let at : block_words * b + i % block_words ≡ i = omega arith in
          ap (λ (m : ℕ). get_or (put b x w) m 0) (sym at) ∙ mid (i % block_words) (omega arith)
      go false e = away (ltb i (block_words * b)) refl (eqb-false (i / block_words) b e)

pub length-block : (b : ℕ) (w : List ℕ) → block_words * b + block_words ≤ length w → length (block b w) ≡ block_words
unfolding block
length-block b w h = simp (length-take, length-drop) (omega arith)

pub block_at : (b : ℕ) (w : List ℕ) (i : ℕ) → i < block_words → get_or (block b w) i 0 ≡ get_or w (block_words * b + i) 0
unfolding block
block_at b w i h = get_or-take block_words (drop (block_words * b) w) i 0 h ∙ get_or-drop (block_words * b) w i 0

-- the block that was put
pub block-put_same : (b : ℕ) (x w : List ℕ) → block_words * b + block_words ≤ length w → length x ≡ block_words → block b (put b x w) ≡ x
block-put_same b x w h f =
    ext_get_or 0 (block b (put b x w)) x
    (length-block b (put b x w) (omega (arith, length-put b x w h f)) ∙ sym f)
    (λ i k.
    let i' : i < block_words = omega (arith, length-block b (put b x w) (omega (arith, length-put b x w h f))) in
    block_at b (put b x w) i i' ∙ mid b x w h f i i')

-- any other block
pub block-put_other : (b c : ℕ) (x w : List ℕ) → block_words * b + block_words ≤ length w → length x ≡ block_words → c ≢ b → block c (put b x w) ≡ block c w
unfolding block
block-put_other b c x w h f n =
    ext_get_or 0 (block c (put b x w)) (block c w)
    (simp (length-take, length-drop, length-put b x w h f))
    (λ i k.
    let i' : i < block_words = omega (arith, length-take block_words (drop (block_words * c) (put b x w))) in
    let d : (block_words * c + i) / block_words ≢ b = λ e. n (omega arith) in
    block_at c (put b x w) i i'
    ∙ put_at b x w h f (block_words * c + i)
    ∙ ap (λ (t : Bool). cond t (get_or x ((block_words * c + i) % block_words) 0) (get_or w (block_words * c + i) 0)) (ne_eqb ((block_words * c + i) / block_words) b d)
    ∙ sym (block_at c w i i'))

pub put_comm : (b c : ℕ) (x y w : List ℕ) → block_words * b + block_words ≤ length w → block_words * c + block_words ≤ length w → length x ≡ block_words → length y ≡ block_words
    → b ≢ c → put c y (put b x w) ≡ put b x (put c y w)
put_comm b c x y w hb hc fx fy n =
    let lb : length (put b x w) ≡ length w = length-put b x w hb fx in
    let lc : length (put c y w) ≡ length w = length-put c y w hc fy in
    let hb' : block_words * b + block_words ≤ length (put c y w) = omega arith in
    let hc' : block_words * c + block_words ≤ length (put b x w) = omega arith in
    ext_get_or 0 (put c y (put b x w)) (put b x (put c y w))
    (length-put c y (put b x w) hc' fy ∙ lb ∙ sym lc ∙ sym (length-put b x (put c y w) hb' fx))
    (λ i k.
    put_at c y (put b x w) hc' fy i
    ∙ ap (λ (v : ℕ). cond (eqb (i / block_words) c) (get_or y (i % block_words) 0) v) (put_at b x w hb fx i)
    ∙ swap (eqb (i / block_words) b) (eqb (i / block_words) c) (get_or x (i % block_words) 0) (get_or y (i % block_words) 0) (get_or w i 0)
    (λ p q. n (sym (eqb-true (i / block_words) b p) ∙ eqb-true (i / block_words) c q))
    ∙ ap (λ (v : ℕ). cond (eqb (i / block_words) b) (get_or x (i % block_words) 0) v) (sym (put_at c y w hc fy i))
    ∙ sym (put_at b x (put c y w) hb' fx i))
  where
    swap : (t u : Bool) (p q v : ℕ) → (t ≡ true → u ≡ true → ⊥) → cond u q (cond t p v) ≡ cond t p (cond u q v)
    swap true true p q v h = absurd (h refl refl)
    swap true false p q v h = refl
    swap false true p q v h = refl
    swap false false p q v h = refl

-- every word outside of block b is as it was
pub put_outside : (b : ℕ) (x w : List ℕ) → block_words * b + block_words ≤ length w → length x ≡ block_words → (i : ℕ) → i / block_words ≢ b → get_or (put b x w) i 0 ≡ get_or w i 0
put_outside b x w h f i n = put_at b x w h f i ∙ ap (λ (t : Bool). cond t (get_or x (i % block_words) 0) (get_or w i 0)) (ne_eqb (i / block_words) b n)
