-- `window`: document 01's reference lane is RFC 9106's, its area is the size of the set W of that lane, and its reference block is the entry
-- zz of W. Every part of W is a ring of columns, and so is W: it begins at `area_start` and has `area` columns. Assumes nothing.
use mathlib.Core.Bool.{Bool, true, false, cond}
use mathlib.Core.Logic.{◌⊎◌, inl, inr}
use mathlib.Core.List.{List, ◌++◌}
use mathlib.Core.Path.{◌≡◌, refl, sym, ap, ◌∙◌}
use Prim.Native.Nat.{ℕ, ◌+◌, ◌-◌, ◌*◌, ◌/◌, ◌%◌, ◌^◌, ◌≤◌, ◌<◌}
use native.Mathlib.Nat.{mod-lt, mod-eq_of_lt, mod-add-mod, add-mul-mod_self_right, add-mod_right}
use native.Mathlib.Omega.{arith}
use lib.Dec.{eqb, ltb}
use lib.ListN.{length, get_or}
use borrow.Author.Tests.{eqb-true, eqb-false, ltb-true, ltb-false, lt-ltb, le-ltb}
use Rattle.params.specs.Limits.{slices}
use Rattle.position.specs.Position.{column, previous_column, reference_lane, finished_length, area, place, area_start, reference_column}
use Rattle.position.specs.Window.{computed_slices, blocks_of, finished_blocks, excluding, current_blocks, but_last, own_w, W, zz}
use Rattle.position.proofs.Accepted.{Filled}
use Rattle.position.proofs.Bound.{own, area_bound, share-lt}
use Rattle.position.proofs.Columns.{column-lt, previous_lt, previous_next}
use Rattle.position.proofs.Lane.{finished_le}
use Rattle.position.proofs.Referring.{mod_once}
use Rattle.position.proofs.Ring.{ring-excluding, last-table, ring, length-ring, get_or-ring, ring-append, ring-but_last, ring_round, segment_ring, blocks_ring}
use Rattle.word.specs.Table.{table}

pub record IsWindow (p s r sl l k x : ℕ) : Type 0 where
  -- "l = J_2 mod p"; "for the first pass (r=0) and the first slice (sl=0), the block is taken from the current lane"
  pub lane_first : r ≡ 0 → sl ≡ 0 → reference_lane p r sl l x ≡ l
  pub lane_is : ((r ≡ 0) × (sl ≡ 0) → ⊥) → reference_lane p r sl l x ≡ x / 2 ^ 32 % p
  -- zz of W of that lane, with J_1 the low 32 bits
  pub area_is : area s r sl k (own p r sl l x) ≡ length (W s r sl k (own p r sl l x))
  pub inside : zz (length (W s r sl k (own p r sl l x))) (x % 2 ^ 32) < length (W s r sl k (own p r sl l x))
  pub block_is : reference_column p s r sl l k x
      ≡ get_or (W s r sl k (own p r sl l x)) (zz (length (W s r sl k (own p r sl l x))) (x % 2 ^ 32)) 0

-- ---- the lane

first_lane : (p r sl l x : ℕ) → r ≡ 0 → sl ≡ 0 → reference_lane p r sl l x ≡ l
unfolding reference_lane
first_lane p r sl l x z z' = rw (z, z')

later_lane : (p r sl l x : ℕ) → ((r ≡ 0) × (sl ≡ 0) → ⊥) → reference_lane p r sl l x ≡ x / 2 ^ 32 % p
unfolding reference_lane
later_lane p r sl l x n = go (eqb r 0) refl (eqb sl 0) refl
  where
    go : (t : Bool) → eqb r 0 ≡ t → (u : Bool) → eqb sl 0 ≡ u → reference_lane p r sl l x ≡ x / 2 ^ 32 % p
    go true e true e' = absurd (n (eqb-true r 0 e, eqb-true sl 0 e'))
    go true e false e' = rw (e, e')
    go false e u e' = rw e

-- ---- where the area starts, and how long the finished segments are, from the segments computed so far

-- two numbers whose next ones are the same going round
one_back : (q a n : ℕ) → a < q → (a + 1) % q ≡ (n + 1) % q → a ≡ n % q
one_back q a n h e = go (mod_once (a + 1) q (omega arith)) (mod_once (b + 1) q (omega (arith, small)))
  where
    b : ℕ
    b = n % q

    small : b < q
    small = mod-lt n (omega arith)

    same : (a + 1) % q ≡ (b + 1) % q
    same = e ∙ sym (mod-add-mod n q 1)

    Once : ℕ → Type 0
    Once c = (((c + 1) % q ≡ c + 1) × (c + 1 < q)) ⊎ (((c + 1) % q + q ≡ c + 1) × (q ≤ c + 1))

    go : Once a → Once b → a ≡ b
    go (inl m) (inl m') = omega (arith, same, small)
    go (inl m) (inr m') = omega (arith, same, small)
    go (inr m) (inl m') = omega (arith, same, small)
    go (inr m) (inr m') = omega (arith, same, small)

-- whole turns round the lane go away
turns : (a b s : ℕ) → (a + b * slices) * s % (slices * s) ≡ a * s % (slices * s)
turns a b s =
    let e : (a + b * slices) * s ≡ a * s + b * (slices * s) = omega arith in
    ap (λ (z : ℕ). z % (slices * s)) e ∙ add-mul-mod_self_right (a * s) b (slices * s)

module _ (s r sl : ℕ) (four : sl < slices) where
  start_zero : eqb r 0 ≡ true → area_start s r sl ≡ 0
  unfolding area_start
  start_zero e = simp e

  start_next : eqb r 0 ≡ false → sl + 1 < slices → area_start s r sl ≡ (sl + 1) * s
  unfolding area_start
  start_next e h = simp (e, lt-ltb (sl + 1) slices h)

  start_last : eqb r 0 ≡ false → slices ≤ sl + 1 → area_start s r sl ≡ 0
  unfolding area_start
  start_last e h = simp (e, le-ltb (sl + 1) slices h)

  finished_at : (t : Bool) → eqb r 0 ≡ t → finished_length s r sl ≡ cond t (sl * s) (slices * s - s)
  unfolding finished_length
  finished_at t e = ap (λ (t : Bool). cond t (sl * s) (slices * s - s)) e

  -- the segments computed before this one, and how many of them are not among the last three
  computed : ℕ
  computed = slices * r + sl

  older : ℕ
  older = computed - (slices - 1)

  start_is : older * s % (slices * s) ≡ area_start s r sl % (slices * s)
  unfolding computed older
  start_is = go (eqb r 0) refl (ltb (sl + 1) slices) refl
    where
      go : (t : Bool) → eqb r 0 ≡ t → (u : Bool) → ltb (sl + 1) slices ≡ u → older * s % (slices * s) ≡ area_start s r sl % (slices * s)
      go true e u h =
          let z : r ≡ 0 = eqb-true r 0 e in
          let o : older ≡ 0 = omega arith in
          let n : older * s ≡ area_start s r sl = ap (λ (n : ℕ). n * s) o ∙ omega (arith, start_zero e) in
          ap (λ (n : ℕ). n % (slices * s)) n
      go false e true h =
          let z : r ≡ 0 → ⊥ = eqb-false r 0 e in
          let o : older ≡ sl + 1 + (r - 1) * slices = omega arith in
          ap (λ (n : ℕ). n * s % (slices * s)) o ∙ turns (sl + 1) (r - 1) s ∙ ap (λ (n : ℕ). n % (slices * s)) (sym (start_next e (ltb-true (sl + 1) slices h)))
      go false e false h =
          let z : r ≡ 0 → ⊥ = eqb-false r 0 e in
          let three : slices ≤ sl + 1 = ltb-false (sl + 1) slices h in
          let o : older ≡ 0 + r * slices = omega arith in
          let n : 0 * s ≡ area_start s r sl = omega (arith, start_last e (ltb-false (sl + 1) slices h)) in
          ap (λ (n : ℕ). n * s % (slices * s)) o ∙ turns 0 r s ∙ ap (λ (n : ℕ). n % (slices * s)) n

  finished_is : (computed - older) * s ≡ finished_length s r sl
  unfolding computed older
  finished_is = go (eqb r 0) refl
    where
      go : (t : Bool) → eqb r 0 ≡ t → (computed - older) * s ≡ finished_length s r sl
      go true e =
          let z : r ≡ 0 = eqb-true r 0 e in
          let o : computed - older ≡ sl = omega arith in
          ap (λ (n : ℕ). n * s) o ∙ sym (finished_at true e)
      go false e =
          let z : r ≡ 0 → ⊥ = eqb-false r 0 e in
          let o : computed - older ≡ slices - 1 = omega arith in
          ap (λ (n : ℕ). n * s) o ∙ omega (arith, finished_at false e)

  -- behind the finished segments comes this one
  behind : sl * s % (slices * s) ≡ (area_start s r sl + finished_length s r sl) % (slices * s)
  behind = go (eqb r 0) refl (ltb (sl + 1) slices) refl
    where
      go : (t : Bool) → eqb r 0 ≡ t → (u : Bool) → ltb (sl + 1) slices ≡ u → sl * s % (slices * s) ≡ (area_start s r sl + finished_length s r sl) % (slices * s)
      go true e u h =
          let n : sl * s ≡ area_start s r sl + finished_length s r sl = omega (arith, start_zero e, finished_at true e) in
          ap (λ (n : ℕ). n % (slices * s)) n
      go false e true h =
          let n : sl * s + slices * s ≡ area_start s r sl + finished_length s r sl = omega (arith, start_next e (ltb-true (sl + 1) slices h), finished_at false e) in
          sym (add-mod_right (sl * s) (slices * s)) ∙ ap (λ (n : ℕ). n % (slices * s)) n
      go false e false h =
          let three : sl ≡ slices - 1 = omega (arith, ltb-false (sl + 1) slices h) in
          let m : sl * s ≡ (slices - 1) * s = ap (λ (n : ℕ). n * s) three in
          let n : sl * s ≡ area_start s r sl + finished_length s r sl = omega (arith, start_last e (ltb-false (sl + 1) slices h), finished_at false e) in
          ap (λ (n : ℕ). n % (slices * s)) n

  -- ---- the parts of W

  finished_ring : finished_blocks s r sl ≡ ring s (area_start s r sl) (finished_length s r sl)
  unfolding computed_slices computed older
  finished_ring =
      ap (λ (l : List ℕ). blocks_of s l) (last-table (λ n. n % slices) computed (slices - 1))
      ∙ blocks_ring s older (computed - older)
      ∙ ap (λ (n : ℕ). ring s (older * s) n) finished_is
      ∙ ring_round s (older * s) (area_start s r sl) (finished_length s r sl) start_is

  current_ring : (k : ℕ) → k ≤ s → current_blocks s sl k ≡ ring s (area_start s r sl + finished_length s r sl) k
  current_ring k inside =
      let this : sl % slices ≡ sl = mod-eq_of_lt four in
      ap (λ (n : ℕ). table (λ i. column s n i) k) (sym this)
      ∙ segment_ring s sl k inside
      ∙ ring_round s (sl * s) (area_start s r sl + finished_length s r sl) k behind

  -- the previous column is the last of both
  previous_is : (k : ℕ) → k < s → 1 ≤ finished_length s r sl + k
      → previous_column s sl k ≡ (area_start s r sl + (finished_length s r sl + k - 1)) % (slices * s)
  previous_is k inside some =
      let n : ℕ = area_start s r sl + (finished_length s r sl + k - 1) in
      let next : n + 1 ≡ area_start s r sl + finished_length s r sl + k = omega arith in
      let at : (n + 1) % (slices * s) ≡ column s sl k =
      ap (λ (z : ℕ). z % (slices * s)) next
      ∙ sym (mod-add-mod (area_start s r sl + finished_length s r sl) (slices * s) k)
      ∙ ap (λ (z : ℕ). (z + k) % (slices * s)) (sym behind)
      ∙ mod-add-mod (sl * s) (slices * s) k
      ∙ mod-eq_of_lt (column-lt s sl k four inside) in
      one_back (slices * s) (previous_column s sl k) n (previous_lt s sl k four inside) (previous_next s sl k four inside ∙ sym at)

  -- ---- W itself

  own_ring : (k : ℕ) → k < s → 1 ≤ finished_length s r sl + k → own_w s r sl k ≡ ring s (area_start s r sl) (finished_length s r sl + k - 1)
  own_ring k inside some =
      let n : ℕ = finished_length s r sl + k - 1 in
      let all : finished_length s r sl + k ≡ n + 1 = omega arith in
      ap (λ (l : List ℕ). excluding (previous_column s sl k) (l ++ current_blocks s sl k)) finished_ring
      ∙ ap (λ (l : List ℕ). excluding (previous_column s sl k) (ring s (area_start s r sl) (finished_length s r sl) ++ l)) (current_ring k (omega arith))
      ∙ ap (λ (l : List ℕ). excluding (previous_column s sl k) l) (ring-append s (area_start s r sl) (finished_length s r sl) k)
      ∙ ap (λ (z : ℕ). excluding (previous_column s sl k) (ring s (area_start s r sl) z)) all
      ∙ ap (λ (z : ℕ). excluding z (ring s (area_start s r sl) (n + 1))) (previous_is k inside some)
      ∙ ring-excluding s (area_start s r sl) n (omega (arith, finished_le s r sl four))

  -- the last one is excluded at a segment's first block
  dropped : (w : List ℕ) (k n m : ℕ) → w ≡ ring s (area_start s r sl) n → n - cond (eqb k 0) 1 0 ≡ m
      → cond (eqb k 0) (but_last w) w ≡ ring s (area_start s r sl) m
  dropped w k n m e h = go (eqb k 0) h
    where
      go : (t : Bool) → n - cond t 1 0 ≡ m → cond t (but_last w) w ≡ ring s (area_start s r sl) m
      go true h =
          ap (λ (l : List ℕ). but_last l) e ∙ ring-but_last s (area_start s r sl) n ∙ ap (λ (z : ℕ). ring s (area_start s r sl) z) h
      go false h =
          let all : n ≡ m = omega arith in
          e ∙ ap (λ (z : ℕ). ring s (area_start s r sl) z) all

  -- what is left is the area, in the own lane and in another
  W_ring : (k : ℕ) (own : Bool) → k < s → (own ≡ true → 1 ≤ finished_length s r sl + k)
      → W s r sl k own ≡ ring s (area_start s r sl) (area s r sl k own)
  unfolding W area
  W_ring k true inside some = own_ring k inside (some refl)
  W_ring k false inside some = dropped (finished_blocks s r sl) k (finished_length s r sl) (area s r sl k false) finished_ring refl

module _ {p s t r sl l k : ℕ} (two : 2 ≤ s) (f : Filled p s t r sl l k) (x : ℕ) where
  pub window : IsWindow p s r sl l k x
  unfolding zz reference_column place
  window =
      let o : Bool = own p r sl l x in
      let a : ℕ = area s r sl k o in
      let w : W s r sl k o ≡ ring s (area_start s r sl) a = W_ring s r sl f.slice k o f.inside (area_bound two f x).of_own in
      let size : length (W s r sl k o) ≡ a = ap length w ∙ length-ring s (area_start s r sl) a in
      let within : zz a (x % 2 ^ 32) < a = omega (arith, share-lt a x (area_bound two f x).some) in
      record {
        lane_first = first_lane p r sl l x;
        lane_is = later_lane p r sl l x;
        area_is = sym size;
        inside = rw size within;
        block_is = rw (size, w) (sym (get_or-ring s (area_start s r sl) a (zz a (x % 2 ^ 32)) within));
      }
