-- What a job's tests say, as facts: a job inside filling, a job that stands complete, and a step or a finish that is accepted; each both
-- ways. Then a job that moves. Assumes nothing.
use mathlib.Core.Path.{◌≡◌, refl, sym, ap, ◌∙◌, subst}
use mathlib.Core.Logic.{◌≢◌, ◌⊎◌, inl, inr}
use mathlib.Core.Bool.{Bool, true, false, cond, not, ◌&&◌, ◌||◌}
use mathlib.Core.List.{List}
use Prim.Native.Nat.{ℕ, zero, suc, ◌+◌, ◌*◌, ◌≤◌, ◌<◌}
use native.Mathlib.Omega.{arith}
use lib.Dec.{leb, ltb, eqb}
use lib.ListN.{length, get_or, set, replicate, length-set, length-replicate, get_or-eq_default}
use lib.Seq.{get_or-set_same, get_or-set_other, set_comm}
use borrow.Author.Tests.{ltb-true, ltb-false, leb-true, leb-false, eqb-true, eqb-false, lt-ltb, le-ltb, le-leb, lt-leb, eq-eqb, ne_eqb, not-false}
use Rattle.answer.specs.Answers.{first}
use Rattle.answer.proofs.Rows.{passed, accepted}
use Rattle.block.specs.Block.{block_words}
use Rattle.params.specs.Limits.{rows, slices, max_lanes, segment, blocks}
use Rattle.params.specs.declared.Params.{Params}
use Rattle.params.proofs.Within.{Within, params_within, two}
use Rattle.position.specs.Position.{first_block}
use Rattle.checks.specs.Rows.{most_tag, output_rows}
use Rattle.checks.proofs.Tags.{output_fits}
use Rattle.word.specs.Word.{max_length}
use Rattle.job.specs.Jobs.{all, position, tag_allowed, laid_out, complete, stands_complete, unfinished, stands_inside, consistent, moved, next_slice, onward, zero_job, step_rows, finish_rows}
use Rattle.job.specs.declared.Job.{Job}
use Rattle.job.proofs.Tests.{and-true, and_of, and-false, or_left, or_right, or_second, all_true, all_of, any_of, any_true}

-- ---- a job inside filling, and a job that stands complete

pub record Inside (j : Job) : Type 0 where
  pub numbers : first (rows j.params) ≡ 0
  pub tag : first (output_rows j.params.configured j.tag) ≡ 0
  pub places : length j.positions ≡ max_lanes
  pub idle : (l : ℕ) → j.params.lanes ≤ l → position j l ≡ 0
  pub below : j.pass < j.params.passes
  pub within : j.slice < slices
  pub low : (l : ℕ) → l < j.params.lanes → first_block j.pass j.slice ≤ position j l
  pub high : (l : ℕ) → l < j.params.lanes → position j l ≤ segment j.params
  pub some : (l : ℕ) × (l < j.params.lanes) × (position j l < segment j.params)

pub record Complete (j : Job) : Type 0 where
  pub numbers : first (rows j.params) ≡ 0
  pub tag : first (output_rows j.params.configured j.tag) ≡ 0
  pub places : length j.positions ≡ max_lanes
  pub zeros : (l : ℕ) → position j l ≡ 0
  pub done : j.pass ≡ j.params.passes
  pub begins : j.slice ≡ 0

-- the limits of the parameters
abbrev pub Bounds : Params → Type 0
Bounds P = Within P.lanes P.memory P.passes

pub inside_bounds : {j : Job} → Inside j → Bounds j.params
inside_bounds {j} h = params_within j.params h.numbers

pub complete_bounds : {j : Job} → Complete j → Bounds j.params
complete_bounds {j} h = params_within j.params h.numbers

-- ---- lanes not in use

abbrev idle_at : Job → ℕ → Bool
idle_at j l = ltb l j.params.lanes || eqb (position j l) 0

laid_out_lem : (j : Job) → laid_out j ≡ true → (length j.positions ≡ max_lanes) × ((l : ℕ) → j.params.lanes ≤ l → position j l ≡ 0)
laid_out_lem j e = (len, λ l h. go l h (ltb l max_lanes) refl)
  where
    p : (eqb (length j.positions) max_lanes ≡ true) × (all max_lanes (idle_at j) ≡ true)
    p = and-true (eqb (length j.positions) max_lanes) (all max_lanes (idle_at j)) e

    len : length j.positions ≡ max_lanes
    len = eqb-true (length j.positions) max_lanes p.0

    go : (l : ℕ) → j.params.lanes ≤ l → (t : Bool) → ltb l max_lanes ≡ t → position j l ≡ 0
    go l h true t =
        eqb-true (position j l) 0
        (or_second (eqb (position j l) 0) (le-ltb l j.params.lanes h) (all_true max_lanes (idle_at j) p.1 l (ltb-true l max_lanes t)))
    go l h false t = get_or-eq_default j.positions 0 {n = l} (omega (arith, len, ltb-false l max_lanes t))

is_laid_out : (j : Job) → length j.positions ≡ max_lanes → ((l : ℕ) → j.params.lanes ≤ l → position j l ≡ 0) → laid_out j ≡ true
is_laid_out j len idle =
    and_of (eq-eqb (length j.positions) max_lanes len) (all_of max_lanes (idle_at j) (λ l h. go l (ltb l j.params.lanes) refl))
  where
    go : (l : ℕ) (t : Bool) → ltb l j.params.lanes ≡ t → idle_at j l ≡ true
    go l true t = or_left (eqb (position j l) 0) t
    go l false t = or_right (ltb l j.params.lanes) (eq-eqb (position j l) 0 (idle l (ltb-false l j.params.lanes t)))

-- ---- a consistent job

-- the parts of the test
parts : (j : Job) → consistent j ≡ true
    → (first (rows j.params) ≡ 0) × (first (output_rows j.params.configured j.tag) ≡ 0) × (laid_out j ≡ true) × (stands_complete j || stands_inside j ≡ true)
unfolding consistent
parts j e =
    let a = and-true (eqb (first (rows j.params)) 0 && tag_allowed j && laid_out j) (stands_complete j || stands_inside j) e in
    let b = and-true (eqb (first (rows j.params)) 0 && tag_allowed j) (laid_out j) a.0 in
    let c = and-true (eqb (first (rows j.params)) 0) (tag_allowed j) b.0 in (
      eqb-true (first (rows j.params)) 0 c.0,
      eqb-true (first (output_rows j.params.configured j.tag)) 0 c.1,
      b.1,
      a.1,
    )

whole : (j : Job) → first (rows j.params) ≡ 0 → first (output_rows j.params.configured j.tag) ≡ 0 → laid_out j ≡ true → stands_complete j || stands_inside j ≡ true
    → consistent j ≡ true
unfolding consistent
whole j a b c d =
    and_of (and_of (and_of (eq-eqb (first (rows j.params)) 0 a) (eq-eqb (first (output_rows j.params.configured j.tag)) 0 b)) c) d

-- the job of zeros, which stands for the job that a refused start does not give, is not consistent
pub zeros_inconsistent : consistent zero_job ≡ false
unfolding consistent zero_job
zeros_inconsistent = refl

-- a used lane between the segment's first block and s
abbrev between : Job → ℕ → Bool
between j l = leb (first_block j.pass j.slice) (position j l) && leb (position j l) (segment j.params)

pub stands_inside_lem : (j : Job) → consistent j ≡ true → complete j ≡ false → Inside j
stands_inside_lem j e n =
    let a = parts j e in
    let p = j.params.lanes in
    let s = segment j.params in
    let i : stands_inside j ≡ true = or_second (stands_inside j) (and-false _ (and-false _ n)) a.3 in
    let c = and-true (ltb j.pass j.params.passes && ltb j.slice slices && all p (between j)) (unfinished j) i in
    let d = and-true (ltb j.pass j.params.passes && ltb j.slice slices) (all p (between j)) c.0 in
    let f = and-true (ltb j.pass j.params.passes) (ltb j.slice slices) d.0 in
    let g = any_true p (λ l. ltb (position j l) s) c.1 in
    let at : (l : ℕ) → l < p → (leb (first_block j.pass j.slice) (position j l) ≡ true) × (leb (position j l) s ≡ true) =
    λ l h. and-true _ _ (all_true p (between j) d.1 l h) in
    record {
      numbers = a.0;
      tag = a.1;
      places = (laid_out_lem j a.2).0;
      idle = (laid_out_lem j a.2).1;
      below = ltb-true j.pass j.params.passes f.0;
      within = ltb-true j.slice slices f.1;
      low = λ l h. leb-true (first_block j.pass j.slice) (position j l) (at l h).0;
      high = λ l h. leb-true (position j l) s (at l h).1;
      some = (g.0, g.1, ltb-true (position j g.0) s g.2);
    }

pub stands_complete_lem : (j : Job) → consistent j ≡ true → complete j ≡ true → Complete j
stands_complete_lem j e n =
    let a = parts j e in
    let p = j.params.lanes in
    let done : j.pass ≡ j.params.passes = eqb-true j.pass j.params.passes n in
    let over : ltb j.pass j.params.passes ≡ false = le-ltb j.pass j.params.passes (omega arith) in
    let c : stands_complete j ≡ true = or_first (stands_complete j) (and-false _ (and-false _ (and-false _ over))) a.3 in
    let d = and-true (complete j && eqb j.slice 0) (all p (λ l. eqb (position j l) 0)) c in
    let f = and-true (complete j) (eqb j.slice 0) d.0 in
    record {
      numbers = a.0;
      tag = a.1;
      places = (laid_out_lem j a.2).0;
      zeros = λ l. at a.2 d.1 l (ltb l p) refl;
      done = done;
      begins = eqb-true j.slice 0 f.1;
    }
  where
    or_first : (x : Bool) {y : Bool} → y ≡ false → x || y ≡ true → x ≡ true
    or_first true p q = refl
    or_first false p q = sym p ∙ q

    at : laid_out j ≡ true → all j.params.lanes (λ l. eqb (position j l) 0) ≡ true → (l : ℕ) (t : Bool) → ltb l j.params.lanes ≡ t → position j l ≡ 0
    at o z l true t = eqb-true (position j l) 0 (all_true j.params.lanes (λ i. eqb (position j i) 0) z l (ltb-true l j.params.lanes t))
    at o z l false t = (laid_out_lem j o).1 l (ltb-false l j.params.lanes t)

pub consistent_bounds : (j : Job) → consistent j ≡ true → Bounds j.params
consistent_bounds j e = params_within j.params (parts j e).0

-- some used lane is under s
pub unfinished_by : (j : Job) (l : ℕ) → l < j.params.lanes → position j l < segment j.params → unfinished j ≡ true
unfinished_by j l h k =
    any_of j.params.lanes (λ i. ltb (position j i) (segment j.params)) l h (lt-ltb (position j l) (segment j.params) k)

pub inside_consistent : (j : Job) → Inside j → consistent j ≡ true
inside_consistent j h =
    whole j h.numbers h.tag (is_laid_out j h.places h.idle)
    (or_right (stands_complete j)
    (and_of
    (and_of
    (and_of (lt-ltb j.pass j.params.passes h.below) (lt-ltb j.slice slices h.within))
    (all_of j.params.lanes (between j)
    (λ l k.
    and_of
    (le-leb (first_block j.pass j.slice) (position j l) (h.low l k))
    (le-leb (position j l) (segment j.params) (h.high l k)))))
    (unfinished_by j h.some.0 h.some.1 h.some.2)))

pub complete_consistent : (j : Job) → Complete j → consistent j ≡ true
complete_consistent j h =
    whole j h.numbers h.tag (is_laid_out j h.places (λ l k. h.zeros l))
    (or_left (stands_inside j)
    (and_of (and_of (eq-eqb j.pass j.params.passes h.done) (eq-eqb j.slice 0 h.begins))
    (all_of j.params.lanes (λ l. eqb (position j l) 0) (λ l k. eq-eqb (position j l) 0 (h.zeros l)))))

-- ---- a step and a finish that are accepted; n words, n bytes

pub record Ready (j : Job) (n l : ℕ) : Type 0 where
  pub inside : Inside j
  pub fits : block_words * blocks j.params ≤ n
  pub lane : l < j.params.lanes
  pub under : position j l < segment j.params

pub ready : (j : Job) (n l : ℕ) → first (step_rows j n l) ≡ 0 → Ready j n l
ready j n l e =
    let h = passed (step_rows j n l) tt e in
    let i : Inside j = stands_inside_lem j (not-false (consistent j) h.0) h.1.1.0 in
    let k : l < j.params.lanes = leb-false j.params.lanes l h.1.1.1.0 in
    let apart : position j l ≢ segment j.params = eqb-false (position j l) (segment j.params) h.1.1.1.1.0 in
    record {
      inside = i;
      fits = ltb-false n (block_words * blocks j.params) h.1.0;
      lane = k;
      under = omega (arith, i.high l k);
    }

pub ready_accepted : (j : Job) (n l : ℕ) → Ready j n l → first (step_rows j n l) ≡ 0
ready_accepted j n l h =
    let below = h.inside.below in
    accepted (step_rows j n l) (
      ap not (inside_consistent j h.inside),
      (
        le-ltb n (block_words * blocks j.params) h.fits,
        (
          ne_eqb j.pass j.params.passes (λ e. omega arith),
          (
            lt-leb j.params.lanes l h.lane,
            (ne_eqb (position j l) (segment j.params) (λ e. omega (arith, h.under)), tt),
          ),
        ),
      ),
    )

pub record Finishing (j : Job) (n out : ℕ) : Type 0 where
  pub complete : Complete j
  pub fits : block_words * blocks j.params ≤ n
  pub length : out ≡ j.tag

pub finishing : (j : Job) (n out : ℕ) → first (finish_rows j n out) ≡ 0 → Finishing j n out
finishing j n out e =
    let h = passed (finish_rows j n out) tt e in
    record {
      complete = stands_complete_lem j (not-false (consistent j) h.0) (not-false (complete j) h.1.1.0);
      fits = ltb-false n (block_words * blocks j.params) h.1.0;
      length = omega (arith, ltb-false out j.tag h.1.1.1.0, ltb-false j.tag out h.1.1.1.1.0);
    }

-- an accepted output is one whose length 4 bytes count, where the configured length is
pub finish_fits : (j : Job) (n out : ℕ) → most_tag j.params.configured ≤ max_length → first (finish_rows j n out) ≡ 0 → out ≤ max_length
finish_fits j n out h e =
    let f = finishing j n out e in
    omega (arith, f.length, output_fits j.params.configured j.tag h f.complete.tag)

pub finishing_accepted : (j : Job) (n out : ℕ) → Finishing j n out → first (finish_rows j n out) ≡ 0
finishing_accepted j n out h =
    let same = h.length in
    accepted (finish_rows j n out) (
      ap not (complete_consistent j h.complete),
      (
        le-ltb n (block_words * blocks j.params) h.fits,
        (
          ap not (eq-eqb j.pass j.params.passes h.complete.done),
          (
            le-ltb out j.tag (omega arith),
            (le-ltb j.tag out (omega arith), tt),
          ),
        ),
      ),
    )

-- ---- the job once a lane has moved

pub moved_same : (j : Job) (l : ℕ) → length j.positions ≡ max_lanes → l < max_lanes → position (moved j l) l ≡ position j l + 1
unfolding moved
moved_same j l e h = get_or-set_same j.positions l (position j l + 1) 0 (omega arith)

pub moved_other : (j : Job) (l i : ℕ) → i ≢ l → position (moved j l) i ≡ position j i
unfolding moved
moved_other j l i n = get_or-set_other j.positions l i (position j l + 1) 0 n

-- a lane that moves leaves the job inside filling, if some lane is then under the segment's end
pub moved_stays : (j : Job) (a : ℕ) → Inside j → a < j.params.lanes → position j a < segment j.params
    → (i : ℕ) → i < j.params.lanes → position (moved j a) i < segment j.params → Inside (moved j a)
unfolding moved
moved_stays j a h la ua b lb ub =
    let z = inside_bounds h in
    let same : position (moved j a) a ≡ position j a + 1 = moved_same j a h.places (omega (arith, z.few_lanes)) in
    let both : (l : ℕ) → l < j.params.lanes → (first_block j.pass j.slice ≤ position (moved j a) l) × (position (moved j a) l ≤ segment j.params) =
    λ l k. pick l k (eqb l a) refl same in
    record {
      numbers = h.numbers;
      tag = h.tag;
      places = length-set j.positions a (position j a + 1) ∙ h.places;
      idle = λ l k. moved_other j a l (λ e. omega arith) ∙ h.idle l k;
      below = h.below;
      within = h.within;
      low = λ l k. (both l k).0;
      high = λ l k. (both l k).1;
      some = (b, lb, ub);
    }
  where
    pick : (l : ℕ) → l < j.params.lanes → (t : Bool) → eqb l a ≡ t → position (moved j a) a ≡ position j a + 1
        → (first_block j.pass j.slice ≤ position (moved j a) l) × (position (moved j a) l ≤ segment j.params)
    pick l k true t same =
        let e : l ≡ a = eqb-true l a t in
        subst (λ (i : ℕ). (first_block j.pass j.slice ≤ position (moved j a) i) × (position (moved j a) i ≤ segment j.params)) (sym e)
        (omega (arith, h.low a la, same), omega (arith, same))
    pick l k false t same =
        (omega (arith, h.low l k, moved_other j a l (eqb-false l a t)), omega (arith, h.high l k, moved_other j a l (eqb-false l a t)))

pub moved_comm : (j : Job) (a b : ℕ) → a ≢ b → moved (moved j a) b ≡ moved (moved j b) a
unfolding moved
moved_comm j a b n =
    let q : List ℕ = j.positions in
    let p : set (set q a (position j a + 1)) b (get_or (set q a (position j a + 1)) b 0 + 1)
    ≡ set (set q b (position j b + 1)) a (get_or (set q b (position j b + 1)) a 0 + 1) =
    ap (λ (v : ℕ). set (set q a (position j a + 1)) b (v + 1)) (moved_other j a b (λ e. n (sym e)))
    ∙ set_comm q a b (position j a + 1) (position j b + 1) n
    ∙ ap (λ (v : ℕ). set (set q b (position j b + 1)) a (v + 1)) (sym (moved_other j b a n)) in
    λ i. record { params = j.params; tag = j.tag; pass = j.pass; slice = j.slice; positions = p i }

-- ---- the job at the end of a slice

pub onward_unfinished : (j : Job) → unfinished j ≡ true → onward j ≡ j
unfolding onward
onward_unfinished j e = ap (λ (t : Bool). cond t j (next_slice j)) e

pub onward_finished : (j : Job) → unfinished j ≡ false → onward j ≡ next_slice j
unfolding onward
onward_finished j e = ap (λ (t : Bool). cond t j (next_slice j)) e

pub zeros_at : (n i : ℕ) → ◌≡◌ {A = ℕ} (get_or (replicate n 0) i 0) 0
zeros_at zero i = refl
zeros_at (suc n) zero = refl
zeros_at (suc n) (suc i) = zeros_at n i

pub next_position : (j : Job) (l : ℕ) → position (next_slice j) l ≡ 0
unfolding next_slice
next_position j l = zeros_at max_lanes l

-- within a pass, and at its end
pub next_within : (j : Job) → ltb (j.slice + 1) slices ≡ true → ((next_slice j).pass ≡ j.pass) × ((next_slice j).slice ≡ j.slice + 1)
unfolding next_slice
next_within j t = (ap (λ (b : Bool). cond b j.pass (j.pass + 1)) t, ap (λ (b : Bool). cond b (j.slice + 1) 0) t)

pub next_pass : (j : Job) → ltb (j.slice + 1) slices ≡ false → ((next_slice j).pass ≡ j.pass + 1) × ((next_slice j).slice ≡ 0)
unfolding next_slice
next_pass j t = (ap (λ (b : Bool). cond b j.pass (j.pass + 1)) t, ap (λ (b : Bool). cond b (j.slice + 1) 0) t)

pub first_later : (r sl : ℕ) → 1 ≤ r + sl → first_block r sl ≡ 0
first_later r sl h = go (eqb r 0) refl (eqb sl 0) refl
  where
    go : (t : Bool) → eqb r 0 ≡ t → (v : Bool) → eqb sl 0 ≡ v → first_block r sl ≡ 0
    go true t true v = absurd (omega (arith, eqb-true r 0 t, eqb-true sl 0 v))
    go true t false v = ap (λ (b : Bool). cond (b && eqb sl 0) 2 0) t ∙ ap (λ (b : Bool). cond b 2 0) v
    go false t w v = ap (λ (b : Bool). cond (b && eqb sl 0) 2 0) t

-- the next slice is inside filling, or filling is complete
pub next_stands : (j : Job) → first (rows j.params) ≡ 0 → first (output_rows j.params.configured j.tag) ≡ 0 → j.pass < j.params.passes → j.slice < slices
    → Inside (next_slice j) ⊎ Complete (next_slice j)
unfolding next_slice
next_stands j numbers tag below within = go (ltb (j.slice + 1) slices) refl (ltb (j.pass + 1) j.params.passes) refl
  where
    n : Job
    n = next_slice j

    z : Bounds j.params
    z = params_within j.params numbers

    stands : n.pass < j.params.passes → n.slice < slices → 1 ≤ n.pass + n.slice → Inside n
    stands b c d =
        record {
          numbers = numbers;
          tag = tag;
          places = length-replicate {A = ℕ} max_lanes 0;
          idle = λ l k. next_position j l;
          below = b;
          within = c;
          low = λ l k. omega (arith, next_position j l, first_later n.pass n.slice d);
          high = λ l k. omega (arith, next_position j l);
          some = (0, z.some_lanes, omega (arith, next_position j 0, two z));
        }

    go : (t : Bool) → ltb (j.slice + 1) slices ≡ t → (v : Bool) → ltb (j.pass + 1) j.params.passes ≡ v → Inside n ⊎ Complete n
    go true t v w =
        let e : (n.pass ≡ j.pass) × (n.slice ≡ j.slice + 1) = next_within j t in
        inl (stands (omega arith) (omega (arith, ltb-true (j.slice + 1) slices t)) (omega arith))
    go false t true w =
        let e : (n.pass ≡ j.pass + 1) × (n.slice ≡ 0) = next_pass j t in
        inl (stands (omega (arith, ltb-true (j.pass + 1) j.params.passes w)) (omega arith) (omega arith))
    go false t false w =
        let e : (n.pass ≡ j.pass + 1) × (n.slice ≡ 0) = next_pass j t in
        inr
        (record {
          numbers = numbers;
          tag = tag;
          places = length-replicate {A = ℕ} max_lanes 0;
          zeros = λ l. next_position j l;
          done = omega (arith, ltb-false (j.pass + 1) j.params.passes w);
          begins = e.1;
        })

-- after an accepted step the job is inside filling, or filling is complete
pub step_stands : (j : Job) (a : ℕ) → Inside j → a < j.params.lanes → position j a < segment j.params
    → Inside (onward (moved j a)) ⊎ Complete (onward (moved j a))
unfolding moved
step_stands j a h la ua = go (unfinished (moved j a)) refl
  where
    go : (t : Bool) → unfinished (moved j a) ≡ t → Inside (onward (moved j a)) ⊎ Complete (onward (moved j a))
    go true t =
        let g : (i : ℕ) × (i < j.params.lanes) × (ltb (position (moved j a) i) (segment j.params) ≡ true) =
        any_true j.params.lanes (λ l. ltb (position (moved j a) l) (segment j.params)) t in
        inl
        (subst (λ (k : Job). Inside k) (sym (onward_unfinished (moved j a) t))
        (moved_stays j a h la ua g.0 g.1 (ltb-true (position (moved j a) g.0) (segment j.params) g.2)))
    go false t =
        subst (λ (k : Job). Inside k ⊎ Complete k) (sym (onward_finished (moved j a) t))
        (next_stands (moved j a) h.numbers h.tag h.below h.within)
