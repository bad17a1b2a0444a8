-- When a reference position is accepted, what is then known of its numbers, and what its promise comes to. For the proof of the code,
-- and for those of the crates above. Assumes nothing.
use mathlib.Core.Bool.{true, false, ◌&&◌, and-eq-true_iff}
use mathlib.Core.List.{[], ◌∷◌}
use mathlib.Core.Path.{◌≡◌, sym, ap, ap₂, ◌∙◌}
use Prim.Native.Nat.{ℕ, ◌≤◌, ◌<◌}
use lib.Dec.{ltb, leb, eqb}
use borrow.Author.Tests.{ltb-true, leb-true, lt-ltb, le-leb, ne_eqb}
use Rattle.std.specs.Prelude.{Result, Ok, Err}
use Rattle.std.specs.Result.{result_unwrap_or}
use Rattle.answer.specs.Answers.{refusal, number, first}
use Rattle.answer.specs.declared.Refusal.{Refusal}
use Rattle.answer.specs.declared.Refusal.TheVariants.{Inconsistent}
use Rattle.answer.proofs.Numbers.{refused}
use Rattle.answer.proofs.Answered.{part_refused}
use Rattle.answer.proofs.Rows.{first_passed}
use Rattle.params.specs.Limits.{slices, cost_rows, segment_length, segment}
use Rattle.params.specs.declared.Params.{Params}
use Rattle.params.proofs.Within.{Within, within_accepted}
use Rattle.position.specs.Position.{first_block, index, reference_lane, reference_column, reference, fills, position_invalid, position_rows, no_reference}
use Rattle.position.specs.Promises.{IndexPromise, ReferencePromise}
use Rattle.position.specs.declared.Reference.{Reference}

-- a block that a step fills: the tests as facts
pub record Filled (p s t r sl l k : ℕ) : Type 0 where
  pub pass : r < t
  pub slice : sl < slices
  pub lane : l < p
  pub from : first_block r sl ≤ k
  pub inside : k < s

pub filled : (p s t r sl l k : ℕ) → fills p s t r sl l k ≡ true → Filled p s t r sl l k
unfolding fills
filled p s t r sl l k e =
    let four = (and-eq-true_iff (ltb r t && ltb sl slices && ltb l p && leb (first_block r sl) k) (ltb k s)).0 e in
    let three = (and-eq-true_iff (ltb r t && ltb sl slices && ltb l p) (leb (first_block r sl) k)).0 four.0 in
    let two = (and-eq-true_iff (ltb r t && ltb sl slices) (ltb l p)).0 three.0 in
    let one = (and-eq-true_iff (ltb r t) (ltb sl slices)).0 two.0 in
    record {
      pass = ltb-true r t one.0;
      slice = ltb-true sl slices one.1;
      lane = ltb-true l p two.1;
      from = leb-true (first_block r sl) k three.1;
      inside = ltb-true k s four.1;
    }

pub fills_true : {p s t r sl l k : ℕ} → Filled p s t r sl l k → fills p s t r sl l k ≡ true
unfolding fills
fills_true {p} {s} {t} {r} {sl} {l} {k} f =
    rw (
      lt-ltb r t f.pass,
      lt-ltb sl slices f.slice,
      lt-ltb l p f.lane,
      le-leb (first_block r sl) k f.from,
      lt-ltb k s f.inside,
    )

-- accepted costs leave row 17
past_costs : (p m t r sl l k : ℕ) → first (cost_rows p m t) ≡ 0
    → first (position_rows p m t r sl l k) ≡ first (position_invalid p (segment_length m p) t r sl l k ∷ [])
past_costs p m t r sl l k h = first_passed (cost_rows p m t) (position_invalid p (segment_length m p) t r sl l k ∷ []) tt h

-- accepted costs, and a block that a step fills: accepted
pub position_accepted : {p m t r sl l k : ℕ} → Within p m t → Filled p (segment_length m p) t r sl l k → first (position_rows p m t r sl l k) ≡ 0
position_accepted {p} {m} {t} {r} {sl} {l} {k} w f = past_costs p m t r sl l k (within_accepted w) ∙ rw (fills_true f)

module _ {p m t r sl l k x : ℕ} where
  refuses : {e : Refusal} → refusal e ≡ first (position_rows p m t r sl l k) → ReferencePromise p m t r sl l k x (Err e)
  refuses {e} a =
      let z : eqb (first (position_rows p m t r sl l k)) 0 ≡ false = ne_eqb (first (position_rows p m t r sl l k)) 0 (λ n. refused e (a ∙ n)) in
      record { answer = a; lane = rw z; block = rw z }

  -- a refusal of the costs is the answer
  pub refuses_costs : {e : Refusal} → refusal e ≡ first (cost_rows p m t) → ReferencePromise p m t r sl l k x (Err e)
  refuses_costs {e} a = refuses (part_refused e (cost_rows p m t) (position_invalid p (segment_length m p) t r sl l k ∷ []) a)

  -- else a block that no step fills is refused
  pub refuses_position : first (cost_rows p m t) ≡ 0 → fills p (segment_length m p) t r sl l k ≡ false → ReferencePromise p m t r sl l k x (Err Inconsistent)
  refuses_position h none = refuses (sym (past_costs p m t r sl l k h ∙ rw none))

  pub accepts : {o : Reference} → Within p m t → Filled p (segment_length m p) t r sl l k
      → o.lane.0 ≡ reference_lane p r sl l x → o.block.0 ≡ reference_column p (segment_length m p) r sl l k x
      → ReferencePromise p m t r sl l k x (Ok o)
  accepts w f b c =
      let z = position_accepted w f in
      record { answer = sym z; lane = rw z b; block = rw z c }

  -- an accepted call's answer, lane and block
  pub reference_accepted : {o : Result Reference Refusal} → Within p m t → Filled p (segment_length m p) t r sl l k → ReferencePromise p m t r sl l k x o
      → (number o ≡ 0) × ((result_unwrap_or o no_reference).lane.0 ≡ reference_lane p r sl l x)
      × ((result_unwrap_or o no_reference).block.0 ≡ reference_column p (segment_length m p) r sl l k x)
  reference_accepted w f q =
      let z = position_accepted w f in
      (q.answer ∙ z, q.lane ∙ rw z, q.block ∙ rw z)

-- and the number in memory of that block, where zeros stand for a position that is not given
pub reference_index_lem : {P : Params} {r sl l k x n : ℕ} {o : Result Reference Refusal} {to : Reference}
    → first (position_rows P.lanes P.memory P.passes r sl l k) ≡ 0
    → ReferencePromise P.lanes P.memory P.passes r sl l k x o → to ≡ result_unwrap_or o no_reference
    → IndexPromise P to.lane to.block n
    → n ≡ reference P.lanes (segment P) r sl l k x
reference_index_lem {P} {r} {sl} {l} {k} {x} z q e i =
    let a = ap (λ (t : Reference). t.lane.0) e ∙ q.lane ∙ rw z in
    let c = ap (λ (t : Reference). t.block.0) e ∙ q.block ∙ rw z in
    i.result ∙ ap₂ (λ (lane column : ℕ). index (segment P) lane column) a c
