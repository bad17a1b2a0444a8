-- What the crate's own functions can take from what they require: the reference position is accepted, and the blocks that filling reads and
-- writes lie in the memory; and when the public functions fill. Assumes nothing.
use Prim.Native.Nat.{ℕ, ◌≤◌, ◌<◌}
use mathlib.Core.Bool.{Bool, true, cond, ◌&&◌, and-eq-true_iff}
use mathlib.Core.List.{List}
use mathlib.Core.Path.{◌≡◌, ap, ◌∙◌}
use native.Mathlib.Omega.{arith}
use lib.Dec.{leb, ltb}
use lib.ListN.{length}
use borrow.Author.Tests.{ltb-true, leb-true, lt-ltb, le-leb}
use Rattle.answer.specs.Answers.{first}
use Rattle.params.specs.Limits.{slices, segment}
use Rattle.params.specs.declared.Params.{Params}
use Rattle.position.specs.Position.{first_block, column, previous_column, reference_lane, reference_column, reference, position_rows}
use Rattle.position.proofs.Accepted.{position_accepted}
use Rattle.position.proofs.Columns.{column-lt, previous_lt}
use Rattle.position.proofs.Referring.{ref_lane, ref_column}
use Rattle.filling.specs.Filling.{current_index, previous_index, in_segment, fill_blocks, fill_all}
use Rattle.filling.specs.Inner.{Segment, Part, Fillable}
use Rattle.filling.specs.Promises.{FillBlocksPromise, FillAllPromise}
use Rattle.memory.specs.Lent.{lent, Has, Lent}
use Rattle.memory.proofs.Lent.{within, two, room, lent_as, lent_fact, lent_true}

-- a segment in memory of another length, which is the same
pub segment_as : {P : Params} {r sl l words n : ℕ} → Segment P r sl l words → n ≡ words → Segment P r sl l n
segment_as g e = record { lent = lent_as g.lent e; pass = g.pass; slice = g.slice; lane = g.lane }

-- each of the blocks is filled
pub fillable : {P : Params} {r sl l from to k words n : ℕ} → Part P r sl l from to words → n ≡ words → from ≤ k → k < to → Fillable P r sl l k n
fillable p e h i = record { of = segment_as p.of e; from = omega (arith, p.low); inside = omega (arith, p.high) }

module _ {P : Params} {r sl l k words : ℕ} (f : Fillable P r sl l k words) where
  pub accepted : first (position_rows P.lanes P.memory P.passes r sl l k) ≡ 0
  accepted =
      position_accepted (within f.of.lent)
      (record { pass = f.of.pass; slice = f.of.slice; lane = f.of.lane; from = f.from; inside = f.inside })

  pub current_room : Has words (current_index P sl l k)
  current_room =
      room f.of.lent l (column (segment P) sl k) f.of.lane (column-lt (segment P) sl k f.of.slice f.inside)

  pub previous_room : Has words (previous_index P sl l k)
  previous_room =
      room f.of.lent l (previous_column (segment P) sl k) f.of.lane
      (previous_lt (segment P) sl k f.of.slice f.inside)

  pub reference_room : (x : ℕ) → Has words (reference P.lanes (segment P) r sl l k x)
  reference_room x =
      room f.of.lent (reference_lane P.lanes r sl l x) (reference_column P.lanes (segment P) r sl l k x)
      (ref_lane P.lanes (segment P) (within f.of.lent).some_lanes (two f.of.lent) r sl l k x f.of.slice f.of.lane f.inside f.from)
      (ref_column P.lanes (segment P) (within f.of.lent).some_lanes (two f.of.lent) r sl l k x f.of.slice f.of.lane f.inside f.from)

-- the tests of fill_blocks, as facts and back
module _ (P : Params) (r sl l from to words : ℕ) where
  pub part_fact : lent P words && in_segment P r sl l from to ≡ true → Part P r sl l from to words
  part_fact e =
      let a = (and-eq-true_iff (lent P words) (in_segment P r sl l from to)).0 e in
      let b = (and-eq-true_iff (ltb r P.passes && ltb sl slices && ltb l P.lanes && leb (first_block r sl) from) (leb to (segment P))).0 a.1 in
      let c = (and-eq-true_iff (ltb r P.passes && ltb sl slices && ltb l P.lanes) (leb (first_block r sl) from)).0 b.0 in
      let d = (and-eq-true_iff (ltb r P.passes && ltb sl slices) (ltb l P.lanes)).0 c.0 in
      let f = (and-eq-true_iff (ltb r P.passes) (ltb sl slices)).0 d.0 in
      record {
        of =
            record {
              lent = lent_fact P words a.0;
              pass = ltb-true r P.passes f.0;
              slice = ltb-true sl slices f.1;
              lane = ltb-true l P.lanes d.1;
            };
        low = leb-true (first_block r sl) from c.1;
        high = leb-true to (segment P) b.1;
      }

  pub part_of : lent P words ≡ true → in_segment P r sl l from to ≡ true → Part P r sl l from to words
  part_of a b = part_fact (rw (a, b))

  pub part-true : Part P r sl l from to words → lent P words && in_segment P r sl l from to ≡ true
  part-true p =
      rw (
        lent_true p.of.lent,
        lt-ltb r P.passes p.of.pass,
        lt-ltb sl slices p.of.slice,
        lt-ltb l P.lanes p.of.lane,
        le-leb (first_block r sl) from p.low,
        le-leb to (segment P) p.high,
      )

-- blocks that can be filled are
pub blocks_there : {w : List ℕ} {P : Params} {r sl l from to : ℕ} {w' : List ℕ}
    → FillBlocksPromise w P r sl l from to w' → Part P r sl l from to (length w) → w' ≡ fill_blocks P r sl l from to w
blocks_there {w} {P} {r} {sl} {l} {from} {to} p part =
    p.memory ∙ ap (λ (t : Bool). cond t (fill_blocks P r sl l from to w) w) (part-true P r sl l from to (length w) part)

pub all_there : {w : List ℕ} {P : Params} {w' : List ℕ} → FillAllPromise w P w' → Lent P (length w) → w' ≡ fill_all P w
all_there {w} {P} p given = p.memory ∙ ap (λ (t : Bool). cond t (fill_all P w) w) (lent_true given)
