-- What the public functions of this crate promise.
use Rattle.std.specs.Prelude.{ℕ, cond, ◌≡◌, Result}
use Rattle.std.specs.Result.{result_unwrap_or}
use Rattle.answer.specs.declared.Refusal.{Refusal}
use Rattle.answer.specs.Answers.{number, first, if_accepted}
use Rattle.params.specs.Limits.{segment, segment_length}
use Rattle.params.specs.declared.Params.{Params}
use Rattle.position.specs.Position.{first_block, column, in_lane, in_memory, index, previous_column, reference_lane, reference_column, position_rows, no_reference}
use Rattle.position.specs.declared.BlockNumber.{BlockNumber}
use Rattle.position.specs.declared.LaneNumber.{LaneNumber}
use Rattle.position.specs.declared.Reference.{Reference}

pub record FirstBlockPromise (r sl b : ℕ) : Type 0 where
  pub result : b ≡ first_block r sl

pub record InMemoryPromise (q : ℕ) (l : LaneNumber) (c : BlockNumber) (n : ℕ) : Type 0 where
  pub result : n ≡ in_memory q l.0 c.0

-- where the lane has the block, its column and the one before; else 0
pub record ColumnPromise (P : Params) (sl k : ℕ) (c : BlockNumber) : Type 0 where
  pub result : c.0 ≡ cond (in_lane (segment P) sl k) (column (segment P) sl k) 0

pub record PreviousColumnPromise (P : Params) (sl k : ℕ) (c : BlockNumber) : Type 0 where
  pub result : c.0 ≡ cond (in_lane (segment P) sl k) (previous_column (segment P) sl k) 0

pub record IndexPromise (P : Params) (l : LaneNumber) (c : BlockNumber) (n : ℕ) : Type 0 where
  pub result : n ≡ index (segment P) l.0 c.0

-- what stands for the position that a refusal does not give
pub record NoReferencePromise (o : Reference) : Type 0 where
  pub result : o ≡ no_reference

-- accepted, the reference lane and the block within that lane; refused, zeros
pub record ReferencePromise (p m t r sl l k x : ℕ) (o : Result Reference Refusal) : Type 0 where
  pub answer : number o ≡ first (position_rows p m t r sl l k)
  pub lane : (result_unwrap_or o no_reference).lane.0 ≡ if_accepted (first (position_rows p m t r sl l k)) (reference_lane p r sl l x) 0
  pub block : (result_unwrap_or o no_reference).block.0 ≡ if_accepted (first (position_rows p m t r sl l k)) (reference_column p (segment_length m p) r sl l k x) 0
