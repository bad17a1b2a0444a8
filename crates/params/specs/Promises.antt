-- What the public functions of this crate promise.
use Rattle.std.specs.Prelude.{ℕ, ◌≡◌}
use Rattle.answer.specs.Answers.{number, first}
use Rattle.std.specs.Prelude.{⊤, Result}
use Rattle.answer.specs.declared.Refusal.{Refusal}
use Rattle.params.specs.Limits.{from_numbers, cost_rows, number_rows, rows_from, rows, segment_length, segment, lane_length, blocks}
use Rattle.params.specs.declared.Params.{Params}

pub record FromNumbersPromise (algorithm version memory passes lanes configured : ℕ) (r : Params) : Type 0 where
  pub result : r ≡ from_numbers algorithm version memory passes lanes configured

pub record CostsPromise (p m t : ℕ) (r : Result ⊤ Refusal) : Type 0 where
  pub answer : number r ≡ first (cost_rows p m t)

pub record CheckNumbersPromise (P : Params) (oldest : ℕ) (r : Result ⊤ Refusal) : Type 0 where
  pub answer : number r ≡ first (number_rows oldest P)

pub record CheckFromPromise (P : Params) (oldest : ℕ) (r : Result ⊤ Refusal) : Type 0 where
  pub answer : number r ≡ first (rows_from oldest P)

pub record CheckPromise (P : Params) (r : Result ⊤ Refusal) : Type 0 where
  pub answer : number r ≡ first (rows P)

pub record SegmentOfPromise (m p r : ℕ) : Type 0 where
  pub result : r ≡ segment_length m p

pub record SegmentPromise (P : Params) (r : ℕ) : Type 0 where
  pub result : r ≡ segment P

pub record LanePromise (P : Params) (r : ℕ) : Type 0 where
  pub result : r ≡ lane_length P

pub record BlocksPromise (P : Params) (r : ℕ) : Type 0 where
  pub result : r ≡ blocks P
