-- What the crate's own functions require: a segment in a memory that is lent, and there blocks that steps fill.
use Rattle.std.specs.Prelude.{ℕ, ◌≤◌, ◌<◌}
use Rattle.params.specs.Limits.{slices, segment}
use Rattle.params.specs.declared.Params.{Params}
use Rattle.position.specs.Position.{first_block}
use Rattle.memory.specs.Lent.{Lent}

-- "The job": pass, slice and lane are those of a segment
pub record Segment (P : Params) (r sl l words : ℕ) : Type 0 where
  pub lent : Lent P words
  pub pass : r < P.passes
  pub slice : sl < slices
  pub lane : l < P.lanes

-- the blocks before one, from another on, are among those that steps fill
pub record Part (P : Params) (r sl l from to words : ℕ) : Type 0 where
  pub of : Segment P r sl l words
  pub low : first_block r sl ≤ from
  pub high : to ≤ segment P

-- and so is one block
pub record Fillable (P : Params) (r sl l k words : ℕ) : Type 0 where
  pub of : Segment P r sl l words
  pub from : first_block r sl ≤ k
  pub inside : k < segment P
