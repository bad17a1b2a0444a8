-- What the public functions of this crate promise.
use Rattle.std.specs.Prelude.{ℕ, List, ◌≡◌}
use Rattle.block.specs.declared.Block.{Block}
use Rattle.params.specs.declared.Params.{Params}
use Rattle.position.specs.declared.BlockNumber.{BlockNumber}
use Rattle.position.specs.declared.LaneNumber.{LaneNumber}
use Rattle.initial.specs.Initial.{initial_hash, first_words}

pub record InitialHashPromise (P : Params) (tag : ℕ) (password salt secret ad r : List ℕ) : Type 0 where
  pub result : r ≡ initial_hash P tag password salt secret ad

pub record FirstWordsPromise (h : List ℕ) (l : LaneNumber) (b : BlockNumber) (r : Block) : Type 0 where
  pub result : r.words ≡ first_words h l.0 b.0
