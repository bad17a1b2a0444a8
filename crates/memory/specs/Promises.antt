-- What the public functions of this crate promise. w and out stand at entry, w' and out' at exit.
use Rattle.std.specs.Prelude.{ℕ, Bool, cond, List, ◌≡◌, length}
use Rattle.answer.specs.Answers.{first, if_accepted, length_rows}
use Rattle.word.specs.Word.{max_length}
use Rattle.block.specs.Block.{zeros}
use Rattle.block.specs.declared.Block.{Block}
use Rattle.params.specs.Limits.{segment}
use Rattle.params.specs.declared.Params.{Params}
use Rattle.memory.specs.Lent.{has, lent}
use Rattle.memory.specs.Memory.{block, put}
use Rattle.memory.specs.Start.{start_memory}
use Rattle.memory.specs.Tag.{tag_of}

pub record IsLentPromise (P : Params) (words : ℕ) (r : Bool) : Type 0 where
  pub result : r ≡ lent P words

pub record ReadBlockPromise (w : List ℕ) (b : ℕ) (r : Block) : Type 0 where
  pub words : r.words ≡ cond (has (length w) b) (block b w) zeros

pub record WriteBlockPromise (w : List ℕ) (b : ℕ) (x : Block) (w' : List ℕ) : Type 0 where
  pub memory : w' ≡ cond (has (length w) b) (put b x.words w) w

pub record FirstBlocksPromise (w : List ℕ) (P : Params) (h w' : List ℕ) : Type 0 where
  pub memory : w' ≡ cond (lent P (length w)) (start_memory h P.lanes (segment P) w) w

pub record WriteTagPromise (w : List ℕ) (P : Params) (out out' : List ℕ) : Type 0 where
  pub output : out' ≡ cond (lent P (length w)) (if_accepted (first (length_rows 1 max_length (length out))) (tag_of P (length out) w) out) out
