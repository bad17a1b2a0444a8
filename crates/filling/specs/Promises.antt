-- What the public functions of this crate promise. w stands at entry, w' at exit.
use Rattle.std.specs.Prelude.{ℕ, cond, ◌&&◌, List, ◌≡◌, length}
use Rattle.params.specs.declared.Params.{Params}
use Rattle.memory.specs.Lent.{lent}
use Rattle.filling.specs.Filling.{in_segment, fill_blocks, fill_all}

pub record FillBlocksPromise (w : List ℕ) (P : Params) (r sl l from to : ℕ) (w' : List ℕ) : Type 0 where
  pub memory : w' ≡ cond (lent P (length w) && in_segment P r sl l from to) (fill_blocks P r sl l from to w) w

pub record FillAllPromise (w : List ℕ) (P : Params) (w' : List ℕ) : Type 0 where
  pub memory : w' ≡ cond (lent P (length w)) (fill_all P w) w
