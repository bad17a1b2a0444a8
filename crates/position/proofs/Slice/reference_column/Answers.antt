-- `position::Slice::reference_column` meets its contract: start and place are at most a lane each. Assumes nothing.
use native.Mathlib.Omega.{arith}
use Rattle.position.proofs.Lane.{area_le, place-le, start_le}
use Rattle.position.proofs.Slice.reference_column.Goals as goal

pub place-requires : goal.place-requires
place-requires c =
    let a = c.args in (
      omega (arith, c.area.ensures),
      omega (arith, c.area.ensures, area_le a.self.length a.self.pass a.self.slice a.block a.own (omega arith) (omega arith)),
    )

pub overflow_add-at : goal.overflow_add-at
overflow_add-at c =
    let a = c.args in
    omega (
      arith,
      c.place.ensures,
      place-le c.area.result a.word,
      c.area.ensures,
      area_le a.self.length a.self.pass a.self.slice a.block a.own (omega arith) (omega arith),
      c.area_start.ensures,
      start_le a.self.length a.self.pass a.self.slice (omega arith),
    )
