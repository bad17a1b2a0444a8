-- `filling::fill_with` meets its contract: each part is the definition's, and each block lies in the memory. Assumes nothing.
use mathlib.Core.Path.{◌∙◌}
use Rattle.position.proofs.Accepted.{reference_index_lem}
use Rattle.position.proofs.Columns as columns
use Rattle.memory.proofs.Lent.{read_there}
use Rattle.filling.proofs.Filling.{fill_parts}
use Rattle.filling.proofs.Inner.{accepted, current_room, previous_room, reference_room}
use Rattle.filling.proofs.fill_with.Goals as goal

pub store-requires : goal.store-requires
store-requires c =
    let f = c.requires.0 in
    rw (columns.current_index_lem f.of.slice f.inside c.index-at.ensures c.column.ensures) (current_room f)

pub returns : goal.returns
returns c =
    let f = c.requires.0 in
    let is_previous = columns.previous_index_lem f.of.slice f.inside c.index-before.ensures c.previous_column.ensures in
    let is_reference = reference_index_lem (accepted f) c.reference_position.ensures (rw (← c.zeros.ensures.result) c.unwrap_or-to.ensures) c.index.ensures in
    let is_current = columns.current_index_lem f.of.slice f.inside c.index-at.ensures c.column.ensures in
    c.store.ensures
    ∙ fill_parts _ _ _ _ _ _ _ _ _ _ _ _ _ c.requires.1 is_previous is_reference is_current
    (read_there c.read_block-previous.ensures (rw is_previous (previous_room f)))
    (read_there c.read_block-reference.ensures (rw is_reference (reference_room f c.args.word)))
    c.compress-new.ensures.result
