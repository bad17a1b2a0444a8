-- `filling::previous_word` meets its contract: the word that stands first in the block. Assumes nothing.
use Prim.Native.Nat.{ℕ}
use mathlib.Core.Path.{sym, ap, ◌∙◌}
use native.Mathlib.Omega.{arith}
use lib.ListN.{get_or}
use Rattle.position.proofs.Columns.{previous_index_lem}
use Rattle.filling.proofs.Inner.{previous_room}
use Rattle.memory.proofs.Memory.{block_at}
use Rattle.filling.proofs.previous_word.Goals as goal

pub bounds-words-previous : goal.bounds-words-previous
bounds-words-previous c =
    let f = c.requires in
    omega (arith, previous_index_lem f.of.slice f.inside c.index-previous.ensures c.previous_column.ensures, previous_room f)

pub returns : goal.returns
returns c =
    let f = c.requires in
    let w = c.args.words.now in
    ap (λ (i : ℕ). get_or w i 0)
    (omega (arith, previous_index_lem f.of.slice f.inside c.index-previous.ensures c.previous_column.ensures))
    ∙ sym (block_at _ w 0 (omega arith))
