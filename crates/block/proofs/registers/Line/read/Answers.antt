-- `block::registers::Line::read` meets its contract: each call of the closure gives its word. Assumes nothing.
use Rattle.std.proofs.Common.{rules, get_or}
use Rattle.word.proofs.Table.{by_calls}
use Rattle.block.specs.Block.{row_words, place, registers}
use Rattle.block.proofs.registers.Line.read.Goals as goal

pub returns : goal.returns
unfolding registers
returns c =
    let a = c.args in
    by_calls (λ k. get_or a.q.now (place a.self.first a.self.step k) 0) (λ k r f h. search rules) row_words c.from_fn.ensures.items
