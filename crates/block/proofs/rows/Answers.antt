-- `block::rows` meets its contract: the lines are the rows. Assumes nothing.
use Rattle.block.specs.Line.{into_rows}
use Rattle.block.proofs.Line.{are_lines}
use Rattle.block.proofs.rows.Goals as goal

pub lines-requires : goal.lines-requires
lines-requires c = into_rows

pub returns : goal.returns
returns c = are_lines c.lines.ensures into_rows
