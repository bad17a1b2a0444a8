-- `block::columns` meets its contract: the lines are the columns. Assumes nothing.
use Rattle.block.specs.Line.{into_columns}
use Rattle.block.proofs.Line.{are_lines}
use Rattle.block.proofs.columns.Goals as goal

pub lines-requires : goal.lines-requires
lines-requires c = into_columns

pub returns : goal.returns
returns c = are_lines c.lines.ensures into_columns
