-- `block::permute` meets its contract: four quarter steps on columns and four on diagonals are the definition's eight. Assumes nothing.
use Rattle.std.proofs.Common.{◌≡◌, length}
use Rattle.block.specs.Block.{row_words}
use Rattle.block.proofs.Stepping.{eight_steps}
use Rattle.block.proofs.permute.Goals as goal

pub returns : goal.returns
returns c =
    let words = c.args.words in
    let whole : length words ≡ row_words = c.well_formed.0.1.0.1 in
    record {
      result =
          eight_steps words whole c.quarter-c0.ensures c.quarter-c1.ensures c.quarter-c2.ensures c.quarter-c3.ensures
          c.quarter-d0.ensures c.quarter-d1.ensures c.quarter-d2.ensures c.quarter-d3.ensures;
    }
