-- `block::quarter` meets its contract: each word is the definition's. Assumes nothing.
use Rattle.std.proofs.Common.{rules, ◌∙◌, arith}
use Rattle.word.proofs.Library.{xor_rotated}
use Rattle.block.specs.Block.{R1, R2, R3, R4}
use Rattle.block.proofs.Stepping.{quartered}
use Rattle.block.proofs.quarter.Goals as goal

pub returns : goal.returns
returns c =
    quartered _ _ _ _
    c.multiply_add-a1.ensures
    (c.rotate_right-d1.ensures ∙ xor_rotated R1 c.args.d c.multiply_add-a1.result (omega arith) (omega arith) (search rules) (search rules))
    c.multiply_add-c1.ensures
    (c.rotate_right-b1.ensures ∙ xor_rotated R2 c.args.b c.multiply_add-c1.result (omega arith) (omega arith) (search rules) (search rules))
    c.multiply_add-a2.ensures
    (c.rotate_right-d2.ensures ∙ xor_rotated R3 c.rotate_right-d1.result c.multiply_add-a2.result (omega arith) (omega arith) (search rules) (search rules))
    c.multiply_add-c2.ensures
    (c.rotate_right-b2.ensures ∙ xor_rotated R4 c.rotate_right-b1.result c.multiply_add-c2.result (omega arith) (omega arith) (search rules) (search rules))
