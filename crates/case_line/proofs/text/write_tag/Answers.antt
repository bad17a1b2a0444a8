-- `case_line::write_tag` meets its contract. Assumes nothing.
use Rattle.case_line.proofs.Pushing.{tag_line}
use Rattle.case_line.proofs.text.write_tag.Goals as goal

pub returns : goal.returns
returns c =
    let digits = rw c.split_at_mut-front.ensures.back at c.write-count.ensures in
    tag_line c.args.tag.now c.args.line.now c.copy_from_slice.new.self c.write-count.new.text c.write-count.result
    c.copy_from_slice.ensures.after digits c.requires
