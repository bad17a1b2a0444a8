use Rattle.hash_case.proofs.TwoReads.{fits_more, consumes_both}
use Rattle.hash_case.proofs.read_full.Goals as goal

pub loop-done-preserved : goal.loop-done-preserved
loop-done-preserved g c =
    let before = c.loop-done.invariant in
    let read = c.in-Ok.ensures in
    (fits_more _ _ _ _ _ before.0 read.bound.0, consumes_both _ _ _ c.loop-done.buf c.read.new.buf _ _ _ before.0 read.bound.0 before.1 read.bytes.0)
