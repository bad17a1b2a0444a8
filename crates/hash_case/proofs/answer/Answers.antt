use Rattle.std.proofs.Common.{rules, take, ap, subst, ◌∙◌}
use Rattle.std.proofs.Math.Seq.{take-append_seam}
use Rattle.std.specs.Io.KnownBytes.{Appends}
use Rattle.std.proofs.lemmas.Result.{on_ok_weaker}
use Rattle.hash_case.proofs.answer.Goals as goal

pub returns : goal.returns
returns g c =
    let read = c.read_full-n.ensures in
    let line = c.answer_line-m.ensures in
    let written = ap (λ k. take k c.answer_line-m.new.line) line.count ∙ ap (take _) line.text ∙ take-append_seam _ _ in
    on_ok_weaker c.write_all.result
    (λ appended. (take c.read_full-n.result c.read_full-n.new.buf, search rules, read.bytes, subst (Appends _ _) written appended))
    c.write_all.ensures.bytes
