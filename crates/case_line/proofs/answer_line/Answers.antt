-- `case_line::answer_line` meets its contract: what was parsed fits the input. Assumes nothing.
use Rattle.std.proofs.Common.{sym, ◌∙◌, arith}
use Rattle.case_line.proofs.Spans.{good_fits}
use Rattle.case_line.proofs.answer_line.Goals as goal

pub answer_case-requires : goal.answer_case-requires
answer_case-requires c = ((good_fits c.args.input.now c.in-Ok.case (sym c.parse.ensures.result ∙ c.in-Ok.is)).0, omega arith)
