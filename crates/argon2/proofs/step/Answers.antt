-- `argon2::step` meets its contract: refused, job and words stay; accepted, the rows say that the block is one that a step fills. Assumes nothing.
use Rattle.std.proofs.Common.{◌≡◌, ℕ, ◌+◌, sym, ap, ◌∙◌, length, arith}
use Rattle.answer.specs.Answers.{first}
use Rattle.answer.proofs.Answered.{handed_on, left_new, left_refused}
use Rattle.filling.specs.Filling.{fill, fill_blocks}
use Rattle.filling.specs.Inner.{Part}
use Rattle.filling.proofs.Filling.{one_block}
use Rattle.filling.proofs.Inner.{blocks_there}
use Rattle.job.specs.Jobs.{position, moved, onward, step_rows}
use Rattle.job.proofs.Jobs.{ready}
use Rattle.params.proofs.Sizes.{lane_le}
use Rattle.argon2.specs.Calls.{stepped}
use Rattle.argon2.proofs.step.Goals as goal

pub returns-in_err-next : goal.returns-in_err-next
unfolding stepped
returns-in_err-next c =
    let j = c.args.job.now in
    let w = c.args.words.now in
    let l = c.args.lane.0 in
    let refused = c.in_err-next.ensures.answer in
    record {
      answer = handed_on _ _ c.from_residual.ensures.1 refused;
      job = left_refused c.in_err-next.field-0.0 (onward (moved j l)) j refused;
      memory = left_refused c.in_err-next.field-0.0 (fill j.params j.pass j.slice l (position j l) w) w refused;
    }

pub returns : goal.returns
unfolding stepped
returns c =
    let j = c.args.job.now in
    let w = c.args.words.now in
    let l = c.args.lane.0 in
    let n = first (step_rows j (length w) l) in
    let accepted : n ≡ 0 = sym c.in_ok-next.ensures.answer in
    let r = ready j (length w) l accepted in
    let k = position j l in
    let at = c.position-block.ensures.result in
    let part : Part j.params j.pass j.slice l c.position-block.result (c.position-block.result + 1) (length w) =
    record {
      of =
          record {
            lent = record { accepted = r.inside.numbers; enough = r.fits };
            pass = r.inside.below;
            slice = r.inside.within;
            lane = r.lane;
          };
      low = omega (arith, at, r.inside.low l r.lane);
      high = omega (arith, at, r.under);
    } in
    record {
      answer = c.in_ok-next.ensures.answer;
      job = c.in_ok-next.ensures.job;
      memory =
          blocks_there c.fill_blocks.ensures part
          ∙ ap (λ (m : ℕ). fill_blocks j.params j.pass j.slice l m (m + 1) w) at
          ∙ one_block j.params j.pass j.slice l k w
          ∙ sym (left_new n (fill j.params j.pass j.slice l k w) w accepted);
    }

pub overflow_add-block : goal.overflow_add-block
overflow_add-block c =
    let j = c.args.job.now in
    let r = ready j (length c.args.words.now) c.args.lane.0 (sym c.in_ok-next.ensures.answer) in
    omega (arith, c.position-block.ensures.result, r.under, lane_le j.params.memory j.params.lanes)
