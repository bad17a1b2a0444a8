-- `blake2b_long::blake2b_long` meets its contract. The invariant: what is written, and the pieces that are left, is the whole. Assumes nothing.
use Rattle.std.proofs.Common.{◌≡◌, ℕ, ◌+◌, ◌-◌, min, List, ◌++◌, refl, sym, ap, ◌∙◌, arith, rules, length}
use Rattle.std.proofs.Math.Seq.{paste}
use Rattle.answer.specs.Answers.{first, length_rows}
use Rattle.answer.proofs.Answered.{left_new}
use Rattle.word.specs.Word.{to_le, max_length}
use Rattle.word.proofs.Library.{to_le_bytes_4}
use Rattle.blake2b.specs.Blake2b.{max_output}
use Rattle.blake2b.specs.Stream.{feed_all, sealed}
use Rattle.blake2b.proofs.Hashing.{ended}
use Rattle.blake2b_long.specs.Long.{length_bytes, half_hash, long}
use Rattle.blake2b_long.proofs.Writing.{fed_twice, ahead, one_on, all_on}
use Rattle.blake2b_long.proofs.blake2b_long.Goals as goal

pub loop-at-init : goal.loop-at-init
loop-at-init c =
    let a = c.args in
    let n = length a.out.now in
    let s = c.begin.result in
    let counted : c.to_le_bytes-count.result ≡ to_le length_bytes n = c.to_le_bytes-count.ensures ∙ to_le_bytes_4 n in (
      omega arith,
      refl,
      ahead n a.input.now (sealed c.feed-s.result) a.out.now
          (ended (min n max_output) (to_le length_bytes n ++ a.input.now) refl c.begin.ensures
          (fed_twice s (to_le length_bytes n) a.input.now (c.feed.ensures.result ∙ ap (feed_all s) counted) c.feed-s.ensures.result)
          refl),
    )

pub loop-at-preserved : goal.loop-at-preserved
loop-at-preserved c =
    let l = c.loop-at in
    let n = length c.args.out.now in
    let is : c.end-v.result ≡ sealed l.s = c.end-v.ensures.result in (
      omega arith,
      search rules,
      one_on l.out l.at (n - l.at) l.invariant.2 (n - (l.at + half_hash)) (omega arith) (omega arith)
          (c.put.ensures ∙ ap (λ (v : List ℕ). paste l.out l.at v half_hash) is) (omega arith)
          (ended _ _ refl c.begin-in-loop-at.ensures (c.feed-s-in-loop-at.ensures.result ∙ ap (feed_all c.begin-in-loop-at.result) is) refl),
    )

pub returns : goal.returns
returns c =
    let a = c.args in
    let l = c.loop-at in
    let n = length a.out.now in
    let f = first (length_rows 1 max_length n) in
    let accepted : f ≡ 0 = sym c.in_ok-check_length.ensures.answer in
    record {
      answer = c.in_ok-check_length.ensures.answer;
      output =
          c.put-2.ensures
          ∙ ap (λ (v : List ℕ). paste l.out l.at v (n - l.at)) c.end.ensures.result
          ∙ all_on l.out l.at (n - l.at) l.invariant.2 (omega arith) (omega arith)
          ∙ sym (left_new f (long n a.input.now) a.out.now accepted);
    }
