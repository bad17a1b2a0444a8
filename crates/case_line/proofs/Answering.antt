-- The promise of `answer_line`, from what was parsed, what the hash gave and what was written. Assumes nothing.
use Prim.Native.Nat.{ℕ, zero, suc, ◌≤◌, ◌<◌}
use mathlib.Core.List.{List, ◌∷◌, ◌++◌}
use mathlib.Core.Path.{◌≡◌, refl, sym, ap, ◌∙◌}
use native.Mathlib.Omega.{arith}
use borrow.Author.Tests.{lt-ltb, le-ltb, eq-eqb, ne_eqb}
use lib.ListN.{length, take, drop, replicate, length-append}
use lib.Seq.{length-take-le, take_at}
use Rattle.answer.specs.Answers.{number}
use Rattle.answer.proofs.Numbers.{refused as not_zero}
use Rattle.std.specs.Prelude.{⊤, Result, Err}
use Rattle.answer.specs.declared.Refusal.{Refusal}
use Rattle.argon2.specs.Promises.{HashPromise}
use Rattle.case_line.specs.Answers.{part, hash_of, Answered, answer_text, memory_after}
use Rattle.case_line.specs.Cases.{parsed}
use Rattle.case_line.specs.Lines.{line_bytes, refused_words, numbered_text, tag_text, Written}
use Rattle.case_line.specs.Promises.{AnswerLinePromise}
use Rattle.case_line.specs.declared.sections.BadInput.{BadInput}
use Rattle.case_line.specs.declared.sections.Case.{Case}
use Rattle.case_line.proofs.Pushing.{within}

pub left_alone : (input words line : List ℕ) → length line < line_bytes → AnswerLinePromise input words line 0 words line
left_alone input words line h =
    let short = lt-ltb (length line) line_bytes h in
    record { count = rw short; text = rw short; memory = rw short; within = omega arith; start = refl }

pub answered : (input words line : List ℕ) {words' line' : List ℕ} {r : ℕ} (p : Result Case BadInput) → line_bytes ≤ length line → parsed input ≡ p
    → Written (answer_text input words p) line line' r → words' ≡ memory_after input words p → AnswerLinePromise input words line r words' line'
answered input words line {words'} {line'} {r} p h e w m =
    let room = le-ltb (length line) line_bytes h in
    record {
      count = rw (room, e) w.count;
      text = rw (room, e) w.bytes;
      memory = rw (room, e) m;
      within = within w;
      start = sym (length-take-le r line' (within w));
    }

-- the first zeros of more
pub zeros : (n m : ℕ) → n ≤ m → take {A = ℕ} n (replicate m 0) ≡ replicate n 0
zeros zero m h = refl
zeros (suc n) zero h = absurd (omega arith)
zeros (suc n) (suc m) h = ap (λ (l : List ℕ). 0 ∷ l) (zeros n m (omega arith))

-- a buffer whose first n bytes were lent and came back as out
pub record Front (n : ℕ) (buffer out : List ℕ) : Type 0 where
  pub room : n ≤ length (out ++ drop n buffer)
  pub bytes : take n (out ++ drop n buffer) ≡ out
  pub count : length (take n (out ++ drop n buffer)) ≡ n

pub lent : (n : ℕ) (buffer out : List ℕ) → n ≤ length buffer → length out ≡ length (take n buffer) → Front n buffer out
lent n buffer out few kept =
    let all = kept ∙ length-take-le n buffer few in
    let same = take_at out (drop n buffer) n all in
    record { room = omega (arith, all, length-append out (drop n buffer)); bytes = same; count = ap length same ∙ all }

-- a good case, whose tag was zeros before the hash
module _ (s : List ℕ) (c : Case) (w tag : List ℕ) (zero : tag ≡ replicate c.tag 0) {a : Result ⊤ Refusal} {w' out : List ℕ}
    (h : HashPromise c.params (part s c.password) (part s c.salt) (part s c.secret) (part s c.ad) w tag a w' out)
    {line line' : List ℕ} {r : ℕ} where
  pub accepted : number a ≡ 0 → Written (tag_text out) line line' r → Answered (hash_of s c w) line r w' line'
  accepted z written =
      let p = rw zero at h in
      record { text = rw (eq-eqb _ 0 (sym p.answer ∙ z), ← p.output) written; memory = p.memory }

  pub refused : (e : Refusal) → a ≡ Err e → {n : ℕ} → n ≡ number a → Written (numbered_text refused_words n) line line' r → Answered (hash_of s c w) line r w' line'
  refused e is {n} numbered written =
      let p = rw zero at h in
      let same = numbered ∙ p.answer in
      record { text = rw (← same, ne_eqb n 0 (λ z. not_zero e (sym (numbered ∙ ap number is) ∙ z))) written; memory = p.memory }
