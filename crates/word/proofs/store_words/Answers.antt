-- `word::store_words` meets its contract. The invariant: the front of the bytes stands in out, before what stood there. Assumes nothing.
use Prim.Native.Nat.{ℕ, ◌*◌, ◌/◌, ◌%◌, ◌<◌, ◌≤◌}
use mathlib.Core.List.{List, ◌++◌}
use mathlib.Core.Path.{◌≡◌, sym, ap, ◌∙◌}
use Rattle.std.proofs.Common.{rules}
use Rattle.std.proofs.lemmas.List.{set-get_or}
use native.Mathlib.Omega.{arith}
use lib.ListN.{length, take, drop, get_or}
use Rattle.word.specs.Word.{word_bytes, to_le, bytes}
use Rattle.word.proofs.Bytes.{length-bytes, bytes_at, stored_more, store_out}
use Rattle.word.proofs.Library.{to_le_bytes_8}
use Rattle.word.proofs.store_words.Goals as goal

-- a byte of a word, at its place in it
byte : (w : List ℕ) (i k : ℕ) {b : List ℕ} → i < word_bytes * length w → k ≡ i % word_bytes → b ≡ to_le word_bytes (get_or w (i / word_bytes) 0)
    → get_or b k 0 ≡ get_or (bytes w) i 0
byte w i k h e f =
    ap (λ (b : List ℕ). get_or b k 0) f
    ∙ ap (λ (n : ℕ). get_or (to_le word_bytes (get_or w (i / word_bytes) 0)) n 0) e
    ∙ sym (bytes_at w i h)

pub loop-i-preserved : goal.loop-i-preserved
loop-i-preserved c =
    let l = c.loop-i in
    let w = c.args.words.now in
    let more : l.i / word_bytes < length w = search rules in
    let word : c.in-Some.word.now ≡ get_or w (l.i / word_bytes) 0 = search rules in
    let of_word : c.to_le_bytes.result ≡ to_le word_bytes (get_or w (l.i / word_bytes) 0) =
    c.to_le_bytes.ensures ∙ to_le_bytes_8 c.in-Some.word.now ∙ ap (to_le word_bytes) word in (
      omega arith,
      stored_more (bytes w) c.args.out.now l.i (omega arith) (omega (arith, length-bytes w)) (byte w l.i _ (omega arith) (search rules) of_word) l.invariant.1,
    )

pub returns-in_default : goal.returns-in_default
returns-in_default c =
    let l = c.loop-i in
    let o = c.args.out.now in
    let w = c.args.words.now in
    let out : length w ≤ l.i / word_bytes = search rules in
    record {
      output =
          set-get_or l.out l.i 0
          ∙ l.invariant.1
          ∙ store_out (bytes w) o l.i (omega (arith, length-bytes w)) (omega arith)
          ∙ ap (λ (n : ℕ). take (length o) (bytes w) ++ drop n o) (length-bytes w);
    }
