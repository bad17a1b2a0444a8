-- A memory that is lent has its lanes' blocks; what reading and writing do where a block is there, and what the calls do where all are.
-- Assumes nothing.
use Prim.Native.Nat.{ℕ, ◌+◌, ◌*◌, ◌/◌, ◌≤◌, ◌<◌}
use mathlib.Core.Bool.{Bool, true, false, cond, not, ◌&&◌, true≢false}
use mathlib.Core.List.{List}
use mathlib.Core.Path.{◌≡◌, refl, sym, ap, ◌∙◌, subst}
use native.Mathlib.Omega.{arith}
use lib.Dec.{eqb}
use lib.ListN.{length}
use borrow.Author.Tests.{lt-ltb, le-ltb, ltb-false, eqb-true, eq-eqb}
use Rattle.answer.specs.Answers.{first, if_accepted, length_rows}
use Rattle.answer.proofs.Answered.{left_new}
use Rattle.answer.proofs.Rows.{accepted}
use Rattle.word.specs.Word.{max_length}
use Rattle.block.specs.Block.{block_words, zeros}
use Rattle.block.specs.declared.Block.{Block}
use Rattle.params.specs.Limits.{rows, segment, lane_length, blocks}
use Rattle.params.specs.declared.Params.{Params}
use Rattle.params.proofs.Within as params
use Rattle.position.specs.Position.{index}
use Rattle.position.proofs.Referring.{index-lt}
use Rattle.checks.specs.Rows.{too_little}
use Rattle.memory.specs.Lent.{has, lent, Has, Lent}
use Rattle.memory.specs.Memory.{block, put}
use Rattle.memory.specs.Promises.{ReadBlockPromise, WriteBlockPromise, FirstBlocksPromise, WriteTagPromise}
use Rattle.memory.specs.Start.{start_memory}
use Rattle.memory.specs.Tag.{tag_of}

-- a lane's block lies in a memory of all the blocks
pub has_at : (P : Params) (words : ℕ) → block_words * blocks P ≤ words → (l c : ℕ) → l < P.lanes → c < lane_length P
    → Has words (index (segment P) l c)
has_at P words enough l c hl hc = omega (arith, index-lt P.lanes (segment P) l c hl hc)

pub fits_at : (P : Params) (w : List ℕ) → block_words * blocks P ≤ length w → (l c : ℕ) → l < P.lanes → c < lane_length P
    → block_words * index (segment P) l c + block_words ≤ length w
fits_at P w fits l c hl hc = has_at P (length w) fits l c hl hc

module _ {P : Params} {words : ℕ} (given : Lent P words) where
  pub within : params.Within P.lanes P.memory P.passes
  within = params.params_within P given.accepted

  pub two : 2 ≤ segment P
  two = params.two within

  pub room : (l c : ℕ) → l < P.lanes → c < lane_length P → Has words (index (segment P) l c)
  room = has_at P words given.enough

  -- the test holds
  pub lent_true : lent P words ≡ true
  unfolding lent
  lent_true =
      ap (λ (t : Bool). t && not (too_little block_words P words)) (eq-eqb (first (rows P)) 0 given.accepted)
      ∙ ap not (le-ltb words (block_words * blocks P) given.enough)

-- memory of another length, which is the same
pub lent_as : {P : Params} {words n : ℕ} → Lent P words → n ≡ words → Lent P n
lent_as {P} given e = subst (λ (m : ℕ). Lent P m) (sym e) given

-- where the test holds, the memory is lent
pub lent_fact : (P : Params) (words : ℕ) → lent P words ≡ true → Lent P words
unfolding lent
lent_fact P words e = go (eqb (first (rows P)) 0) (too_little block_words P words) refl refl e
  where
    go : (a b : Bool) → eqb (first (rows P)) 0 ≡ a → too_little block_words P words ≡ b → (a && not b) ≡ true → Lent P words
    go false b p q h = absurd (true≢false (sym h))
    go true true p q h = absurd (true≢false (sym h))
    go true false p q h = record { accepted = eqb-true (first (rows P)) 0 p; enough = ltb-false words (block_words * blocks P) q }

-- a block that is there
pub has_true : (words b : ℕ) → Has words b → has words b ≡ true
has_true words b h = lt-ltb b (words / block_words) (omega arith)

-- and so is a block of a lane
pub there : (P : Params) (words l c : ℕ) → Lent P words → l < P.lanes → c < lane_length P → has words (index (segment P) l c) ≡ true
there P words l c given hl hc = has_true words (index (segment P) l c) (room given l c hl hc)

pub lane_long : (P : Params) → first (rows P) ≡ 0 → 8 ≤ lane_length P
lane_long P h = omega (arith, params.two (params.params_within P h))

pub has_fact : (words b : ℕ) → b < words / block_words → Has words b
has_fact words b h = omega arith

pub read_there : {w : List ℕ} {b : ℕ} {r : Block} → ReadBlockPromise w b r → Has (length w) b → r.words ≡ block b w
read_there {w} {b} p there = p.words ∙ ap (λ (t : Bool). cond t (block b w) zeros) (has_true (length w) b there)

pub write_there : {w : List ℕ} {b : ℕ} {x : Block} {w' : List ℕ} → WriteBlockPromise w b x w' → Has (length w) b → w' ≡ put b x.words w
write_there {w} {b} {x} p there = p.memory ∙ ap (λ (t : Bool). cond t (put b x.words w) w) (has_true (length w) b there)

-- memory that is lent
pub first_there : {w : List ℕ} {P : Params} {h w' : List ℕ} → FirstBlocksPromise w P h w' → Lent P (length w)
    → w' ≡ start_memory h P.lanes (segment P) w
first_there {w} {P} {h} p given = p.memory ∙ ap (λ (t : Bool). cond t (start_memory h P.lanes (segment P) w) w) (lent_true given)

pub tag_there : {w : List ℕ} {P : Params} {out out' : List ℕ} → WriteTagPromise w P out out' → Lent P (length w) → 1 ≤ length out
    → length out ≤ max_length → out' ≡ tag_of P (length out) w
tag_there {w} {P} {out} p given some fits =
    let n = length out in
    p.output
    ∙ ap (λ (t : Bool). cond t (if_accepted (first (length_rows 1 max_length n)) (tag_of P n w) out) out) (lent_true given)
    ∙ left_new _ _ _ (accepted (length_rows 1 max_length n) (le-ltb n 1 some, (le-ltb max_length n fits, tt)))
