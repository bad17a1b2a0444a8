-- What start's answer says of its inputs, and that whatever it answers it changes no word outside of blocks 0 and 1 of the used lanes.
-- Assumes nothing.
use mathlib.Core.Path.{◌≡◌, ap, ◌∙◌}
use mathlib.Core.Logic.{◌≢◌}
use mathlib.Core.Bool.{Bool, true, false, cond}
use mathlib.Core.List.{List, ◌++◌}
use Prim.Native.Nat.{ℕ, ◌*◌, ◌/◌, ◌≤◌, ◌<◌}
use lib.Dec.{eqb}
use lib.ListN.{length, get_or}
use borrow.Author.Tests.{eqb-true, eqb-false, ltb-false, ne_eqb}
use Rattle.answer.specs.Answers.{first, if_accepted}
use Rattle.answer.proofs.Rows.{Passed, passed, accepted, passed_front, passed_back}
use Rattle.block.specs.Block.{block_words}
use Rattle.params.specs.Limits.{rows, segment, blocks}
use Rattle.params.specs.declared.Params.{Params}
use Rattle.params.proofs.Within.{params_within, two}
use Rattle.position.specs.Position.{index}
use Rattle.argon2.specs.Calls.{started}
use Rattle.initial.specs.Initial.{initial_hash}
use Rattle.memory.specs.Start.{start_memory}
use Rattle.checks.specs.Rows.{min_salt, extra_rows, output_rows, input_rows}
use Rattle.memory.proofs.StartMemory.{start_outside}

-- parameters that pass rows 1 to 8, a tag length that they allow, and enough memory
pub record Accepted (P : Params) (tag : ℕ) (w : List ℕ) : Type 0 where
  pub numbers : first (rows P) ≡ 0
  pub allowed : first (output_rows P.configured tag) ≡ 0
  pub fits : block_words * blocks P ≤ length w

module _ (P : Params) (tag : ℕ) (password salt secret ad w : List ℕ) where
  abbrev pub answered : ℕ
  answered = (started P tag password salt secret ad w).answer

  pub accepted_start : answered ≡ 0 → Accepted P tag w
  unfolding started
  accepted_start e =
      let extra = extra_rows (length secret) (length ad) in
      let output = output_rows P.configured tag in
      let input = input_rows min_salt block_words P (length password) (length salt) (length w) in
      let all : Passed (rows P ++ extra ++ output ++ input) = passed (rows P ++ extra ++ output ++ input) tt e in
      let last : Passed input = passed_back (rows P ++ extra ++ output) input all in
      record {
        numbers = accepted (rows P) (passed_front (rows P) extra (passed_front (rows P ++ extra) output (passed_front (rows P ++ extra ++ output) input all)));
        allowed = accepted output (passed_back (rows P ++ extra) output (passed_front (rows P ++ extra ++ output) input all));
        fits = ltb-false (length w) (block_words * blocks P) last.1.1.1.0;
      }

  -- the memory after, accepted and refused
  pub started_memory : answered ≡ 0
      → (started P tag password salt secret ad w).memory ≡ start_memory (initial_hash P tag password salt secret ad) P.lanes (segment P) w
  unfolding started
  started_memory e =
      ap (λ (n : ℕ). if_accepted n (start_memory (initial_hash P tag password salt secret ad) P.lanes (segment P) w) w) e

  pub refused_memory : answered ≢ 0 → (started P tag password salt secret ad w).memory ≡ w
  unfolding started
  refused_memory n =
      ap (λ (t : Bool). cond t (start_memory (initial_hash P tag password salt secret ad) P.lanes (segment P) w) w) (ne_eqb answered 0 n)

  -- a word outside of those blocks is as it was
  pub start_others : (i : ℕ) → ((l b : ℕ) → l < P.lanes → b < 2 → i / block_words ≢ index (segment P) l b)
      → get_or (started P tag password salt secret ad w).memory i 0 ≡ get_or w i 0
  start_others i f = go (eqb answered 0) (λ k. eqb answered 0)
    where
      go : (t : Bool) → eqb answered 0 ≡ t → get_or (started P tag password salt secret ad w).memory i 0 ≡ get_or w i 0
      go true t =
          let e : answered ≡ 0 = eqb-true answered 0 t in
          let a : Accepted P tag w = accepted_start e in
          ap (λ (v : List ℕ). get_or v i 0) (started_memory e)
          ∙ start_outside (initial_hash P tag password salt secret ad) P.lanes (segment P) (two (params_within P a.numbers)) w a.fits i f
      go false t = ap (λ (v : List ℕ). get_or v i 0) (refused_memory (eqb-false answered 0 t))
