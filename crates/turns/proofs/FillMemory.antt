-- `fill_memory` leaves the memory that start leaves with tag length 0 in its initial hash, and then steps to completion, in any order; and
-- its blocks do not depend on what the memory held. Assumes nothing.
use mathlib.Core.Path.{◌≡◌, refl, sym, ap, ◌∙◌}
use mathlib.Core.Logic.{◌≢◌}
use mathlib.Core.Bool.{Bool, true, cond}
use mathlib.Core.List.{List}
use Prim.Native.Nat.{ℕ, ◌<◌}
use native.Mathlib.Omega.{arith}
use lib.ListN.{length}
use borrow.Author.Tests.{le-ltb, ne_eqb}
use Rattle.answer.specs.Answers.{first, if_accepted}
use Rattle.answer.proofs.Rows.{accepted}
use Rattle.params.specs.Limits.{segment, blocks}
use Rattle.std.specs.Prelude.{Option, None, Some}
use Rattle.params.specs.declared.Params.{Params}
use Rattle.checks.specs.Rows.{least_tag, output_rows}
use Rattle.initial.specs.Initial.{initial_hash}
use Rattle.argon2.specs.Argon2.{filled}
use Rattle.argon2.specs.Calls.{memory_filled}
use Rattle.memory.specs.Lent.{Lent}
use Rattle.memory.specs.Memory.{block}
use Rattle.memory.specs.Start.{start_memory}
use Rattle.argon2.proofs.Inputs.{fill_lent}
use Rattle.job.specs.Jobs.{complete, start_job}
use Rattle.turns.specs.Play.{State, run}
use Rattle.turns.proofs.Forgotten.{forgotten}
use Rattle.turns.proofs.Tag.{rfc, rfc_complete, complete_memory}

-- parameters allow some tag length, the least
pub some_tag : (g : Option ℕ) → first (output_rows g (least_tag g)) ≡ 0
some_tag None = refl
some_tag (Some n) =
    accepted (output_rows (Some n) n) (le-ltb n n (omega arith), (le-ltb n n (omega arith), tt))

module _ (P : Params) (password salt secret ad : List ℕ) where
  -- start with tag length 0 in its initial hash: its blocks, and the job of a tag length that the parameters allow
  abbrev pub untagged : ℕ → List ℕ → State
  untagged n w =
      record {
        job = start_job P n;
        memory = start_memory (initial_hash P 0 password salt secret ad) P.lanes (segment P) w;
      }

  -- what fill_memory answers, and the memory that it leaves
  abbrev pub fill_answer : List ℕ → ℕ
  fill_answer w = (memory_filled P password salt secret ad w).answer

  abbrev pub fill_memory : List ℕ → List ℕ
  fill_memory w = (memory_filled P password salt secret ad w).memory

  pub fill_refused : (w : List ℕ) → fill_answer w ≢ 0 → fill_memory w ≡ w
  unfolding memory_filled
  fill_refused w n = ap (λ (t : Bool). cond t (filled P 0 password salt secret ad w) w) (ne_eqb (fill_answer w) 0 n)

  fill_accepted : (w : List ℕ) → fill_answer w ≡ 0 → fill_memory w ≡ filled P 0 password salt secret ad w
  unfolding memory_filled
  fill_accepted w e = ap (λ (n : ℕ). if_accepted n (filled P 0 password salt secret ad w) w) e

  pub fill_lends : (w : List ℕ) → fill_answer w ≡ 0 → Lent P (length w)
  unfolding memory_filled
  fill_lends w e = fill_lent P (length password) (length salt) (length secret) (length ad) (length w) e

  -- a tag length that the parameters allow
  module _ (n : ℕ) (allowed : first (output_rows P.configured n) ≡ 0) (w : List ℕ) (e : fill_answer w ≡ 0) where
    -- some list of lanes completes filling
    pub fill_completes : (ls : List ℕ) × (complete (run (untagged n w) ls).job ≡ true)
    fill_completes =
        let h : List ℕ = initial_hash P 0 password salt secret ad in (
          (rfc P n (fill_lends w e).accepted allowed h w (fill_lends w e).enough).0,
          rfc_complete P n (fill_lends w e).accepted allowed h w (fill_lends w e).enough,
        )

    -- and every list that does leaves the memory of fill_memory
    pub fill_any_order : (ls : List ℕ) → complete (run (untagged n w) ls).job ≡ true → fill_memory w ≡ (run (untagged n w) ls).memory
    unfolding filled
    fill_any_order ls c =
        fill_accepted w e
        ∙ sym (complete_memory P n (fill_lends w e).accepted allowed (initial_hash P 0 password salt secret ad) w (fill_lends w e).enough ls c)

  -- two memories, the same blocks
  forget : (n : ℕ) → first (output_rows P.configured n) ≡ 0 → (w : List ℕ) → fill_answer w ≡ 0 → (v : List ℕ) → fill_answer v ≡ 0
      → (b : ℕ) → b < blocks P → block b (fill_memory w) ≡ block b (fill_memory v)
  forget n ok w e v f b u =
      ap (block b) (fill_any_order n ok w e (fill_completes n ok w e).0 (fill_completes n ok w e).1)
      ∙ forgotten P n (fill_lends w e).accepted ok (initial_hash P 0 password salt secret ad) w v (fill_lends w e).enough (fill_lends v f).enough
      (fill_completes n ok w e).0 (fill_completes n ok v f).0 (fill_completes n ok w e).1 (fill_completes n ok v f).1 b u
      ∙ ap (block b) (sym (fill_any_order n ok v f (fill_completes n ok v f).0 (fill_completes n ok v f).1))

  pub record FillMemory (w : List ℕ) : Type 0 where
    -- refused: the memory as it was
    pub refused : fill_answer w ≢ 0 → fill_memory w ≡ w
    -- accepted: that of any steps to completion, and some steps complete it
    pub any_order : fill_answer w ≡ 0 → (n : ℕ) → first (output_rows P.configured n) ≡ 0
        → (ls : List ℕ) → complete (run (untagged n w) ls).job ≡ true → fill_memory w ≡ (run (untagged n w) ls).memory
    pub completed : fill_answer w ≡ 0
        → (n : ℕ) × (first (output_rows P.configured n) ≡ 0) × ((ls : List ℕ) × (complete (run (untagged n w) ls).job ≡ true))
    -- the blocks do not depend on what the memory held
    pub forgets : fill_answer w ≡ 0 → (v : List ℕ) → fill_answer v ≡ 0
        → (b : ℕ) → b < blocks P → block b (fill_memory w) ≡ block b (fill_memory v)

  pub fills : (w : List ℕ) → FillMemory w
  fills w =
      record {
        refused = fill_refused w;
        any_order = λ e n a ls c. fill_any_order n a w e ls c;
        completed = λ e. (least_tag P.configured, some_tag P.configured, fill_completes (least_tag P.configured) (some_tag P.configured) w e);
        forgets = λ e v f b u. forget (least_tag P.configured) (some_tag P.configured) w e v f b u;
      }
