-- The whole hash, accepted, answers 0 and its output is Argon2 of the inputs alone, whatever the memory held. Assumes nothing.
use mathlib.Core.Path.{◌≡◌, refl, sym, ap, ◌∙◌}
use mathlib.Core.Bool.{true}
use mathlib.Core.List.{List}
use Prim.Native.Nat.{ℕ}
use lib.ListN.{length}
use Rattle.answer.specs.Answers.{number}
use Rattle.std.specs.Prelude.{⊤, Result as StdResult}
use Rattle.answer.specs.declared.Refusal.{Refusal}
use Rattle.params.specs.declared.Params.{Params}
use Rattle.argon2.specs.Argon2.{argon2}
use Rattle.argon2.specs.Calls.{Result, started, finished, hashed}
use Rattle.argon2.specs.Promises.{HashPromise}
use Rattle.job.specs.Jobs.{complete}
use Rattle.turns.specs.Play.{State, run}
use Rattle.turns.proofs.Started.{answered, before}
use Rattle.turns.proofs.Tag.{tag, whole}

module _ (P : Params) (password salt secret ad w out : List ℕ) where
  -- it answers as start does for a tag of the output's length
  pub hash_answer : (hashed P password salt secret ad w out).answer ≡ answered P (length out) password salt secret ad w
  unfolding hashed started
  hash_answer = refl

  -- accepted: answer 0, and Argon2 of the inputs
  pub hash_tag : answered P (length out) password salt secret ad w ≡ 0
      → ((hashed P password salt secret ad w out).answer ≡ 0)
      × ((hashed P password salt secret ad w out).output ≡ argon2 P (length out) password salt secret ad)
  hash_tag e =
      let σ : State = before P (length out) password salt secret ad w in
      let some : (ls : List ℕ) × (complete (run σ ls).job ≡ true) = (whole P password salt secret ad w out).completed e in
      let q : hashed P password salt secret ad w out ≡ finished (run σ some.0).job (run σ some.0).memory out =
      (whole P password salt secret ad w out).accepted e some.0 some.1 in (
        hash_answer ∙ e,
        ap (λ (r : Result). r.output) q ∙ (tag P (length out) password salt secret ad w e some.0 some.1 out refl).1,
      )

  -- the same of what the call hands back: an answer of 0 says that the output is Argon2 of the inputs
  pub promised_tag : {r : StdResult ⊤ Refusal} {w' out' : List ℕ} → HashPromise P password salt secret ad w out r w' out' → number r ≡ 0
      → out' ≡ argon2 P (length out) password salt secret ad
  promised_tag p z = p.output ∙ (hash_tag (sym hash_answer ∙ sym p.answer ∙ z)).1
