-- What is fed to the initial hash, piece after piece, and the digest of it all. Assumes nothing.
use mathlib.Core.List.{List, ◌++◌}
use mathlib.Core.Path.{◌≡◌, sym, ap, ◌∙◌}
use Prim.Native.Nat.{ℕ}
use Rattle.blake2b.specs.Blake2b.{initial}
use Rattle.blake2b.specs.Stream.{fresh, feed_all, sealed}
use Rattle.blake2b.specs.declared.Engine.{Engine}
use Rattle.blake2b.proofs.Hashing.{ended, whole}
use Rattle.blake2b.proofs.Streaming.{cut}
use Rattle.params.specs.declared.Params.{Params}
use Rattle.initial.specs.Initial.{hash_input, initial_hash_bytes, initial_hash}

-- one piece after another
pub and_then : (s : Engine) (a b : List ℕ) {t u : Engine} → t ≡ feed_all s a → u ≡ feed_all t b → u ≡ feed_all s (a ++ b)
and_then s a b p q = q ∙ ap (λ (t : Engine). feed_all t b) p ∙ sym (cut s a b)

-- the digest of the whole input
pub all_fed : (P : Params) (tag : ℕ) (password salt secret ad : List ℕ) {h : List ℕ} {b s : Engine} {r : List ℕ}
    → h ≡ initial initial_hash_bytes → b ≡ fresh h → s ≡ feed_all b (hash_input P tag password salt secret ad)
    → r ≡ sealed s → r ≡ initial_hash P tag password salt secret ad
unfolding initial_hash
all_fed P tag password salt secret ad o p q e =
    let msg = hash_input P tag password salt secret ad in
    whole msg (ended initial_hash_bytes msg o p q e)
