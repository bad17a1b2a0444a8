-- A machine that takes turns, with no word of Argon2: a state, what an agent's turn leaves, and a test that says whether a turn is accepted.
use Rattle.std.specs.Prelude.{Bool, cond, ◌&&◌, List, [], ◌∷◌, ℕ, ◌+◌, eqb}

module _ (S : Type 0) (act : S → ℕ → S) where
  -- the state after the turns of a list, in order
  abbrev pub turns : S → List ℕ → S
  turns s [] = s
  turns s (l ∷ ls) = turns (act s l) ls

  module _ (ok : S → ℕ → Bool) where
    -- how many turns of agent x were accepted
    abbrev pub accepted_of : ℕ → S → List ℕ → ℕ
    accepted_of x s [] = 0
    accepted_of x s (l ∷ ls) = cond (ok s l && eqb l x) 1 0 + accepted_of x (act s l) ls

    -- how many turns were accepted in all
    abbrev pub accepted_all : S → List ℕ → ℕ
    accepted_all s [] = 0
    accepted_all s (l ∷ ls) = cond (ok s l) 1 0 + accepted_all (act s l) ls

    -- f of each accepted turn, in order
    abbrev pub noted : {A : Type 0} → (S → ℕ → A) → S → List ℕ → List A
    noted f s [] = []
    noted f s (l ∷ ls) = cond (ok s l) (f s l ∷ noted f (act s l) ls) (noted f (act s l) ls)
