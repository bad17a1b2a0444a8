-- The cases of document 01 that are marked P, one record, one statement. Each row is about a definition that the promises name; P4 to P8 and
-- the sizes of P1 to P3 stand in the rows of `PositionCases`, P10 in those of `AddressCases`. Assumes nothing.
use mathlib.Core.Path.{◌≡◌, refl, ap, ◌∙◌}
use mathlib.Core.Logic.{◌↔◌}
use mathlib.Core.Bool.{true}
use mathlib.Core.List.{List, [], ◌∷◌, ◌++◌}
use Prim.Native.Nat.{ℕ, ◌+◌, ◌*◌}
use native.Mathlib.Omega.{arith}
use lib.ListN.{take, drop, replicate}
use Rattle.blake2b_long.specs.Long.{pieces}
use Rattle.blake2b_long.proofs.Pieces.{direct, just_over, ninety_six, ninety_seven, a_block}
use Rattle.block.specs.Block.{block_words}
use Rattle.params.specs.Limits.{d, i, id, v13, segment_length, blocks}
use Rattle.std.specs.Prelude.{None}
use Rattle.params.specs.declared.Params.{Params}
use Rattle.position.proofs.Cases.{PositionCases}
use Rattle.position.proofs.Cases.{cases as position-cases}
use Rattle.address.proofs.Cases.{AddressCases}
use Rattle.address.proofs.Cases.{cases as address-cases}
use Rattle.argon2.specs.Calls.{started}
use Rattle.initial.specs.Initial.{hash_input}
use Rattle.job.specs.Jobs.{complete}
use Rattle.initial.proofs.MemoryCost.{memory_hashed}
use Rattle.turns.specs.Play.{run, accepted_steps}
use Rattle.turns.proofs.Completion.{count}
use Rattle.turns.proofs.Started.{answered, before}

-- memory cost m, p lanes, t passes; any algorithm, version 19, no configured length
abbrev pub with_costs : ℕ → ℕ → ℕ → ℕ → Params
with_costs algorithm m p t =
    record { algorithm = algorithm; version = v13; memory = m; passes = t; lanes = p; configured = None }

-- a start that is accepted: 32 bytes of tag, no password, 8 bytes of salt, just enough memory
abbrev pub Starts : Params → Type 0
Starts P = answered P 32 [] (replicate 8 0) [] [] (replicate (block_words * blocks P) 0) ≡ 0

-- an accepted start is complete after exactly n steps
abbrev pub Needs : Params → ℕ → Type 0
Needs P n =
    (tag : ℕ) (password salt secret ad w : List ℕ) → answered P tag password salt secret ad w ≡ 0
    → (ls : List ℕ)
    → (complete (run (before P tag password salt secret ad w) ls).job ≡ true) ↔ (accepted_steps (before P tag password salt secret ad w) ls ≡ n)

pub record Cases : Type 0 where
  -- P1 s=2, m'=8; P3 m'=32; P4 to P8
  pub positions : PositionCases
  -- P1 m=8, p=1, t=1 needs 6 steps
  pub p1_starts : Starts (with_costs d 8 1 1) × Starts (with_costs i 8 1 1) × Starts (with_costs id 8 1 1)
  pub p1_steps : (algorithm : ℕ) → Needs (with_costs algorithm 8 1 1) 6
  -- P2 m=32, p=4, t=3: 88 steps
  pub p2_starts : Starts (with_costs d 32 4 3) × Starts (with_costs i 32 4 3) × Starts (with_costs id 32 4 3)
  pub p2_steps : (algorithm : ℕ) → Needs (with_costs algorithm 32 4 3) 88
  -- P3 m=47, p=4: 47 is hashed, as bytes 8 to 11
  pub p3_hashed : (algorithm t tag : ℕ) (password salt secret ad : List ℕ)
      → take 4 (drop 8 (hash_input (with_costs algorithm 47 4 t) tag password salt secret ad)) ≡ 47 ∷ 0 ∷ 0 ∷ 0 ∷ []
  -- P9 pieces: 64 direct; 65 is 32+33; 96 is 32+64; 97 is 32+32+33; 1,024 is thirty of 32, then 64
  pub p9_pieces : (pieces 64 ≡ 64 ∷ [])
      × (pieces 65 ≡ 32 ∷ 33 ∷ [])
      × (pieces 96 ≡ 32 ∷ 64 ∷ [])
      × (pieces 97 ≡ 32 ∷ 32 ∷ 33 ∷ [])
      × (pieces 1024 ≡ replicate 30 32 ++ (64 ∷ []))
  -- P10 block 127 uses counter 1, word 127; block 128 counter 2, word 0
  pub addresses : AddressCases

-- `count`, where the blocks of all passes, less two for each lane, are n
needs : (P : Params) (n : ℕ) → n + 2 * P.lanes ≡ P.passes * blocks P → Needs P n
needs P n e tag password salt secret ad w ok ls =
    let both : (complete (run (before P tag password salt secret ad w) ls).job ≡ true)
    ↔ (accepted_steps (before P tag password salt secret ad w) ls + 2 * P.lanes ≡ P.passes * blocks P) =
    (count P tag password salt secret ad w ok ls).exactly in
    (λ c. omega (arith, both.0 c), λ q. both.1 (ap (λ (m : ℕ). m + 2 * P.lanes) q ∙ e))

pub cases : Cases
unfolding started segment_length
cases =
    record {
      positions = position-cases;
      p1_starts = (refl, refl, refl);
      p1_steps = λ algorithm. needs (with_costs algorithm 8 1 1) 6 refl;
      p2_starts = (refl, refl, refl);
      p2_steps = λ algorithm. needs (with_costs algorithm 32 4 3) 88 refl;
      p3_hashed = λ algorithm t tag password salt secret ad. memory_hashed (with_costs algorithm 47 4 t) tag password salt secret ad;
      p9_pieces = (direct, just_over, ninety_six, ninety_seven, a_block);
      addresses = address-cases;
    }
