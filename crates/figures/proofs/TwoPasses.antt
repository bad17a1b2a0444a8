-- Two passes in the least memory that one lane has, put together from its parts: the initial hash, the two first blocks, each slice over the memory
-- before it, and the tag. Assumes nothing.
use mathlib.Core.List.{List, []}
use mathlib.Core.Path.{◌≡◌, refl, ◌∙◌}
use Prim.Native.Nat.{ℕ}
use lib.ListN.{replicate}
use Rattle.params.specs.Limits.{segment_length}
use Rattle.params.specs.declared.Params.{Params}
use Rattle.initial.specs.Initial.{hash_input}
use Rattle.memory.specs.Memory.{put}
use Rattle.argon2.specs.Argon2.{argon2}
use Rattle.figures.proofs.Inputs.{smallest, password, salt}
use Rattle.figures_quick.proofs.Xor.{quick}
use Rattle.figures_quick.proofs.QuickHash.{blake2b_by, long_by}
use Rattle.figures_quick.proofs.QuickBlock.{xors_by, compress_quick}
use Rattle.figures_quick.proofs.Whole.{fill_segment_of, fill_slice_of, fill_pass_of, fill_all_of, first_of, start_of, tag_by, argon2_of, argon2_quick}

module _ (algorithm version : ℕ) where
  abbrev params : Params
  params = smallest algorithm version 2

  -- the memory after slice sl of pass r
  abbrev pub slice : ℕ → ℕ → List ℕ → List ℕ
  slice r sl w = fill_slice_of compress_quick (xors_by quick) params r sl w

  -- slice 0 of pass 0 has no more than the first blocks
  slice_0_0 : (w : List ℕ) → slice 0 0 w ≡ w
  unfolding fill_slice_of fill_segment_of segment_length
  slice_0_0 w = refl

  all : (m0_0 : List ℕ) {m0_1 m0_2 m0_3 m1_0 m1_1 m1_2 m1_3 : List ℕ}
      → slice 0 1 m0_0 ≡ m0_1 → slice 0 2 m0_1 ≡ m0_2 → slice 0 3 m0_2 ≡ m0_3
      → slice 1 0 m0_3 ≡ m1_0 → slice 1 1 m1_0 ≡ m1_1 → slice 1 2 m1_1 ≡ m1_2 → slice 1 3 m1_2 ≡ m1_3
      → fill_all_of compress_quick (xors_by quick) params m0_0 ≡ m1_3
  unfolding fill_all_of fill_pass_of
  all m e1 e2 e3 f0 f1 f2 f3 = rw (slice_0_0, e1, e2, e3, f0, f1, f2, f3)

  pub two_passes : {h b0 b1 m0_0 m0_1 m0_2 m0_3 m1_0 m1_1 m1_2 m1_3 tag : List ℕ}
      → blake2b_by quick 64 (hash_input params 32 password salt [] []) ≡ h
      → first_of (long_by quick) h 0 0 ≡ b0 → first_of (long_by quick) h 0 1 ≡ b1 → put 1 b1 (put 0 b0 (replicate 1024 0)) ≡ m0_0
      → slice 0 1 m0_0 ≡ m0_1 → slice 0 2 m0_1 ≡ m0_2 → slice 0 3 m0_2 ≡ m0_3
      → slice 1 0 m0_3 ≡ m1_0 → slice 1 1 m1_0 ≡ m1_1 → slice 1 2 m1_1 ≡ m1_2 → slice 1 3 m1_2 ≡ m1_3
      → tag_by (long_by quick) (xors_by quick) params 32 m1_3 ≡ tag
      → argon2 params 32 password salt [] [] ≡ tag
  unfolding argon2_of start_of segment_length
  two_passes hash first_0 first_1 laid e1 e2 e3 f0 f1 f2 f3 tagged =
      argon2_quick params 32 password salt [] [] ∙ rw (hash, first_0, first_1, laid, all _ e1 e2 e3 f0 f1 f2 f3, tagged)
