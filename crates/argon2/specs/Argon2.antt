-- Argon2 as RFC 9106 has it: a function of its inputs, with no memory lent.
use Rattle.std.specs.Prelude.{ℕ, ◌*◌, List, replicate}
use Rattle.block.specs.Block.{block_words}
use Rattle.params.specs.Limits.{segment, blocks}
use Rattle.params.specs.declared.Params.{Params}
use Rattle.initial.specs.Initial.{initial_hash}
use Rattle.memory.specs.Start.{start_memory}
use Rattle.memory.specs.Tag.{tag_of}
use Rattle.filling.specs.Filling.{fill_all}

-- what the blocks hold when filling is complete, over memory that began as w
unfoldable pub filled : Params → ℕ → List ℕ → List ℕ → List ℕ → List ℕ → List ℕ → List ℕ
filled P tag password salt secret ad w =
    fill_all P (start_memory (initial_hash P tag password salt secret ad) P.lanes (segment P) w)

-- RFC 9106, 3.2: Argon2, over memory that began as zeros
unfoldable pub argon2 : Params → ℕ → List ℕ → List ℕ → List ℕ → List ℕ → List ℕ
argon2 P tag password salt secret ad =
    tag_of P tag (filled P tag password salt secret ad (replicate (block_words * blocks P) 0))
