-- Document 01, "Tag".
use Rattle.std.specs.Prelude.{ℕ, zero, suc, ◌-◌, ◌*◌, List}
use Rattle.word.specs.Word.{bytes}
use Rattle.blake2b_long.specs.Long.{long}
use Rattle.block.specs.Block.{zeros, xors}
use Rattle.params.specs.Limits.{slices, segment}
use Rattle.params.specs.declared.Params.{Params}
use Rattle.position.specs.Position.{index}
use Rattle.memory.specs.Memory.{block}

-- the XOR of the last blocks of the first n lanes
unfoldable pub last_blocks : ℕ → ℕ → List ℕ → List ℕ
last_blocks zero s w = zeros
last_blocks (suc n) s w = xors (last_blocks n s w) (block (index s n (slices * s - 1)) w)

-- the variable hash of the XOR of every lane's last block, words little-endian; n bytes
unfoldable pub tag_of : Params → ℕ → List ℕ → List ℕ
tag_of P n w = long n (bytes (last_blocks P.lanes (segment P) w))
