-- Document 01, "Initial hash": the memory once the blocks that each lane begins with are written.
use Rattle.std.specs.Prelude.{ℕ, List}
use Rattle.position.specs.Position.{index}
use Rattle.initial.specs.Initial.{first_words}
use Rattle.memory.specs.Loop.{loop}
use Rattle.memory.specs.Memory.{put}

-- blocks 0 and 1 of lane l
unfoldable pub start_lane : List ℕ → ℕ → ℕ → List ℕ → List ℕ
start_lane h s l w = put (index s l 1) (first_words h l 1) (put (index s l 0) (first_words h l 0) w)

-- start writes blocks 0 and 1 of every lane and no other
unfoldable pub start_memory : List ℕ → ℕ → ℕ → List ℕ → List ℕ
start_memory h p s w = loop p 0 (λ l. start_lane h s l) w
