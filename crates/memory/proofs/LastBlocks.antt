-- The XOR of the lanes' last blocks, of none and of one lane more. Assumes nothing.
use mathlib.Core.List.{List}
use mathlib.Core.Path.{◌≡◌, refl, ap}
use Prim.Native.Nat.{ℕ, ◌+◌, ◌-◌, ◌*◌}
use native.Mathlib.Numerals.{add-one}
use Rattle.block.specs.Block.{zeros, xors}
use Rattle.params.specs.Limits.{slices}
use Rattle.position.specs.Position.{index}
use Rattle.memory.specs.Tag.{last_blocks}
use Rattle.memory.specs.Memory.{block}

pub last_zero : (s : ℕ) (w : List ℕ) → last_blocks 0 s w ≡ zeros
unfolding last_blocks
last_zero s w = refl

pub last_more : (n s : ℕ) (w : List ℕ) → last_blocks (n + 1) s w ≡ xors (last_blocks n s w) (block (index s n (slices * s - 1)) w)
unfolding last_blocks
last_more n s w = ap (λ (m : ℕ). last_blocks m s w) (add-one n)
