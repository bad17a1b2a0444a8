-- The engine that takes a message byte by byte.
use Rattle.std.specs.Prelude.{ℕ, ◌+◌, true, false, cond, List, [], ◌∷◌, ltb, set, replicate}
use Rattle.word.specs.Word.{bytes}
use Rattle.blake2b_compression.specs.Compression.{block_bytes, F, words, offset, count_of}
use Rattle.blake2b.specs.declared.Engine.{Engine}

-- the bytes of the blocks that are done, of which the engine keeps 128 bits
unfoldable pub count : Engine → ℕ
count s = offset s.count

-- nothing taken yet, from h₀ on
unfoldable pub fresh : List ℕ → Engine
fresh h₀ = record { h = h₀; buffer = replicate block_bytes 0; filled = 0; count = record { low = 0; high = 0 } }

-- the buffer's block is compressed as one that is not the last, and the buffer is empty again
unfoldable pub flushed : Engine → Engine
flushed s =
    record {
      h = F s.h (words s.buffer) (count s + block_bytes) false;
      buffer = replicate block_bytes 0;
      filled = 0;
      count = count_of (count s + block_bytes);
    }

-- one byte into a buffer that has room
unfoldable pub put : Engine → ℕ → Engine
put s b = record { h = s.h; buffer = set s.buffer s.filled b; filled = s.filled + 1; count = s.count }

-- one byte: a full buffer is compressed only when another byte comes
unfoldable pub feed_byte : Engine → ℕ → Engine
feed_byte s b = cond (ltb s.filled block_bytes) (put s b) (put (flushed s) b)

-- the bytes of a piece, in their order
unfoldable pub feed_all : Engine → List ℕ → Engine
feed_all s [] = s
feed_all s (b ∷ bs) = feed_all (feed_byte s b) bs

-- the 64 bytes of the engine's state, with the buffer's block as the last
unfoldable pub sealed : Engine → List ℕ
sealed s = bytes (F s.h (words s.buffer) (count s + s.filled) true)
