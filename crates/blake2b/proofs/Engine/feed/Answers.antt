-- `blake2b::Engine::feed` meets its contract. The invariant: what is left to take leads to the same state. Assumes nothing.
use Rattle.std.proofs.Common.{◌≡◌, ℕ, ◌<◌, ◌∙◌, arith}
use Rattle.blake2b_compression.specs.Compression.{block_bytes, offset}
use Rattle.blake2b.specs.Stream.{count, put, feed_byte}
use Rattle.blake2b.proofs.Feeding.{state, same_state, flushed_is, full_turn, room_turn, fed, all_fed}
use Rattle.blake2b.proofs.Engine.feed.Goals as goal
use Rattle.blake2b.proofs.Engine.feed.Goals.{then-filled-ge-BLOCK, else-filled-ge-BLOCK}

-- where the branch has met there is room, and a byte more is what the definition says
pub loop-byte-preserved : goal.loop-byte-preserved
unfolding put count offset
loop-byte-preserved c =
    let l = c.loop-byte in
    let j = c.if-filled-ge-BLOCK in
    let s = state l.h l.buffer l.filled l.count in
    let s' = state j.h j.buffer j.filled j.count in
    let joined : (s'.filled < block_bytes) × ((b : ℕ) → put s' b ≡ feed_byte s b) =
    elim j.branch [
      | then-filled-ge-BLOCK w ↦ full_turn s s' w.if-filled-ge-BLOCK.true (same_state w.h-is w.buffer-is w.filled-is w.count-is ∙ flushed_is s w.compress-g.ensures.result w.add-count.ensures.result)
      | else-filled-ge-BLOCK w ↦ room_turn s s' w.if-filled-ge-BLOCK.false (same_state w.h-is w.buffer-is w.filled-is w.count-is)
    ]
    in
    fed _ _ _ c.args.piece.now l.byte-index (omega arith) (joined.1 _) l.invariant

pub returns : goal.returns
returns c = record { result = all_fed _ _ c.args.piece.now c.loop-byte.byte-index (omega arith) c.loop-byte.invariant }
