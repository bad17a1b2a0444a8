-- `blake2b::Engine::feed` meets its contract. The invariant: what is left to take leads to the same state. Assumes nothing.
use mathlib.Core.Path.{◌≡◌}
use lib.ListN.{drop}
use Rattle.blake2b.specs.Stream.{feed_all}
use Rattle.blake2b.proofs.Feeding.{state}
use Rattle.blake2b.proofs.Engine.feed.Given as goal

abbrev pub invariant-loop-byte : goal.invariant-loop-byte
invariant-loop-byte l =
    feed_all (state l.h l.buffer l.filled l.count) (drop l.byte-index l.piece) ≡ feed_all (state l.initial.h l.initial.buffer l.initial.filled l.initial.count) l.piece
