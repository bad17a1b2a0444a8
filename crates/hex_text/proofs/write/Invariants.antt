-- `hex_text::write` meets its contract. The invariant: the digits of the first k bytes stand in front of what stood behind them. Assumes nothing.
use Rattle.std.proofs.Common.{◌≡◌, ◌*◌, ◌++◌, take, drop}
use Rattle.hex_text.specs.Hex.{hex_digits}
use Rattle.hex_text.proofs.write.Given as goal

abbrev pub invariant-loop-k : goal.invariant-loop-k
invariant-loop-k l = l.text ≡ hex_digits (take l.k l.bytes) ++ drop (2 * l.k) l.initial.text
