-- `word::bytes_at` meets its contract: the first bytes of the rest, or zeros. Assumes nothing.
use Prim.Native.Nat.{ℕ}
use mathlib.Core.List.{List}
use mathlib.Core.Path.{ap, ◌∙◌, refl}
use lib.ListN.{replicate}
use Rattle.std.specs.Prelude.{Option}
use Rattle.std.specs.Option.{unwrap_or}
use Rattle.word.specs.Word.{from_le}
use Rattle.word.proofs.Chunk.{rest_of, first_of}
use Rattle.word.proofs.bytes_at.Goals as goal

pub returns : goal.returns
returns g c =
    let a = c.args in
    ap from_le (c.unwrap_or.ensures ∙ ap (λ (o : Option (List ℕ)). unwrap_or o (replicate g.row.N 0)) c.copied.ensures)
    ∙ first_of g.row.N a.s.now a.at c.unwrap_or-rest.result.now c.first_chunk.result
    (rest_of a.s.now a.at c.get.result _ refl c.get.ensures.lookup.0 c.unwrap_or-rest.ensures)
    c.first_chunk.ensures.cases
