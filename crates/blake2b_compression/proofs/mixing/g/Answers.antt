-- `blake2b_compression::mixing::g` meets its contract: the eight stores are the eight lines of G. Assumes nothing.
use Rattle.std.proofs.Common.{rules}
use Rattle.blake2b_compression.proofs.Rounds.{eight_stores}
use Rattle.blake2b_compression.proofs.mixing.g.Goals as goal

pub returns : goal.returns
returns c =
    let s = c.args in
    eight_stores s.v s.a s.b s.c s.d s.x s.y (λ i. search rules)
    c.rotate_right.ensures c.rotate_right-2.ensures c.rotate_right-3.ensures c.rotate_right-4.ensures
