-- `blake2b_compression::mixing::one_round` meets its contract: eight mixings. Assumes nothing.
use Rattle.blake2b_compression.specs.Compression.{◌!◌}
use Rattle.blake2b_compression.proofs.Rounds.{eight_mixings}
use Rattle.blake2b_compression.proofs.mixing.one_round.Goals as goal

pub returns : goal.returns
returns c =
    let a = c.args in
    eight_mixings (λ j. a.w ! j) a.v
    c.g-v1.ensures
    c.g-v2.ensures
    c.g-v3.ensures
    c.g-v4.ensures
    c.g-v5.ensures
    c.g-v6.ensures
    c.g-v7.ensures
    c.g.ensures
