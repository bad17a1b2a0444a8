-- What the public functions of this crate promise.
use Rattle.std.specs.Prelude.{◌≡◌, ℕ, List}
use Rattle.block.specs.Block.{block_words, zeros, xors, permutation, compress}
use Rattle.word.specs.Word.{words_of, bytes}
use Rattle.block.specs.declared.Block.{Block}

pub record PermutePromise (v r : List ℕ) : Type 0 where
  pub result : r ≡ permutation v

pub record NewPromise (r : Block) : Type 0 where
  pub result : r.words ≡ zeros

pub record FromBytesPromise (s : List ℕ) (r : Block) : Type 0 where
  pub result : r.words ≡ words_of block_words s

pub record ToBytesPromise (x : Block) (r : List ℕ) : Type 0 where
  pub result : r ≡ bytes x.words

pub record XorPromise (x y r : Block) : Type 0 where
  pub result : r.words ≡ xors x.words y.words

pub record CompressPromise (x y r : Block) : Type 0 where
  pub result : r.words ≡ compress x.words y.words
