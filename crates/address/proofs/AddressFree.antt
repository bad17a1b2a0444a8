-- `address_free`: in an addressed segment the random word, and so the reference, is a function of lanes, memory cost, passes and algorithm, of
-- pass, slice, lane and block: whatever word 0 of the previous block is, and whatever else the parameters say. Assumes nothing.
use mathlib.Core.Bool.{Bool, true, cond}
use mathlib.Core.Path.{◌≡◌, ap, sym, ◌∙◌}
use Prim.Native.Nat.{ℕ}
use Rattle.params.specs.Limits.{segment}
use Rattle.params.specs.declared.Params.{Params}
use Rattle.position.specs.Position.{reference}
use Rattle.address.specs.Address.{addressed, address_block, addressed_word, random_word}

-- two parameters with the same costs and algorithm
pub record Alike (P P' : Params) : Type 0 where
  pub lanes : P.lanes ≡ P'.lanes
  pub memory : P.memory ≡ P'.memory
  pub passes : P.passes ≡ P'.passes
  pub algorithm : P.algorithm ≡ P'.algorithm

module _ {P P' : Params} (a : Alike P P') (r sl l k : ℕ) (e : addressed P r sl ≡ true) (v v' : ℕ) where
  same_addressed : addressed P' r sl ≡ addressed P r sl
  same_addressed = rw (← a.algorithm)

  same_word : addressed_word P r sl l k ≡ addressed_word P' r sl l k
  unfolding addressed_word address_block
  same_word = rw (a.lanes, a.memory, a.passes, a.algorithm)

  pub word_address_free : random_word P r sl l k v ≡ random_word P' r sl l k v'
  unfolding random_word
  word_address_free =
      ap (λ (t : Bool). cond t (addressed_word P r sl l k) v) e
      ∙ same_word
      ∙ sym (ap (λ (t : Bool). cond t (addressed_word P' r sl l k) v') (same_addressed ∙ e))

  pub address_free : reference P.lanes (segment P) r sl l k (random_word P r sl l k v)
      ≡ reference P'.lanes (segment P') r sl l k (random_word P' r sl l k v')
  address_free = rw (word_address_free, a.lanes, a.memory)
