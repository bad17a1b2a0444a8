-- Document 01, "Cases": what P10 says of address blocks. Each line cites a definition that the promises use. Assumes nothing.
use mathlib.Core.Path.{◌≡◌, refl}
use Prim.Native.Nat.{ℕ}
use lib.ListN.{get_or}
use Rattle.params.specs.declared.Params.{Params}
use Rattle.address.specs.Address.{address_block, address_counter, address_place, addressed_word}

pub record AddressCases : Type 0 where
  -- P10: block 127 uses counter 1, word 127; block 128 counter 2, word 0
  pub p10_last : (address_counter 127 ≡ 1) × (address_place 127 ≡ 127)
  pub p10_next : (address_counter 128 ≡ 2) × (address_place 128 ≡ 0)
  pub p10_words : (P : Params) (r sl l : ℕ)
      → (addressed_word P r sl l 127 ≡ get_or (address_block P r sl l 1) 127 0)
      × (addressed_word P r sl l 128 ≡ get_or (address_block P r sl l 2) 0 0)

pub cases : AddressCases
unfolding addressed_word
cases = record { p10_last = (refl, refl); p10_next = (refl, refl); p10_words = λ P r sl l. (refl, refl) }
