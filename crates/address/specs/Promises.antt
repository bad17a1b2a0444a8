-- What the public functions of this crate promise.
use Rattle.std.specs.Prelude.{ℕ, Bool, List, ◌≡◌, get_or}
use Rattle.block.specs.declared.Block.{Block}
use Rattle.params.specs.declared.Params.{Params}
use Rattle.position.specs.declared.LaneNumber.{LaneNumber}
use Rattle.address.specs.Address.{addressed, address_block, address_counter, address_place}

pub record AddressedPromise (P : Params) (r sl : ℕ) (t : Bool) : Type 0 where
  pub result : t ≡ addressed P r sl

pub record AddressBlockPromise (P : Params) (r sl : ℕ) (l : LaneNumber) (counter : ℕ) (b : Block) : Type 0 where
  pub words : b.words ≡ address_block P r sl l.0 counter

pub record AddressCounterPromise (k counter : ℕ) : Type 0 where
  pub result : counter ≡ address_counter k

-- of the words of an address block
pub record AddressWordPromise (addresses : List ℕ) (k x : ℕ) : Type 0 where
  pub result : x ≡ get_or addresses (address_place k) 0
