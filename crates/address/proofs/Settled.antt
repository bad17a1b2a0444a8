-- Two results that meet a promise are equal. Assumes nothing.
use Prim.Native.Nat.{ℕ}
use mathlib.Core.Bool.{Bool}
use mathlib.Core.List.{List}
use mathlib.Core.Path.{◌≡◌, sym, ap, ◌∙◌}
use Rattle.block.specs.declared.Block.{Block}
use Rattle.params.specs.declared.Params.{Params}
use Rattle.position.specs.declared.LaneNumber.{LaneNumber}
use Rattle.address.specs.Promises.{AddressedPromise, AddressBlockPromise, AddressCounterPromise, AddressWordPromise}

pub addressed_settled : {P : Params} {r sl : ℕ} {t t' : Bool} → AddressedPromise P r sl t → AddressedPromise P r sl t' → t ≡ t'
addressed_settled p p' = p.result ∙ sym p'.result

pub address_block_settled : {P : Params} {r sl : ℕ} {l : LaneNumber} {counter : ℕ} {b b' : Block}
    → AddressBlockPromise P r sl l counter b → AddressBlockPromise P r sl l counter b' → b ≡ b'
address_block_settled p p' = ap (λ (words : List ℕ). record { words = words }) (p.words ∙ sym p'.words)

pub address_counter_settled : {k counter counter' : ℕ}
    → AddressCounterPromise k counter → AddressCounterPromise k counter' → counter ≡ counter'
address_counter_settled p p' = p.result ∙ sym p'.result

pub address_word_settled : {addresses : List ℕ} {k x x' : ℕ} → AddressWordPromise addresses k x → AddressWordPromise addresses k x' → x ≡ x'
address_word_settled p p' = p.result ∙ sym p'.result
