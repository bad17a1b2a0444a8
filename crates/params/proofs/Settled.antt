-- Two results that meet a promise are equal. Assumes nothing.
use Prim.Native.Nat.{ℕ}
use mathlib.Core.Path.{◌≡◌, sym, ◌∙◌}
use Rattle.std.specs.Prelude.{⊤, Result}
use Rattle.answer.specs.declared.Refusal.{Refusal}
use Rattle.answer.proofs.Numbers.{injective}
use Rattle.params.specs.Promises.{FromNumbersPromise, CostsPromise, CheckNumbersPromise, CheckFromPromise, CheckPromise, SegmentOfPromise, SegmentPromise, LanePromise, BlocksPromise}
use Rattle.params.specs.declared.Params.{Params}

pub from_numbers_settled : {a v m t p c : ℕ} {r r' : Params} → FromNumbersPromise a v m t p c r → FromNumbersPromise a v m t p c r' → r ≡ r'
from_numbers_settled p p' = p.result ∙ sym p'.result

pub costs_settled : {p m t : ℕ} {r r' : Result ⊤ Refusal} → CostsPromise p m t r → CostsPromise p m t r' → r ≡ r'
costs_settled p p' = injective (p.answer ∙ sym p'.answer)

pub check_numbers_settled : {P : Params} {oldest : ℕ} {r r' : Result ⊤ Refusal} → CheckNumbersPromise P oldest r → CheckNumbersPromise P oldest r' → r ≡ r'
check_numbers_settled p p' = injective (p.answer ∙ sym p'.answer)

pub check_from_settled : {P : Params} {oldest : ℕ} {r r' : Result ⊤ Refusal} → CheckFromPromise P oldest r → CheckFromPromise P oldest r' → r ≡ r'
check_from_settled p p' = injective (p.answer ∙ sym p'.answer)

pub check_settled : {P : Params} {r r' : Result ⊤ Refusal} → CheckPromise P r → CheckPromise P r' → r ≡ r'
check_settled p p' = injective (p.answer ∙ sym p'.answer)

pub segment_of_settled : {m p r r' : ℕ} → SegmentOfPromise m p r → SegmentOfPromise m p r' → r ≡ r'
segment_of_settled p p' = p.result ∙ sym p'.result

pub segment_settled : {P : Params} {r r' : ℕ} → SegmentPromise P r → SegmentPromise P r' → r ≡ r'
segment_settled p p' = p.result ∙ sym p'.result

pub lane_settled : {P : Params} {r r' : ℕ} → LanePromise P r → LanePromise P r' → r ≡ r'
lane_settled p p' = p.result ∙ sym p'.result

pub blocks_settled : {P : Params} {r r' : ℕ} → BlocksPromise P r → BlocksPromise P r' → r ≡ r'
blocks_settled p p' = p.result ∙ sym p'.result
