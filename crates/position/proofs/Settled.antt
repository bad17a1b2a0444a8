-- Two results that meet a promise are equal. Assumes nothing.
use Prim.Native.Nat.{ℕ}
use mathlib.Core.Path.{◌≡◌, sym, ap, ◌∙◌}
use Rattle.std.specs.Prelude.{Result, Ok, Err}
use Rattle.answer.specs.declared.Refusal.{Refusal}
use Rattle.answer.proofs.Numbers.{refused, refusals_differ}
use Rattle.params.specs.declared.Params.{Params}
use Rattle.position.specs.Promises.{FirstBlockPromise, InMemoryPromise, ColumnPromise, PreviousColumnPromise, IndexPromise, NoReferencePromise, ReferencePromise}
use Rattle.position.specs.declared.BlockNumber.{BlockNumber}
use Rattle.position.specs.declared.LaneNumber.{LaneNumber}
use Rattle.position.specs.declared.Reference.{Reference}

pub first_block_settled : {r sl b b' : ℕ} → FirstBlockPromise r sl b → FirstBlockPromise r sl b' → b ≡ b'
first_block_settled p p' = p.result ∙ sym p'.result

pub in_memory_settled : {q : ℕ} {l : LaneNumber} {c : BlockNumber} {n n' : ℕ}
    → InMemoryPromise q l c n → InMemoryPromise q l c n' → n ≡ n'
in_memory_settled p p' = p.result ∙ sym p'.result

-- a block's number is one number
same_block : {c c' : BlockNumber} → c.0 ≡ c'.0 → c ≡ c'
same_block e = ap (λ (n : ℕ). record { 0 = n }) e

pub column_settled : {P : Params} {sl k : ℕ} {c c' : BlockNumber} → ColumnPromise P sl k c → ColumnPromise P sl k c' → c ≡ c'
column_settled p p' = same_block (p.result ∙ sym p'.result)

pub previous_column_settled : {P : Params} {sl k : ℕ} {c c' : BlockNumber}
    → PreviousColumnPromise P sl k c → PreviousColumnPromise P sl k c' → c ≡ c'
previous_column_settled p p' = same_block (p.result ∙ sym p'.result)

pub index_settled : {P : Params} {l : LaneNumber} {c : BlockNumber} {n n' : ℕ}
    → IndexPromise P l c n → IndexPromise P l c n' → n ≡ n'
index_settled p p' = p.result ∙ sym p'.result

pub no_reference_settled : {o o' : Reference} → NoReferencePromise o → NoReferencePromise o' → o ≡ o'
no_reference_settled p p' = p.result ∙ sym p'.result

-- a lane and a column make a reference
same : {o o' : Reference} → o.lane.0 ≡ o'.lane.0 → o.block.0 ≡ o'.block.0 → o ≡ o'
same {o} {o'} b c =
    ap (λ (n : ℕ). record { lane = record { 0 = n }; block = o.block }) b
    ∙ ap (λ (n : ℕ). record { lane = o'.lane; block = record { 0 = n } }) c

pub reference_settled : {p m t r sl l k x : ℕ} {o o' : Result Reference Refusal}
    → ReferencePromise p m t r sl l k x o → ReferencePromise p m t r sl l k x o' → o ≡ o'
reference_settled {o = Ok a} {o' = Ok b} q q' = ap Ok (same (q.lane ∙ sym q'.lane) (q.block ∙ sym q'.block))
reference_settled {o = Ok a} {o' = Err s} q q' = absurd (refused s (q'.answer ∙ sym q.answer))
reference_settled {o = Err r} {o' = Ok b} q q' = absurd (refused r (q.answer ∙ sym q'.answer))
reference_settled {o = Err r} {o' = Err s} q q' = ap Err (refusals_differ (q.answer ∙ sym q'.answer))
