-- `lent::digest` meets its contract. The invariant: the bytes that are left lead to the same state as all of them. Assumes nothing.
use Rattle.std.proofs.Common.{◌≡◌, ℕ, List, length, take, sym, ◌∙◌, arith, length-take-le, rules}
use Rattle.blake2b.specs.Blake2b.{max_output}
use Rattle.word.proofs.Library.{to_le_bytes_4, to_le_bytes_8}
use Rattle.lent.specs.Lent.{digest_bytes}
use Rattle.lent.proofs.Feeding.{begun, fed, ended_is}
use Rattle.lent.proofs.digest.Goals as goal

-- a hash has the bytes of a digest
enough : (hash : List ℕ) → length hash ≡ max_output → digest_bytes ≡ length (take digest_bytes hash)
enough hash l = sym (length-take-le digest_bytes hash (omega arith))

pub loop-word-init : goal.loop-word-init
loop-word-init c = begun c.args.words.now _ _ c.initial.ensures.result c.begin.ensures.result c.feed-s.ensures.result (c.to_le_bytes-count.ensures ∙ to_le_bytes_4 digest_bytes)

pub loop-word-preserved : goal.loop-word-preserved
loop-word-preserved c = fed _ c.loop-word.word-index (omega arith) c.loop-word.s _ c.feed-s-in-loop-word.ensures.result (c.to_le_bytes.ensures ∙ to_le_bytes_8 _) c.loop-word.invariant

pub slice_bounds-copy_from_slice-end-2 : goal.slice_bounds-copy_from_slice-end-2
slice_bounds-copy_from_slice-end-2 c = enough c.end-hash.result (search rules)

pub copy_from_slice-requires : goal.copy_from_slice-requires
copy_from_slice-requires c = enough c.end-hash.result (search rules)

pub returns : goal.returns
returns c =
    let l = c.loop-word in
    record { result = ended_is _ l.word-index (omega arith) l.s _ c.copy_from_slice.ensures.after c.end-hash.ensures.result l.invariant }
