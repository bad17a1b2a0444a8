-- Words fed one by one to a state end in the digest of them all. Assumes nothing.
use Rattle.std.proofs.Common.{◌≡◌, ℕ, ◌+◌, ◌<◌, ◌≤◌, List, ◌∷◌, ◌++◌, length, get_or, take, drop, sym, refl, ap, ◌∙◌, add-one, drop_of_length-le, drop-cons}
use Rattle.word.specs.Word.{to_le, bytes}
use Rattle.blake2b.specs.Blake2b.{blake2b, initial}
use Rattle.blake2b.specs.Stream.{fresh, feed_all, sealed}
use Rattle.blake2b.specs.declared.Engine.{Engine}
use Rattle.blake2b.proofs.Hashing.{ended, front}
use Rattle.blake2b.proofs.Streaming.{cut}
use Rattle.blake2b_long.specs.Long.{long, pieces, halves, joined}
use Rattle.lent.specs.Lent.{digest, digest_bytes}

-- the engine that all bytes lead to
abbrev pub whole : List ℕ → Engine
whole w = feed_all (fresh (initial digest_bytes)) (to_le 4 digest_bytes ++ bytes w)

pub begun : (w : List ℕ) {h : List ℕ} {s : Engine} (b : Engine) (count : List ℕ) → h ≡ initial digest_bytes → b ≡ fresh h → s ≡ feed_all b count → count ≡ to_le 4 digest_bytes
    → feed_all s (bytes w) ≡ whole w
begun w b count o p q e =
    let start = fresh (initial digest_bytes) in
    ap (λ (s : Engine). feed_all s (bytes w)) (q ∙ ap (λ (b : Engine). feed_all b count) (p ∙ ap fresh o) ∙ ap (feed_all start) e)
    ∙ sym (cut start (to_le 4 digest_bytes) (bytes w))

pub fed : (w : List ℕ) (i : ℕ) → i < length w → (s : Engine) (piece : List ℕ) {t u : Engine} → t ≡ feed_all s piece → piece ≡ to_le 8 (get_or w i 0)
    → feed_all s (bytes (drop i w)) ≡ u → feed_all t (bytes (drop (i + 1) w)) ≡ u
fed w i h s piece e e' e'' =
    ap (λ (t : Engine). feed_all t (bytes (drop (i + 1) w))) (e ∙ ap (feed_all s) e')
    ∙ sym (cut s (to_le 8 (get_or w i 0)) (bytes (drop (i + 1) w)))
    ∙ ap (λ (l : List ℕ). feed_all s (bytes l)) (ap (λ (k : ℕ). get_or w i 0 ∷ drop k w) (add-one i) ∙ sym (drop-cons w i 0 h))
    ∙ e''

-- a digest of 32 bytes is one hash of their count and the bytes
one_piece : (w : List ℕ) → digest w ≡ blake2b digest_bytes (to_le 4 digest_bytes ++ bytes w)
unfolding digest long pieces halves joined
one_piece w = refl

pub ended_is : (w : List ℕ) (i : ℕ) → length w ≤ i → (s : Engine) (h : List ℕ) {r : List ℕ} → r ≡ take digest_bytes h → h ≡ sealed s
    → feed_all s (bytes (drop i w)) ≡ whole w → r ≡ digest w
unfolding feed_all
ended_is w i l s h e e' e'' =
    e
    ∙ front digest_bytes (to_le 4 digest_bytes ++ bytes w)
    (ended digest_bytes (to_le 4 digest_bytes ++ bytes w) refl refl
    (ap (λ (l : List ℕ). feed_all s (bytes l)) (sym (drop_of_length-le w l)) ∙ e'') e')
    ∙ sym (one_piece w)
