-- Start writes blocks 0 and 1 of every lane, each whole, and no other word; the memory stays as long. Assumes nothing.
use mathlib.Core.Path.{◌≡◌, refl, sym, ap, ◌∙◌, subst}
use mathlib.Core.Logic.{◌≢◌, ⊎_elim}
use mathlib.Core.List.{List}
use Prim.Native.Nat.{ℕ, zero, suc, ◌+◌, ◌*◌, ◌/◌, ◌≤◌, ◌<◌}
use native.Mathlib.Nat.{eq-or-lt_of_le}
use native.Mathlib.Numerals.{add-one}
use native.Mathlib.Omega.{arith}
use lib.ListN.{length, get_or}
use Rattle.word.proofs.Bytes.{length-words_of}
use Rattle.block.specs.Block.{block_words}
use Rattle.params.specs.Limits.{slices}
use Rattle.position.specs.Position.{index}
use Rattle.position.proofs.Referring.{same_lane, index-lt}
use Rattle.initial.specs.Initial.{first_words}
use Rattle.memory.specs.Start.{start_lane, start_memory}
use Rattle.memory.specs.Memory.{block, put}
use Rattle.memory.proofs.Loop.{loop_last-zero}
use Rattle.memory.proofs.Memory.{length-put, block-put_same, block-put_other, put_outside}

-- a first block is whole
pub first_length : (h : List ℕ) (l b : ℕ) → length (first_words h l b) ≡ block_words
unfolding first_words
first_length h l b = length-words_of block_words _

-- lane after lane
pub start_last : (h : List ℕ) (n s : ℕ) (w : List ℕ) → start_memory h (suc n) s w ≡ start_lane h s n (start_memory h n s w)
unfolding start_memory
start_last h n s w = loop_last-zero n (λ l. start_lane h s l) w

-- the same as a loop counts: no lane yet, and one lane more
pub start_zero : (h : List ℕ) (s : ℕ) (w : List ℕ) → start_memory h 0 s w ≡ w
unfolding start_memory
start_zero h s w = refl

pub start_more : (h : List ℕ) (n s : ℕ) (w : List ℕ) → start_memory h (n + 1) s w ≡ start_lane h s n (start_memory h n s w)
start_more h n s w = ap (λ (m : ℕ). start_memory h m s w) (add-one n) ∙ start_last h n s w

-- memory that holds p lanes of s blocks a segment
module _ (h : List ℕ) (p s : ℕ) (two : 2 ≤ s) where
  abbrev Fits : List ℕ → Type 0
  Fits w = block_words * (p * (slices * s)) ≤ length w

  room : (w : List ℕ) → Fits w → (l c : ℕ) → l < p → c < 2 → block_words * index s l c + block_words ≤ length w
  room w fits l c hl hc = omega (arith, index-lt p s l c hl (omega arith))

  -- ---- one lane

  module _ (w : List ℕ) (fits : Fits w) (l : ℕ) (lane : l < p) where
    w₀ : List ℕ
    w₀ = put (index s l 0) (first_words h l 0) w

    length₀ : length w₀ ≡ length w
    unfolding w₀
    length₀ = length-put (index s l 0) (first_words h l 0) w (room w fits l 0 lane (omega arith)) (first_length h l 0)

    room₁ : block_words * index s l 1 + block_words ≤ length w₀
    room₁ = omega (arith, length₀, room w fits l 1 lane (omega arith))

    lane_length_lem : length (start_lane h s l w) ≡ length w
    unfolding start_lane w₀
    lane_length_lem = length-put (index s l 1) (first_words h l 1) w₀ room₁ (first_length h l 1) ∙ length₀

    lane_block : (c : ℕ) → c < 2 → block (index s l c) (start_lane h s l w) ≡ first_words h l c
    unfolding start_lane w₀
    lane_block c k =
        ⊎_elim
        (λ (e : c ≡ 1).
        subst (λ (d : ℕ). block (index s l d) (start_lane h s l w) ≡ first_words h l d) (sym e)
        (block-put_same (index s l 1) (first_words h l 1) w₀ room₁ (first_length h l 1)))
        (λ (b : c < 1).
        let e : c ≡ 0 = omega arith in
        subst (λ (d : ℕ). block (index s l d) (start_lane h s l w) ≡ first_words h l d) (sym e)
        (block-put_other (index s l 1) (index s l 0) (first_words h l 1) w₀ room₁ (first_length h l 1) (λ q. omega (arith, q))
        ∙ block-put_same (index s l 0) (first_words h l 0) w (room w fits l 0 lane (omega arith)) (first_length h l 0)))
        (eq-or-lt_of_le (omega arith))

    lane_other : (b : ℕ) → b ≢ index s l 0 → b ≢ index s l 1 → block b (start_lane h s l w) ≡ block b w
    unfolding start_lane w₀
    lane_other b n₀ n₁ =
        block-put_other (index s l 1) b (first_words h l 1) w₀ room₁ (first_length h l 1) n₁
        ∙ block-put_other (index s l 0) b (first_words h l 0) w (room w fits l 0 lane (omega arith)) (first_length h l 0) n₀

    lane_outside : (i : ℕ) → i / block_words ≢ index s l 0 → i / block_words ≢ index s l 1 → get_or (start_lane h s l w) i 0 ≡ get_or w i 0
    unfolding start_lane w₀
    lane_outside i n₀ n₁ =
        put_outside (index s l 1) (first_words h l 1) w₀ room₁ (first_length h l 1) i n₁
        ∙ put_outside (index s l 0) (first_words h l 0) w (room w fits l 0 lane (omega arith)) (first_length h l 0) i n₀

  -- ---- the first n lanes

  module _ (w : List ℕ) (fits : Fits w) where
    pub lanes_length : (n : ℕ) → n ≤ p → length (start_memory h n s w) ≡ length w
    unfolding start_memory
    lanes_length zero k = refl
    lanes_length (suc n) k =
        let ih : length (start_memory h n s w) ≡ length w = lanes_length n (omega arith) in
        ap length (start_last h n s w) ∙ lane_length_lem (start_memory h n s w) (omega arith) n (omega arith) ∙ ih

    pub lanes_block : (n : ℕ) → n ≤ p → (l c : ℕ) → l < n → c < 2 → block (index s l c) (start_memory h n s w) ≡ first_words h l c
    lanes_block zero k l c hl hc = absurd (omega arith)
    lanes_block (suc n) k l c hl hc =
        let long : length (start_memory h n s w) ≡ length w = lanes_length n (omega arith) in
        let apart : (b : ℕ) → b < 2 → l < n → index s l c ≢ index s n b =
        λ b hb g e. omega (arith, g, same_lane s l n c b (omega arith) (omega arith) e) in
        ap (block (index s l c)) (start_last h n s w)
        ∙ ⊎_elim
        (λ (e : l ≡ n).
        subst (λ (m : ℕ). block (index s m c) (start_lane h s n (start_memory h n s w)) ≡ first_words h m c) (sym e)
        (lane_block (start_memory h n s w) (omega arith) n (omega arith) c hc))
        (λ (g : l < n).
        lane_other (start_memory h n s w) (omega arith) n (omega arith) (index s l c) (apart 0 (omega arith) g) (apart 1 (omega arith) g)
        ∙ lanes_block n (omega arith) l c g hc)
        (eq-or-lt_of_le (omega arith))

    pub lanes_outside : (n : ℕ) → n ≤ p → (i : ℕ) → ((l c : ℕ) → l < n → c < 2 → i / block_words ≢ index s l c)
        → get_or (start_memory h n s w) i 0 ≡ get_or w i 0
    unfolding start_memory
    lanes_outside zero k i f = refl
    lanes_outside (suc n) k i f =
        let long : length (start_memory h n s w) ≡ length w = lanes_length n (omega arith) in
        ap (λ (v : List ℕ). get_or v i 0) (start_last h n s w)
        ∙ lane_outside (start_memory h n s w) (omega arith) n (omega arith) i (f n 0 (omega arith) (omega arith)) (f n 1 (omega arith) (omega arith))
        ∙ lanes_outside n (omega arith) i (λ l c hl hc. f l c (omega arith) hc)

    -- ---- all of them

    pub start_length : length (start_memory h p s w) ≡ length w
    start_length = lanes_length p (omega arith)

    pub start_block : (l c : ℕ) → l < p → c < 2 → block (index s l c) (start_memory h p s w) ≡ first_words h l c
    start_block = lanes_block p (omega arith)

    pub start_outside : (i : ℕ) → ((l c : ℕ) → l < p → c < 2 → i / block_words ≢ index s l c) → get_or (start_memory h p s w) i 0 ≡ get_or w i 0
    start_outside = lanes_outside p (omega arith)
