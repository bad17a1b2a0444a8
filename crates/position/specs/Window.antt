-- RFC 9106, section 3.4.2, "Mapping J_1 and J_2 to Reference Block Index": the set W, as the list of columns of one lane, in the order in
-- which its blocks were computed. r is the pass, sl the slice, k the block within the segment; s is the segment length.
use Rattle.std.specs.Prelude.{ℕ, ◌+◌, ◌-◌, ◌*◌, ◌/◌, ◌%◌, ◌^◌, Bool, cond, List, [], ◌∷◌, ◌++◌, eqb, length, take, drop}
use Rattle.params.specs.Limits.{slices}
use Rattle.position.specs.Position.{column, previous_column}
use Rattle.word.specs.Table.{table}

-- 3.4: a lane is computed segment by segment, through the slices 0 to 3 and again. The slices of those computed and finished before this one
unfoldable pub computed_slices : ℕ → ℕ → List ℕ
computed_slices r sl = table (λ n. n % slices) (slices * r + sl)

-- the last n entries of a list; all where it has fewer
abbrev pub last : ℕ → List ℕ → List ℕ
last n xs = drop (length xs - n) xs

-- the blocks of the segments of these slices
unfoldable pub blocks_of : ℕ → List ℕ → List ℕ
blocks_of s [] = []
blocks_of s (sl ∷ rest) = table (λ i. column s sl i) s ++ blocks_of s rest

-- "all blocks in the last SL - 1 = 3 segments computed and finished"
abbrev pub finished_blocks : ℕ → ℕ → ℕ → List ℕ
finished_blocks s r sl = blocks_of s (last (slices - 1) (computed_slices r sl))

-- a list without a number
unfoldable pub excluding : ℕ → List ℕ → List ℕ
excluding x [] = []
excluding x (y ∷ ys) = cond (eqb y x) (excluding x ys) (y ∷ excluding x ys)

-- "the blocks computed in the current segment in the current pass"
abbrev pub current_blocks : ℕ → ℕ → ℕ → List ℕ
current_blocks s sl k = table (λ i. column s sl i) k

-- all of a list but the very last
abbrev pub but_last : List ℕ → List ℕ
but_last xs = take (length xs - 1) xs

-- rule 1, W of the current lane: the finished segments "as well as" the current blocks, "excluding B[i][j-1]"
abbrev pub own_w : ℕ → ℕ → ℕ → ℕ → List ℕ
own_w s r sl k = excluding (previous_column s sl k) (finished_blocks s r sl ++ current_blocks s sl k)

-- rule 2, W of another lane: the finished segments. "If B[i][j] is the first block of a segment, then the very last index from W is excluded"
abbrev pub other_w : ℕ → ℕ → ℕ → ℕ → List ℕ
other_w s r sl k = cond (eqb k 0) (but_last (finished_blocks s r sl)) (finished_blocks s r sl)

unfoldable pub W : ℕ → ℕ → ℕ → ℕ → Bool → List ℕ
W s r sl k own = cond own (own_w s r sl k) (other_w s r sl k)

-- zz = |W| - 1 - y, where x = J_1^2 / 2^32 and y = (|W| * x) / 2^32
unfoldable pub zz : ℕ → ℕ → ℕ
zz size j1 = size - 1 - size * (j1 * j1 / 2 ^ 32) / 2 ^ 32
