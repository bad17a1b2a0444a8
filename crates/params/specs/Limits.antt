-- Document 01, "Domain and sizes" and "Answers": the limits of the parameters, a row each, and the sizes.
use Rattle.std.specs.Prelude.{ℕ, ◌*◌, ◌/◌, Bool, false, cond, not, ◌||◌, List, [], ◌∷◌, ◌++◌, ltb, eqb, Option, None, Some}
use Rattle.answer.specs.Answers.{Row, ◌when◌}
use Rattle.params.specs.declared.Params.{Params}

-- algorithm d is 0, i is 1, id is 2; version is 16 or 19
abbrev pub d : ℕ
d = 0

abbrev pub i : ℕ
i = 1

abbrev pub id : ℕ
id = 2

abbrev pub v10 : ℕ
v10 = 16

abbrev pub v13 : ℕ
v13 = 19

-- the most lanes, and the most memory
abbrev pub max_lanes : ℕ
max_lanes = 16

abbrev pub max_memory : ℕ
max_memory = 1048576

-- the slices of a pass, which are the segments of a lane
abbrev pub slices : ℕ
slices = 4

-- the least tag
abbrev pub min_tag : ℕ
min_tag = 4

-- where one number has to say it (the program, the C boundary), a configured length of 0 stands for none
abbrev pub configured_of : ℕ → Option ℕ
configured_of n = cond (eqb n 0) None (Some n)

abbrev pub from_numbers : ℕ → ℕ → ℕ → ℕ → ℕ → ℕ → Params
from_numbers algorithm version memory passes lanes configured =
    record {
      algorithm = algorithm;
      version = version;
      memory = memory;
      passes = passes;
      lanes = lanes;
      configured = configured_of configured;
    }

-- n is one of a list
abbrev pub among : ℕ → List ℕ → Bool
among n [] = false
among n (x ∷ xs) = eqb n x || among n xs

-- 1: algorithm not 0, 1, 2
abbrev pub algorithm_invalid : ℕ → Row
algorithm_invalid algorithm = 1 when not (among algorithm (d ∷ i ∷ id ∷ []))

-- 2: version not 16 or 19, or before the oldest that is taken
abbrev pub version_invalid : ℕ → ℕ → Row
version_invalid oldest version = 2 when not (among version (v10 ∷ v13 ∷ [])) || ltb version oldest

-- 3: no lanes
abbrev pub threads_too_few : ℕ → Row
threads_too_few p = 3 when eqb p 0

-- 4: more than 16 lanes
abbrev pub threads_too_many : ℕ → Row
threads_too_many p = 4 when ltb max_lanes p

-- 5: memory cost under 8p
abbrev pub memory_too_small : ℕ → ℕ → Row
memory_too_small m p = 5 when ltb m (2 * slices * p)

-- 6: memory cost over 1,048,576
abbrev pub memory_too_much : ℕ → Row
memory_too_much m = 6 when ltb max_memory m

-- 7: no passes
abbrev pub time_too_small : ℕ → Row
time_too_small t = 7 when eqb t 0

-- 8: configured tag length under 4
abbrev pub under_min_tag : Option ℕ → Bool
under_min_tag None = false
under_min_tag (Some n) = ltb n min_tag

abbrev pub tag_too_short : Option ℕ → Row
tag_too_short configured = 8 when under_min_tag configured

-- rows 3 to 7
abbrev pub cost_rows : ℕ → ℕ → ℕ → List Row
cost_rows p m t = threads_too_few p ∷ threads_too_many p ∷ memory_too_small m p ∷ memory_too_much m ∷ time_too_small t ∷ []

-- rows 1 to 7, where no version before the oldest is taken
abbrev pub number_rows : ℕ → Params → List Row
number_rows oldest P =
    algorithm_invalid P.algorithm
    ∷ version_invalid oldest P.version
    ∷ cost_rows P.lanes P.memory P.passes

-- rows 1 to 8, where no version before the oldest is taken
abbrev pub rows_from : ℕ → Params → List Row
rows_from oldest P = number_rows oldest P ++ (tag_too_short P.configured ∷ [])

-- document 01's rows 1 to 8: the oldest version is 16
abbrev pub rows : Params → List Row
rows P = rows_from v10 P

-- s = floor(m / 4p), of m and p
unfoldable pub segment_length : ℕ → ℕ → ℕ
segment_length m p = m / (slices * p)

-- segment length s, lane length q = 4s, blocks m' = pq
abbrev pub segment : Params → ℕ
segment P = segment_length P.memory P.lanes

abbrev pub lane_length : Params → ℕ
lane_length P = slices * segment P

abbrev pub blocks : Params → ℕ
blocks P = P.lanes * lane_length P
