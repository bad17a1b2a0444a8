-- Document 01, "The job": when a job is consistent, how it moves, and the rows of step and finish.
use Rattle.std.specs.Prelude.{ℕ, zero, suc, ◌+◌, ◌-◌, Bool, true, false, cond, not, ◌&&◌, ◌||◌, List, [], ◌∷◌, ◌++◌, leb, ltb, eqb, length, get_or, set, replicate, None}
use Rattle.answer.specs.Answers.{Row, ◌when◌, first, length_rows}
use Rattle.block.specs.Block.{block_words}
use Rattle.params.specs.Limits.{rows, slices, max_lanes, segment}
use Rattle.params.specs.declared.Params.{Params}
use Rattle.position.specs.Position.{first_block}
use Rattle.checks.specs.Rows.{output_rows, memory_too_little}
use Rattle.job.specs.declared.Job.{Job}

-- f holds of every number under n; of some number under n
abbrev pub all : ℕ → (ℕ → Bool) → Bool
all zero f = true
all (suc n) f = all n f && f n

abbrev pub any : ℕ → (ℕ → Bool) → Bool
any zero f = false
any (suc n) f = any n f || f n

-- the block of lane l's segment that comes next
abbrev pub position : Job → ℕ → ℕ
position j l = get_or j.positions l 0

-- its tag length is one they allow
abbrev pub tag_allowed : Job → Bool
tag_allowed j = eqb (first (output_rows j.params.configured j.tag)) 0

-- one position a lane; lanes not in use stand at 0
abbrev pub laid_out : Job → Bool
laid_out j = eqb (length j.positions) max_lanes && all max_lanes (λ l. ltb l j.params.lanes || eqb (position j l) 0)

-- filling is complete: pass = t
abbrev pub complete : Job → Bool
complete j = eqb j.pass j.params.passes

-- slice 0, all positions 0 (complete)
abbrev pub stands_complete : Job → Bool
stands_complete j = complete j && eqb j.slice 0 && all j.params.lanes (λ l. eqb (position j l) 0)

-- some used lane is under s
abbrev pub unfinished : Job → Bool
unfinished j = any j.params.lanes (λ l. ltb (position j l) (segment j.params))

-- pass under t, slice 0 to 3, each used lane between the segment's first block and s, and at least one under s
abbrev pub stands_inside : Job → Bool
stands_inside j =
    ltb j.pass j.params.passes
    && ltb j.slice slices
    && all j.params.lanes (λ l. leb (first_block j.pass j.slice) (position j l) && leb (position j l) (segment j.params))
    && unfinished j

-- its numbers pass checks 1 to 8, its tag length is one they allow, lanes not in use stand at 0, and one of the two holds
unfoldable pub consistent : Job → Bool
consistent j = eqb (first (rows j.params)) 0 && tag_allowed j && laid_out j && (stands_complete j || stands_inside j)

-- lane l's position, one further
unfoldable pub moved : Job → ℕ → Job
moved j l =
    record {
      params = j.params;
      tag = j.tag;
      pass = j.pass;
      slice = j.slice;
      positions = set j.positions l (position j l + 1);
    }

-- the next slice or pass, all lanes at 0
unfoldable pub next_slice : Job → Job
next_slice j =
    record {
      params = j.params;
      tag = j.tag;
      pass = cond (ltb (j.slice + 1) slices) j.pass (j.pass + 1);
      slice = cond (ltb (j.slice + 1) slices) (j.slice + 1) 0;
      positions = replicate max_lanes 0;
    }

-- when the last lane reaches s the job moves at once to the next slice or pass
unfoldable pub onward : Job → Job
onward j = cond (unfinished j) j (next_slice j)

-- the job that an accepted start hands back: each lane at block 2; with s = 2 it is at slice 1
unfoldable pub start_job : Params → ℕ → Job
start_job P tag =
    onward
    (record {
      params = P;
      tag = tag;
      pass = 0;
      slice = 0;
      positions = replicate P.lanes (first_block 0 0) ++ replicate (max_lanes - P.lanes) 0;
    })

-- a refused start hands back a job of zeros
unfoldable pub zero_job : Job
zero_job =
    record {
      params = record { algorithm = 0; version = 0; memory = 0; passes = 0; lanes = 0; configured = None };
      tag = 0;
      pass = 0;
      slice = 0;
      positions = replicate max_lanes 0;
    }

-- 17: job not consistent
abbrev pub job_invalid : Job → Row
job_invalid j = 17 when not (consistent j)

-- 18: step asked when filling is complete
abbrev pub filling_complete : Job → Row
filling_complete j = 18 when complete j

-- 19: lane number p or more
abbrev pub no_such_lane : Job → ℕ → Row
no_such_lane j l = 19 when leb j.params.lanes l

-- 20: that lane has finished this slice
abbrev pub lane_finished : Job → ℕ → Row
lane_finished j l = 20 when eqb (position j l) (segment j.params)

-- 21: finish asked before filling is complete
abbrev pub not_complete : Job → Row
not_complete j = 21 when not (complete j)

-- step checks 17, 16, 18, 19, 20
abbrev pub step_rows : Job → ℕ → ℕ → List Row
step_rows j words l = job_invalid j ∷ memory_too_little block_words j.params words ∷ filling_complete j ∷ no_such_lane j l ∷ lane_finished j l ∷ []

-- finish checks 17, 16, 21, 11, 12, the last two by the tag length that the job was started with
abbrev pub finish_rows : Job → ℕ → ℕ → List Row
finish_rows j words out =
    job_invalid j ∷ memory_too_little block_words j.params words ∷ not_complete j ∷ length_rows j.tag j.tag out
