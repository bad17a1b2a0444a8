-- What an accepted step reads lies behind the job: in pass 0 it was written in this job, and later everything was. For every random word x,
-- so for all three algorithms. Assumes nothing.
use mathlib.Core.Path.{◌≡◌, refl, sym, ap, subst}
use mathlib.Core.Logic.{◌≢◌}
use mathlib.Core.Bool.{Bool, true, false, cond}
use Prim.Native.Nat.{ℕ, ◌+◌, ◌-◌, ◌*◌, ◌≤◌, ◌<◌}
use native.Mathlib.Omega.{arith}
use native.Mathlib.Nat.{mul-le-mul_right}
use lib.Dec.{eqb}
use borrow.Author.Tests.{eqb-true, eqb-false}
use Rattle.params.specs.Limits.{segment, lane_length}
use Rattle.params.specs.declared.Params.{Params}
use Rattle.params.proofs.Within.{two}
use Rattle.position.specs.Position.{first_block, column, index, previous_column, reference_lane, reference_column}
use Rattle.position.proofs.Referring.{ref_column, ref_own_zero, ref_other_zero}
use Rattle.job.specs.Jobs.{position}
use Rattle.job.specs.declared.Job.{Job}
use Rattle.job.proofs.Jobs.{Bounds, inside_bounds, Ready}
use Rattle.turns.specs.Play.{State, writes}
use Rattle.turns.proofs.Rank.{rank}

-- in later passes every block of a lane is behind the job
pub later : (j : Job) (a c : ℕ) → j.pass ≢ 0 → c < lane_length j.params → c < rank j a
unfolding rank
later j a c n b =
    let o : 1 ≤ j.pass = omega arith in
    omega (arith, mul-le-mul_right (lane_length j.params) o)

-- a lane's next block, in pass 0, is the one that its step writes
pub next_is_written : (P : Params) (σ : State) (b c : ℕ) → σ.job.params ≡ P → c ≡ rank σ.job b → c < lane_length P → index (segment P) b c ≡ writes σ b
unfolding rank
next_is_written P σ b c e q lc =
    let lc' : c < lane_length σ.job.params = subst (λ (Q : Params). c < lane_length Q) (sym e) lc in
    let zero' : σ.job.pass ≡ 0 = go lc' (eqb σ.job.pass 0) refl in
    let m : σ.job.pass * lane_length σ.job.params ≡ 0 * lane_length σ.job.params = ap (λ (x : ℕ). x * lane_length σ.job.params) zero' in
    let at : c ≡ column (segment σ.job.params) σ.job.slice (position σ.job b) = omega arith in
    (λ i. index (segment (sym e i)) b (at i))
  where
    go : c < lane_length σ.job.params → (t : Bool) → eqb σ.job.pass 0 ≡ t → σ.job.pass ≡ 0
    go k true t = eqb-true σ.job.pass 0 t
    go k false t =
        let d : σ.job.pass ≢ 0 = eqb-false σ.job.pass 0 t in
        let o : 1 ≤ σ.job.pass = omega arith in
        absurd (omega (arith, q, mul-le-mul_right (lane_length σ.job.params) o))

module _ (j : Job) (n l : ℕ) (h : Ready j n l) where
  P : Params
  P = j.params

  r : ℕ
  r = j.pass

  sl : ℕ
  sl = j.slice

  k : ℕ
  k = position j l

  z : Bounds j.params
  z = inside_bounds h.inside

  -- the reference block
  pub reference_behind : (x : ℕ)
      → reference_column j.params.lanes (segment j.params) j.pass j.slice l (position j l) x
      < rank j (reference_lane j.params.lanes j.pass j.slice l x)
  unfolding rank P r sl k
  reference_behind x = go (eqb r 0) refl (eqb (reference_lane P.lanes r sl l x) l) refl
    where
      go : (t : Bool) → eqb r 0 ≡ t → (v : Bool) → eqb (reference_lane P.lanes r sl l x) l ≡ v
          → reference_column P.lanes (segment P) r sl l k x < rank j (reference_lane P.lanes r sl l x)
      go false t v w =
          later j (reference_lane P.lanes r sl l x) (reference_column P.lanes (segment P) r sl l k x) (eqb-false r 0 t)
          (ref_column P.lanes (segment P) z.some_lanes (two z) r sl l k x h.inside.within h.lane h.under (h.inside.low l h.lane))
      go true t true w =
          let e : reference_lane P.lanes r sl l x ≡ l = eqb-true (reference_lane P.lanes r sl l x) l w in
          let q : position j (reference_lane P.lanes r sl l x) ≡ position j l = λ i. position j (e i) in
          omega (
            arith,
            ref_own_zero P.lanes (segment P) z.some_lanes (two z) r sl l k x h.inside.within h.lane h.under (h.inside.low l h.lane) e t,
          )
      go true t false w =
          omega (
            arith,
            ref_other_zero P.lanes (segment P) z.some_lanes (two z) r sl l k x h.inside.within h.lane h.under (h.inside.low l h.lane)
                (eqb-false (reference_lane P.lanes r sl l x) l w) t,
          )

  -- the previous block
  pub previous_behind : previous_column (segment j.params) j.slice (position j l) < rank j l
  unfolding rank P r sl k previous_column
  previous_behind = go (eqb (sl * segment P + k) 0) refl
    where
      -- block 0 of a lane is filled by a step in later passes alone
      past : sl * segment P + k ≡ 0 → (v : Bool) → eqb sl 0 ≡ v → r ≢ 0
      past e true v n =
          let f : first_block r sl ≤ k = h.inside.low l h.lane in
          let q : first_block r sl ≡ 2 = λ i. first_block (n i) (eqb-true sl 0 v i) in
          omega arith
      past e false v n =
          let d : sl ≢ 0 = eqb-false sl 0 v in
          let o : 1 ≤ sl = omega arith in
          omega (arith, mul-le-mul_right (segment P) o, two z)

      go : (t : Bool) → eqb (sl * segment P + k) 0 ≡ t → cond t (lane_length P - 1) (sl * segment P + k - 1) < rank j l
      go true t =
          later j l (lane_length P - 1) (past (eqb-true (sl * segment P + k) 0 t) (eqb sl 0) refl) (omega (arith, two z))
      go false t =
          let d : sl * segment P + k ≢ 0 = eqb-false (sl * segment P + k) 0 t in
          omega arith
