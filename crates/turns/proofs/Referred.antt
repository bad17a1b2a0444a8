-- Every block that an accepted step refers to is among those that start and the accepted steps before it wrote, and is neither the block
-- itself, nor the previous one, nor in another lane's segment of the current slice. All three algorithms, every segment. Assumes nothing.
use mathlib.Core.Path.{◌≡◌, refl, sym, ap, ◌∙◌, subst}
use mathlib.Core.Logic.{◌≢◌}
use mathlib.Core.Bool.{Bool, true, false, cond, ◌&&◌, ◌||◌, false≢true}
use mathlib.Core.List.{List, [], ◌∷◌, ◌++◌}
use Prim.Native.Nat.{ℕ, zero, suc, ◌+◌, ◌*◌, ◌<◌}
use native.Mathlib.Omega.{arith}
use lib.Dec.{eqb, ltb}
use lib.ListN.{length}
use borrow.Author.Tests.{eqb-true, eqb-false, eq-eqb, ltb-true, ltb-false}
use Rattle.params.specs.Limits.{among, segment, lane_length}
use Rattle.params.specs.declared.Params.{Params}
use Rattle.params.proofs.Within.{two}
use Rattle.position.specs.Position.{column, index, previous_column, reference_lane, reference_column}
use Rattle.position.proofs.Referring.{ref_lane, ref_column, ref_not_current, ref_not_previous, ref_not_beside, same_lane}
use Rattle.filling.specs.Filling.{previous_index, word_for}
use Rattle.job.specs.Jobs.{position}
use Rattle.job.specs.declared.Job.{Job}
use Rattle.position.proofs.Columns.{previous_lt}
use Rattle.job.proofs.Jobs.{Bounds, inside_bounds}
use Rattle.job.proofs.Tests.{or_left, or_right, or_second}
use Rattle.turns.specs.Play.{State, accepts, step, run, writes, refers, start_writes, step_writes, written}
use Rattle.turns.proofs.Behind.{next_is_written, reference_behind}
use Rattle.turns.proofs.Rank.{rank, rank_step}
use Rattle.turns.proofs.Started.{answered, before, started_params, started_rank}
use Rattle.turns.proofs.Steps.{ReadyFor, accepted_ready, step_params, run_params}

-- ---- one of a list

among_left : (b : ℕ) (xs ys : List ℕ) → among b xs ≡ true → among b (xs ++ ys) ≡ true
among_left b [] ys h = absurd (false≢true h)
among_left b (x ∷ xs) ys h = go (λ k. among_left b xs ys k) (eqb b x) refl
  where
    go : (among b xs ≡ true → among b (xs ++ ys) ≡ true) → (t : Bool) → eqb b x ≡ t → eqb b x || among b (xs ++ ys) ≡ true
    go i true t = or_left (among b (xs ++ ys)) t
    go i false t = or_right (eqb b x) (i (or_second (among b xs) t h))

among_right : (b : ℕ) (xs ys : List ℕ) → among b ys ≡ true → among b (xs ++ ys) ≡ true
among_right b [] ys h = h
among_right b (x ∷ xs) ys h = or_right (eqb b x) (among_right b xs ys h)

append_one : (xs : List ℕ) (y : ℕ) (ys : List ℕ) → (xs ++ (y ∷ [])) ++ ys ≡ xs ++ (y ∷ ys)
append_one [] y ys = refl
append_one (x ∷ xs) y ys = ap (λ (z : List ℕ). x ∷ z) (append_one xs y ys)

-- start wrote the first two blocks of each lane in use
start_among : (n s a c : ℕ) → a < n → c < 2 → among (index s a c) (start_writes n s) ≡ true
start_among zero s a c h k = absurd (omega arith)
start_among (suc n) s a c h k = go (λ q. start_among n s a c q k) (eqb a n) refl (eqb c 0) refl
  where
    go : (a < n → among (index s a c) (start_writes n s) ≡ true) → (t : Bool) → eqb a n ≡ t → (u : Bool) → eqb c 0 ≡ u
        → among (index s a c) (start_writes (suc n) s) ≡ true
    go i false t u v = or_right (eqb (index s a c) (index s n 0)) (or_right (eqb (index s a c) (index s n 1)) (i (omega (arith, eqb-false a n t))))
    go i true t true v =
        or_left (eqb (index s a c) (index s n 1) || among (index s a c) (start_writes n s))
        (eq-eqb (index s a c) (index s n 0) (λ m. index s (eqb-true a n t m) (eqb-true c 0 v m)))
    go i true t false v =
        let one : c ≡ 1 = omega (arith, eqb-false c 0 v) in
        or_right (eqb (index s a c) (index s n 0))
        (or_left (among (index s a c) (start_writes n s)) (eq-eqb (index s a c) (index s n 1) (λ m. index s (eqb-true a n t m) (one m))))

-- ---- what lies behind the job was written

-- every block behind the job is in xs
abbrev AllIn : Params → List ℕ → Job → Type 0
AllIn P xs j = (a c : ℕ) → a < P.lanes → c < lane_length P → c < rank j a → among (index (segment P) a c) xs ≡ true

module _ (P : Params) (xs : List ℕ) (σ : State) (e : σ.job.params ≡ P) (h : AllIn P xs σ.job) (b : ℕ) where
  grown : (a : ℕ) → a < P.lanes → rank (step σ b).job a ≡ cond (accepts σ b && eqb b a) 1 0 + rank σ.job a
  grown a la = rank_step σ b a (subst (λ (Q : Params). a < Q.lanes) (sym e) la)

  -- a refused step leaves nothing more behind it
  refused_in : accepts σ b ≡ false → AllIn P xs (step σ b).job
  refused_in q a c la lc u =
      let n : rank (step σ b).job a ≡ 0 + rank σ.job a = grown a la ∙ ap (λ (t : Bool). cond (t && eqb b a) 1 0 + rank σ.job a) q in
      h a c la lc (omega (arith, n))

  -- an accepted one leaves the block that it writes
  accepted_in : accepts σ b ≡ true → AllIn P (xs ++ (writes σ b ∷ [])) (step σ b).job
  accepted_in q a c la lc u = pick (eqb b a) refl (ltb c (rank σ.job a)) refl
    where
      more : (t : Bool) → eqb b a ≡ t → rank (step σ b).job a ≡ cond t 1 0 + rank σ.job a
      more t p =
          grown a la
          ∙ ap (λ (x : Bool). cond (x && eqb b a) 1 0 + rank σ.job a) q
          ∙ ap (λ (x : Bool). cond x 1 0 + rank σ.job a) p

      pick : (t : Bool) → eqb b a ≡ t → (s : Bool) → ltb c (rank σ.job a) ≡ s → among (index (segment P) a c) (xs ++ (writes σ b ∷ [])) ≡ true
      pick t p true s = among_left (index (segment P) a c) xs (writes σ b ∷ []) (h a c la lc (ltb-true c (rank σ.job a) s))
      pick false p false s = absurd (omega (arith, more false p, ltb-false c (rank σ.job a) s))
      pick true p false s =
          let at : c ≡ rank σ.job a = omega (arith, more true p, ltb-false c (rank σ.job a) s) in
          let is : index (segment P) a c ≡ writes σ b = next_is_written P σ a c e at lc ∙ ap (λ (x : ℕ). writes σ x) (sym (eqb-true b a p)) in
          among_right (index (segment P) a c) xs (writes σ b ∷ []) (or_left false (eq-eqb (index (segment P) a c) (writes σ b) is))

-- what lies behind the job at first is in xs: then what lies behind it later is in xs or was written on the way
run_in : (P : Params) (xs : List ℕ) (ls : List ℕ) (σ : State) → σ.job.params ≡ P → AllIn P xs σ.job → AllIn P (xs ++ step_writes σ ls) (run σ ls).job
run_in P xs [] σ e h a c la lc u = among_left (index (segment P) a c) xs [] (h a c la lc u)
run_in P xs (b ∷ ls) σ e h a c la lc u =
    go (λ ys k. run_in P ys ls (step σ b) (step_params σ b ∙ e) k a c la lc u) (accepts σ b) refl
  where
    go : ((ys : List ℕ) → AllIn P ys (step σ b).job → among (index (segment P) a c) (ys ++ step_writes (step σ b) ls) ≡ true)
        → (t : Bool) → accepts σ b ≡ t
        → among (index (segment P) a c) (xs ++ cond t (writes σ b ∷ step_writes (step σ b) ls) (step_writes (step σ b) ls)) ≡ true
    go i false q = i xs (refused_in P xs σ e h b q)
    go i true q =
        subst (λ (ys : List ℕ). among (index (segment P) a c) ys ≡ true) (append_one xs (writes σ b) (step_writes (step σ b) ls))
        (i (xs ++ (writes σ b ∷ [])) (accepted_in P xs σ e h b q))

-- ---- the reference of an accepted step, on any state

module _ (τ : State) (l : ℕ) (h : ReadyFor τ l) where
  P : Params
  P = τ.job.params

  r : ℕ
  r = τ.job.pass

  sl : ℕ
  sl = τ.job.slice

  k : ℕ
  k = position τ.job l

  z : Bounds τ.job.params
  z = inside_bounds h.inside

  x : ℕ
  x = word_for τ.job.params τ.job.pass τ.job.slice l (position τ.job l) τ.memory

  of_written : (xs : List ℕ) → AllIn τ.job.params xs τ.job → among (refers τ l) xs ≡ true
  unfolding P r sl k x
  of_written xs all =
      all (reference_lane P.lanes r sl l x) (reference_column P.lanes (segment P) r sl l k x)
      (ref_lane P.lanes (segment P) z.some_lanes (two z) r sl l k x h.inside.within h.lane h.under (h.inside.low l h.lane))
      (ref_column P.lanes (segment P) z.some_lanes (two z) r sl l k x h.inside.within h.lane h.under (h.inside.low l h.lane))
      (reference_behind τ.job (length τ.memory) l h x)

  of_current : refers τ l ≢ writes τ l
  unfolding P r sl k x
  of_current =
      ref_not_current P.lanes (segment P) z.some_lanes (two z) r sl l k x h.inside.within h.lane h.under (h.inside.low l h.lane)

  of_beside : (b i : ℕ) → b ≢ l → i < segment τ.job.params → refers τ l ≢ index (segment τ.job.params) b (column (segment τ.job.params) τ.job.slice i)
  unfolding P r sl k x
  of_beside b i n u =
      ref_not_beside P.lanes (segment P) z.some_lanes (two z) r sl l k x h.inside.within h.lane h.under (h.inside.low l h.lane) b i n u

  of_previous : refers τ l ≢ previous_index τ.job.params τ.job.slice l (position τ.job l)
  unfolding P r sl k x
  of_previous q =
      let c : reference_column P.lanes (segment P) r sl l k x < lane_length P =
      ref_column P.lanes (segment P) z.some_lanes (two z) r sl l k x h.inside.within h.lane h.under (h.inside.low l h.lane) in
      let own : reference_lane P.lanes r sl l x ≡ l =
      same_lane (segment P) (reference_lane P.lanes r sl l x) l (reference_column P.lanes (segment P) r sl l k x) (previous_column (segment P) sl k)
      c (previous_lt (segment P) sl k h.inside.within h.under) q in
      ref_not_previous P.lanes (segment P) z.some_lanes (two z) r sl l k x h.inside.within h.lane h.under (h.inside.low l h.lane) own
      (omega (arith, q, ap (λ (a : ℕ). a * lane_length P) own))

-- ---- from an accepted start

module _ (P : Params) (tag : ℕ) (password salt secret ad w : List ℕ) (ok : answered P tag password salt secret ad w ≡ 0) where
  abbrev σ : State
  σ = before P tag password salt secret ad w

  params : σ.job.params ≡ P
  params = started_params P tag password salt secret ad w ok

  -- the block that the next accepted step refers to
  pub record Referred (ls : List ℕ) (l : ℕ) : Type 0 where
    pub is_written : among (refers (run σ ls) l) (written σ ls) ≡ true
    pub not_current : refers (run σ ls) l ≢ writes (run σ ls) l
    pub not_previous : refers (run σ ls) l ≢ previous_index P (run σ ls).job.slice l (position (run σ ls).job l)
    pub not_beside : (b i : ℕ) → b ≢ l → i < segment P → refers (run σ ls) l ≢ index (segment P) b (column (segment P) (run σ ls).job.slice i)

  at_first : AllIn P (start_writes P.lanes (segment P)) σ.job
  at_first a c la lc u = start_among P.lanes (segment P) a c la (omega (arith, started_rank P tag password salt secret ad w ok a la))

  all_written : (ls : List ℕ) → AllIn P (written σ ls) (run σ ls).job
  all_written ls =
      subst (λ (Q : Params). AllIn P (start_writes Q.lanes (segment Q) ++ step_writes σ ls) (run σ ls).job) (sym params)
      (run_in P (start_writes P.lanes (segment P)) ls σ params at_first)

  pub referred : (ls : List ℕ) (l : ℕ) → accepts (run σ ls) l ≡ true → Referred ls l
  referred ls l q =
      let e : (run σ ls).job.params ≡ P = run_params σ ls ∙ params in
      let h : ReadyFor (run σ ls) l = accepted_ready (run σ ls) l q in
      record {
        is_written =
            of_written (run σ ls) l h (written σ ls)
            (subst (λ (Q : Params). AllIn Q (written σ ls) (run σ ls).job) (sym e) (all_written ls));
        not_current = of_current (run σ ls) l h;
        not_previous =
            subst (λ (Q : Params). refers (run σ ls) l ≢ previous_index Q (run σ ls).job.slice l (position (run σ ls).job l)) e (of_previous (run σ ls) l h);
        not_beside =
            subst
            (λ (Q : Params).
            (b i : ℕ) → b ≢ l → i < segment Q → refers (run σ ls) l ≢ index (segment Q) b (column (segment Q) (run σ ls).job.slice i))
            e (of_beside (run σ ls) l h);
      }
