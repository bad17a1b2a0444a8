-- Any two orders of turns that give each agent equally many accepted turns end in the same state, if a refused turn leaves the state alone
-- (`passed_over`) and two agents that may both act do not disturb each other (`diamond`). No word of Argon2. Assumes nothing else.
use mathlib.Core.Path.{◌≡◌, refl, sym, ap, ◌∙◌, subst}
use mathlib.Core.Logic.{◌≢◌}
use mathlib.Core.Bool.{Bool, true, false, cond, ◌&&◌}
use mathlib.Core.List.{List, [], ◌∷◌}
use Prim.Native.Nat.{ℕ, ◌+◌, ◌≤◌}
use native.Mathlib.Omega.{arith}
use lib.Dec.{eqb}
use borrow.Author.Tests.{eqb-true, eqb-false, eq-eqb}
use Rattle.turns.specs.Turns.{turns, accepted_of}

-- how often x stands in a list
abbrev pub occ : ℕ → List ℕ → ℕ
occ x [] = 0
occ x (l ∷ ls) = cond (eqb l x) 1 0 + occ x ls

-- the list without the first x
remove : ℕ → List ℕ → List ℕ
remove x [] = []
remove x (l ∷ ls) = cond (eqb l x) ls (l ∷ remove x ls)

occ_remove : (x y : ℕ) (ls : List ℕ) → 1 ≤ occ x ls → occ y ls ≡ cond (eqb x y) 1 0 + occ y (remove x ls)
unfolding remove
occ_remove x y [] h = omega arith
occ_remove x y (l ∷ ls) h = go (λ k. occ_remove x y ls k) (eqb l x) refl
  where
    go : (1 ≤ occ x ls → occ y ls ≡ cond (eqb x y) 1 0 + occ y (remove x ls))
        → (t : Bool) → eqb l x ≡ t → occ y (l ∷ ls) ≡ cond (eqb x y) 1 0 + occ y (cond t ls (l ∷ remove x ls))
    go ih true e = ap (λ (z : ℕ). cond (eqb z y) 1 0 + occ y ls) (eqb-true l x e)
    go ih false e =
        let h' : 1 ≤ occ x ls = omega (arith, subst (λ (t : Bool). 1 ≤ cond t 1 0 + occ x ls) e h) in
        omega (arith, ih h')

none_occ : (ls : List ℕ) → ((x : ℕ) → occ x ls ≡ 0) → ls ≡ []
none_occ [] h = refl
none_occ (l ∷ ls) h = absurd (omega (arith, subst (λ (t : Bool). cond t 1 0 + occ l ls ≡ 0) (eq-eqb l l refl) (h l)))

module _
    (S : Type 0) (act : S → ℕ → S) (ok : S → ℕ → Bool)
    (passed_over : (s : S) (a : ℕ) → ok s a ≡ false → act s a ≡ s)
    (diamond : (s : S) (a b : ℕ) → a ≢ b → ok s a ≡ true → ok s b ≡ true
    → (ok (act s a) b ≡ true) × (act (act s a) b ≡ act (act s b) a))
  where
    -- the state after actions that are not tested, and that each may be made
    abbrev acts : S → List ℕ → S
    acts s [] = s
    acts s (l ∷ ls) = acts (act s l) ls

    abbrev All : S → List ℕ → Type 0
    All s [] = Unit {0}
    All s (l ∷ ls) = (ok s l ≡ true) × All (act s l) ls

    -- a turn that may be made now, and stands later in the list, can be made first
    front : (a : ℕ) (s : S) (ls : List ℕ) → ok s a ≡ true → 1 ≤ occ a ls → All s ls
        → All (act s a) (remove a ls) × (acts s ls ≡ acts (act s a) (remove a ls))
    unfolding remove
    front a s [] o h v = absurd (omega arith)
    front a s (b ∷ ls) o h v = go (λ o' h'. front a (act s b) ls o' h' v.1) (eqb b a) refl
      where
        go : (ok (act s b) a ≡ true → 1 ≤ occ a ls → All (act (act s b) a) (remove a ls) × (acts (act s b) ls ≡ acts (act (act s b) a) (remove a ls)))
            → (t : Bool) → eqb b a ≡ t
            → All (act s a) (cond t ls (b ∷ remove a ls)) × (acts s (b ∷ ls) ≡ acts (act s a) (cond t ls (b ∷ remove a ls)))
        go ih true e =
            let p : b ≡ a = eqb-true b a e in
            (subst (λ (z : ℕ). All (act s z) ls) p v.1, ap (λ (z : ℕ). acts (act s z) ls) p)
        go ih false e =
            let n : b ≢ a = eqb-false b a e in
            let h' : 1 ≤ occ a ls = omega (arith, subst (λ (t : Bool). 1 ≤ cond t 1 0 + occ a ls) e h) in
            let d : (ok (act s b) a ≡ true) × (act (act s b) a ≡ act (act s a) b) = diamond s b a n v.0 o in
            let d' : (ok (act s a) b ≡ true) × (act (act s a) b ≡ act (act s b) a) = diamond s a b (λ q. n (sym q)) o v.0 in
            let r : All (act (act s b) a) (remove a ls) × (acts (act s b) ls ≡ acts (act (act s b) a) (remove a ls)) = ih d.0 h' in (
              (d'.0, subst (λ (z : S). All z (remove a ls)) d.1 r.0),
              r.1 ∙ ap (λ (z : S). acts z (remove a ls)) d.1,
            )

    same_acts : (s : S) (ls ms : List ℕ) → All s ls → All s ms → ((x : ℕ) → occ x ls ≡ occ x ms) → acts s ls ≡ acts s ms
    same_acts s [] ms v u h = ap (λ (z : List ℕ). acts s z) (sym (none_occ ms (λ x. sym (h x))))
    same_acts s (a ∷ ls) ms v u h =
        let one : ◌≡◌ {A = ℕ} (cond (eqb a a) 1 0) 1 = ap (λ (t : Bool). cond t 1 0) (eq-eqb a a refl) in
        let k : 1 ≤ occ a ms = omega (arith, one, h a) in
        let r : All (act s a) (remove a ms) × (acts s ms ≡ acts (act s a) (remove a ms)) = front a s ms v.0 k u in
        same_acts (act s a) ls (remove a ms) v.1 r.0 (λ x. omega (arith, h x, occ_remove a x ms k)) ∙ sym r.1

    -- the agents whose turns were accepted, in order
    kept : S → List ℕ → List ℕ
    kept s [] = []
    kept s (l ∷ ls) = cond (ok s l) (l ∷ kept (act s l) ls) (kept (act s l) ls)

    kept_all : (s : S) (ls : List ℕ) → All s (kept s ls)
    unfolding kept
    kept_all s [] = tt
    kept_all s (l ∷ ls) = go (kept_all (act s l) ls) (ok s l) refl
      where
        go : All (act s l) (kept (act s l) ls) → (t : Bool) → ok s l ≡ t → All s (cond t (l ∷ kept (act s l) ls) (kept (act s l) ls))
        go i true e = (e, i)
        go i false e = subst (λ (z : S). All z (kept (act s l) ls)) (passed_over s l e) i

    kept_turns : (s : S) (ls : List ℕ) → turns S act s ls ≡ acts s (kept s ls)
    unfolding kept
    kept_turns s [] = refl
    kept_turns s (l ∷ ls) = go (kept_turns (act s l) ls) (ok s l) refl
      where
        go : turns S act (act s l) ls ≡ acts (act s l) (kept (act s l) ls)
            → (t : Bool) → ok s l ≡ t → turns S act (act s l) ls ≡ acts s (cond t (l ∷ kept (act s l) ls) (kept (act s l) ls))
        go i true e = i
        go i false e = i ∙ ap (λ (z : S). acts z (kept (act s l) ls)) (passed_over s l e)

    kept_occ : (x : ℕ) (s : S) (ls : List ℕ) → accepted_of S act ok x s ls ≡ occ x (kept s ls)
    unfolding kept
    kept_occ x s [] = refl
    kept_occ x s (l ∷ ls) = go (kept_occ x (act s l) ls) (ok s l)
      where
        go : accepted_of S act ok x (act s l) ls ≡ occ x (kept (act s l) ls)
            → (t : Bool) → cond (t && eqb l x) 1 0 + accepted_of S act ok x (act s l) ls ≡ occ x (cond t (l ∷ kept (act s l) ls) (kept (act s l) ls))
        go i true = ap (λ (z : ℕ). cond (eqb l x) 1 0 + z) i
        go i false = omega arith

    -- THE THEOREM: equally many accepted turns for each agent, the same state
    pub order_free : (s : S) (ls ms : List ℕ) → ((x : ℕ) → accepted_of S act ok x s ls ≡ accepted_of S act ok x s ms)
        → turns S act s ls ≡ turns S act s ms
    order_free s ls ms h =
        kept_turns s ls
        ∙ same_acts s (kept s ls) (kept s ms) (kept_all s ls) (kept_all s ms) (λ x. sym (kept_occ x s ls) ∙ h x ∙ kept_occ x s ms)
        ∙ sym (kept_turns s ms)
