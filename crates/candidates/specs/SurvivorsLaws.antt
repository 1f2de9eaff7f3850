-- The survivor at a boundary, told by the one silence whose own candidate may have its left end there and by whether a point stands there.
use Rattle.std.specs.Prelude.{◌≡◌, Bool, true, ◌||◌, cond, eqb, Float}
use Rattle.std.proofs.Math.Path.{refl}
use Rattle.std.proofs.Common.{sym, ap, ◌∙◌}
use Rattle.std.proofs.Math.Logic.{inl, inr}
use Rattle.std.proofs.Math.Bool.{false}
use mathlib.Core.List.{List, [], ◌∷◌, ◌++◌, map}
use Prim.Native.Nat.{ℕ, zero, suc, ◌+◌, ◌-◌, ◌≤◌, ◌<◌}
use native.Mathlib.Omega.{arith}
use Rattle.std.specs.Float.Ieee.{lt}
use borrow.Author.Tests.{eq-eqb, ne_eqb, eqb-true}
use Rattle.base_laws.specs.Tests.{tested}
use Rattle.candidate_span.specs.Bounds.{is_inner}
use Rattle.candidate_span.specs.Listed.{silence_count, start_at, end_at}
use Rattle.candidate_points.specs.Points.{is_in}
use Rattle.candidates.specs.declared.candidate.Candidate.{Candidate}
use Rattle.candidates.specs.declared.context.Context.{Context}
use Rattle.candidates.specs.Candidates.{point_at, own_at, own_from, all_listed, with_left, cheaper, cheapest_of, cheapest}

-- ---- the cheaper of two

one_of : (b : Bool) (c : Candidate) → cond b c c ≡ c
one_of true c = refl
one_of false c = refl

cheaper_same : (c : Candidate) → cheaper c c ≡ c
unfolding cheaper
cheaper_same c = one_of (lt c.cost c.cost) c

cheaper_twice : (c p : Candidate) → cheaper (cheaper c p) p ≡ cheaper c p
cheaper_twice c p = go (lt p.cost c.cost) refl
  where
    go : (b : Bool) → lt p.cost c.cost ≡ b → cheaper (cheaper c p) p ≡ cheaper c p
    go true e = let h : cheaper c p ≡ p = unfold cheaper in rw e in rw h (cheaper_same p)
    go false e = let h : cheaper c p ≡ c = unfold cheaper in rw e in rw h h

-- ---- those with left end k

more : (b : Bool) (c : Candidate) (cs ds : List Candidate) {es : List Candidate} → es ≡ cs ++ ds → cond b (c ∷ es) es ≡ cond b (c ∷ cs) cs ++ ds
more true c cs ds e = ap (λ (t : List Candidate). c ∷ t) e
more false c cs ds e = e

-- of two lists joined: those of the first, then those of the second
pub left_append : (k : ℕ) (cs ds : List Candidate) → with_left k (cs ++ ds) ≡ with_left k cs ++ with_left k ds
unfolding with_left
left_append k [] ds = refl
left_append k (c ∷ cs) ds = more (eqb c.left k) c (with_left k cs) (with_left k ds) (left_append k cs ds)

-- ---- points

module _ (x : Context) (ss runs : List ℕ) (levels : List Float) (k : ℕ) where
  abbrev point : ℕ → Candidate
  point j = point_at x ss runs levels j

  points-step : (b : Bool) (j : ℕ) (ks : List ℕ) (c : Candidate) → (b ≡ true → j ≡ k)
      → ((d : Candidate) → cheapest_of d (with_left k (map point ks)) ≡ cond (is_in ks k) (cheaper d (point k)) d)
      → cheapest_of c (cond b (point j ∷ with_left k (map point ks)) (with_left k (map point ks))) ≡ cond (b || is_in ks k) (cheaper c (point k)) c
  points-step true j ks c e f = unfold cheapest_of in rw (e refl) (f (cheaper c (point k)) ∙ elim (tested (is_in ks k)) [
    | inl t ↦ rw t (cheaper_twice c (point k))
    | inr t ↦ rw t
  ])
  points-step false j ks c e f = f c

  -- equal points beside another candidate
  pub points_beside : (ks : List ℕ) (c : Candidate) → cheapest_of c (with_left k (map point ks)) ≡ cond (is_in ks k) (cheaper c (point k)) c
  unfolding with_left is_in cheapest_of point_at
  points_beside [] c = refl
  points_beside (j ∷ ks) c = points-step (eqb j k) j ks c (eqb-true j k) (points_beside ks)

  points-first : (b : Bool) (j : ℕ) (ks : List ℕ) → (b ≡ true → j ≡ k) → cheapest (with_left k (map point ks)) ≡ cond (is_in ks k) (point k ∷ []) []
      → cheapest (cond b (point j ∷ with_left k (map point ks)) (with_left k (map point ks))) ≡ cond (b || is_in ks k) (point k ∷ []) []
  points-first true j ks e f = unfold cheapest in rw (e refl) (ap (λ (c : Candidate). c ∷ []) (points_beside ks (point k) ∙ elim (tested (is_in ks k)) [
    | inl t ↦ rw t (cheaper_same (point k))
    | inr t ↦ rw t
  ]))
  points-first false j ks e f = f

  -- and alone
  pub points_alone : (ks : List ℕ) → cheapest (with_left k (map point ks)) ≡ cond (is_in ks k) (point k ∷ []) []
  unfolding with_left is_in cheapest point_at
  points_alone [] = refl
  points_alone (j ∷ ks) = points-first (eqb j k) j ks (eqb-true j k) (points_alone ks)

-- ---- the silences' own

module _ (x : Context) (ss : List ℕ) (levels : List Float) where
  -- silence j has sound on both sides
  abbrev pub IsOwn : ℕ → Type 0
  IsOwn j = is_inner x.padding.frames (start_at ss j) (end_at ss j) ≡ true

  -- where its own candidate has its left end
  abbrev pub left_at : ℕ → ℕ
  left_at j = (own_at x ss levels j).left

  -- c silences from i on are m of them and the n that follow from j on
  own_split : (m n c i j : ℕ) → c ≡ m + n → j ≡ i + m → own_from x ss levels c i ≡ own_from x ss levels m i ++ own_from x ss levels n j
  unfolding own_from
  own_split zero n c i j d e = let h : i ≡ j = omega (arith, e) in let g : c ≡ n = omega (arith, d) in rw (h, g)
  own_split (suc m) n zero i j d e = absurd (omega (arith, d))
  own_split (suc m) n (suc c) i j d e =
      more (is_inner x.padding.frames (start_at ss i) (end_at ss i)) (own_at x ss levels i) (own_from x ss levels m (suc i)) (own_from x ss levels n j)
      (own_split m n c (suc i) j (omega (arith, d)) (omega (arith, e)))

  module _ (k : ℕ) where
    none-step : (b : Bool) (i : ℕ) (cs : List Candidate) → (b ≡ true → left_at i ≡ k → ⊥) → with_left k cs ≡ [] → with_left k (cond b (own_at x ss levels i ∷ cs) cs) ≡ []
    none-step true i cs f e = unfold with_left in rw (ne_eqb (left_at i) k (f refl)) e
    none-step false i cs f e = e

    -- no silence of those from i on has one with left end k
    own-none : (n i : ℕ) → ((j : ℕ) → i ≤ j → j < i + n → IsOwn j → left_at j ≡ k → ⊥) → with_left k (own_from x ss levels n i) ≡ []
    unfolding own_from with_left
    own-none zero i f = refl
    own-none (suc n) i f =
        none-step (is_inner x.padding.frames (start_at ss i) (end_at ss i)) i (own_from x ss levels n (suc i)) (f i (omega arith) (omega arith))
        (own-none n (suc i) (λ (j : ℕ) (a : suc i ≤ j) (b : j < suc i + n). f j (omega arith) (omega arith)))

    -- beside silence i, which has one there, no other does
    module _ (i : ℕ) (h : i < silence_count ss) (own : IsOwn i) (at : left_at i ≡ k)
        (before : (j : ℕ) → j < i → IsOwn j → left_at j ≡ k → ⊥) (beyond : (j : ℕ) → i < j → j < silence_count ss → IsOwn j → left_at j ≡ k → ⊥) where
      later : ℕ
      later = silence_count ss - suc i

      all_of : i + suc later ≡ silence_count ss
      unfolding later
      all_of = omega arith

      from-here : with_left k (own_from x ss levels (suc later) i) ≡ own_at x ss levels i ∷ []
      from-here = unfold own_from in unfold with_left in
          rw (own, eq-eqb (left_at i) k at)
          (ap (λ (t : List Candidate). own_at x ss levels i ∷ t) (own-none later (suc i) (λ (j : ℕ) (a : suc i ≤ j) (b : j < suc i + later). beyond j a (omega (arith, all_of)))))

      -- so it is the only own candidate with that left end
      pub own-one : with_left k (own_from x ss levels (silence_count ss) 0) ≡ own_at x ss levels i ∷ []
      own-one =
          rw (own_split i (suc later) (silence_count ss) 0 i (sym all_of) (omega arith), left_append k)
          (rw (own-none i 0 (λ (j : ℕ) (a : 0 ≤ j) (b : j < 0 + i). before j (omega arith))) from-here)

-- ---- the survivor at boundary k

module _ (x : Context) (ss runs : List ℕ) (levels : List Float) (ks : List ℕ) (k : ℕ) where
  -- where no silence has its own candidate: the point, if one stands there
  pub survivor_point : ((j : ℕ) → j < silence_count ss → IsOwn x ss levels j → left_at x ss levels j ≡ k → ⊥)
      → cheapest (with_left k (all_listed x ss runs levels ks)) ≡ cond (is_in ks k) (point_at x ss runs levels k ∷ []) []
  unfolding all_listed
  survivor_point f =
      rw (left_append k, own-none x ss levels k (silence_count ss) 0 (λ (j : ℕ) (a : 0 ≤ j) (b : j < 0 + silence_count ss). f j (omega arith))) (points_alone x ss runs levels k ks)

  -- where silence i has it: this one, or the point if that is cheaper
  pub survivor_own : (i : ℕ) → i < silence_count ss → IsOwn x ss levels i → left_at x ss levels i ≡ k
      → ((j : ℕ) → j < i → IsOwn x ss levels j → left_at x ss levels j ≡ k → ⊥) → ((j : ℕ) → i < j → j < silence_count ss → IsOwn x ss levels j → left_at x ss levels j ≡ k → ⊥)
      → cheapest (with_left k (all_listed x ss runs levels ks)) ≡ cond (is_in ks k) (cheaper (own_at x ss levels i) (point_at x ss runs levels k)) (own_at x ss levels i) ∷ []
  unfolding all_listed cheapest
  survivor_own i h own at f g =
      rw (left_append k, own-one x ss levels k i h own at f g) (ap (λ (c : Candidate). c ∷ []) (points_beside x ss runs levels k ks (own_at x ss levels i)))
