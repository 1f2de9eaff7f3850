-- Document 01's "One candidate survives for each left end: the cheapest, the earlier listed on equal cost", in words: `Cheapest` says it without the walk that finds it.
use Rattle.std.specs.Prelude.{◌≡◌, refl, ◌⊎◌, Bool, not, cond, ℕ, suc, ◌-◌, ◌<◌, T, Float, length}
use Rattle.std.proofs.Common.{sym, ap, subst, ◌∙◌, inl, inr}
use mathlib.Core.List.Memᴰ
use mathlib.Core.List.{List, [], ◌∷◌, Memᴰ}
use Rattle.std.specs.Float.Ieee.{lt, le, is_nan}
use Rattle.base_laws.specs.Tests.{tested, holds}
use Rattle.base_laws.specs.Nonneg.{nonneg-number}
use Rattle.base_laws.specs.Order.{float_le_refl, float_lt-le, float_not_lt, float_lt-le_trans}
use Rattle.grid.specs.declared.boundary.FrameGrid.{FrameGrid}
use Rattle.candidate_span.specs.Kept.{boundaries}
use Rattle.candidates.specs.declared.candidate.Candidate.{Candidate}
use Rattle.candidates.specs.declared.context.Context.{Context}
use Rattle.candidates.specs.Candidates.{all_listed, with_left, cheaper, cheapest_of, cheapest, survivors, candidates_of}
use Rattle.candidates.specs.Members.{candidate_at, left_of, Survivor, none, one, survivor_at, survivor_of}
use Rattle.candidates.specs.Sources.{Planned, listed_source}
use Rattle.candidates.specs.Found.{inside_span, inner_survives}
use Rattle.candidates.specs.Costs.{Costable, source_cost}

-- r is the cheapest of some candidates, the earliest of equals: it is the first, and none behind it is cheaper; or it is cheaper than the first, and the cheapest of the others
abbrev pub Cheapest : List Candidate → Candidate → Type 0
Cheapest [] r = ⊥
Cheapest (d ∷ ds) r = ((r ≡ d) × ((e : Candidate) → Memᴰ e ds → T (le r.cost e.cost))) ⊎ (T (lt r.cost d.cost) × Cheapest ds r)

-- no cost is a NaN
abbrev pub Priced : List Candidate → Type 0
Priced ds = (d : Candidate) → Memᴰ d ds → T (not (is_nan d.cost))

-- one more behind the first
more : (c d r : Candidate) (ds : List Candidate) → T (le c.cost d.cost) → Cheapest (c ∷ ds) r → Cheapest (c ∷ (d ∷ ds)) r
more c d r ds h (inl p) = inl (p.0, λ e i. elim (Memᴰ.cases_cons i) [ inl q ↦ rw (p.0, q) h | inr m ↦ p.1 e m ])
more c d r ds h (inr p) = inr (p.0, inr (float_lt-le_trans r.cost c.cost d.cost p.0 h, p.1))

-- one more before the first
before : (c d r : Candidate) (ds : List Candidate) → T (lt d.cost c.cost) → Cheapest (d ∷ ds) r → Cheapest (c ∷ (d ∷ ds)) r
before c d r ds h p =
    let below : T (lt r.cost c.cost) = elim p [ inl q ↦ rw q.0 h | inr q ↦ float_lt-le_trans r.cost d.cost c.cost q.0 (float_lt-le d.cost c.cost h) ] in
    inr (below, p)

-- what the walk finds is it
pub cheapest_is : (c : Candidate) (ds : List Candidate) → Priced (c ∷ ds) → Cheapest (c ∷ ds) (cheapest_of c ds)
unfolding cheapest_of cheaper
cheapest_is c [] n = inl (refl, λ (e : Candidate) (m : Memᴰ e []). absurd (Memᴰ.not-nil m))
cheapest_is c (d ∷ ds) n =
    let without : Priced (c ∷ ds) = λ e i. elim (Memᴰ.cases_cons i) [ inl q ↦ n e (Memᴰ.head q) | inr m ↦ n e (Memᴰ.tail (Memᴰ.tail m)) ] in
    let by : Bool → Type 0 = λ t. Cheapest (c ∷ (d ∷ ds)) (cheapest_of (cond t d c) ds) in
    elim (tested (lt d.cost c.cost)) [
      | inl e ↦ subst by (sym e) (before c d (cheapest_of d ds) ds (holds e) (cheapest_is d ds (λ e m. n e (Memᴰ.tail m))))
      | inr e ↦
          let not_above = float_not_lt d.cost c.cost (n d (Memᴰ.tail (Memᴰ.head refl))) (n c (Memᴰ.head refl)) (rw e tt) in
          subst by (sym e) (more c d (cheapest_of c ds) ds not_above (cheapest_is c ds without))
    ]

-- none is cheaper than the cheapest
pub cheapest_least : (ds : List Candidate) (r : Candidate) → Priced ds → Cheapest ds r → (e : Candidate) → Memᴰ e ds → T (le r.cost e.cost)
cheapest_least [] r n p e m = absurd p
cheapest_least (d ∷ ds) r n (inl p) e (Memᴰ.head q) = rw (p.0, q) (float_le_refl d.cost (n d (Memᴰ.head refl)))
cheapest_least (d ∷ ds) r n (inl p) e (Memᴰ.tail m) = p.1 e m
cheapest_least (d ∷ ds) r n (inr p) e (Memᴰ.head q) = rw q (float_lt-le r.cost d.cost p.0)
cheapest_least (d ∷ ds) r n (inr p) e (Memᴰ.tail m) = cheapest_least ds r (λ (a : Candidate) (i : Memᴰ a ds). n a (Memᴰ.tail i)) p.1 e m

-- ---- those that survive

one-cheapest : (ds : List Candidate) (c : Candidate) → Priced ds → Memᴰ c (cheapest ds) → Cheapest ds c
unfolding cheapest
one-cheapest [] c n m = absurd (Memᴰ.not-nil m)
one-cheapest (d ∷ ds) c n m = rw (Memᴰ.eq_of_singleton m) (cheapest_is d ds n)

-- a survivor is what the walk finds at its own left end
survives_here : (cs : List Candidate) (ks : List ℕ) (c : Candidate) → Memᴰ c (survivors cs ks) → Memᴰ c (cheapest (with_left c.left cs))
unfolding survivors
survives_here cs [] c m = absurd (Memᴰ.not-nil m)
survives_here cs (k ∷ ks) c m = elim (Memᴰ.append_cases (cheapest (with_left k cs)) m) [
  | inl i ↦ subst (λ (j : ℕ). Memᴰ c (cheapest (with_left j cs))) (sym (here (survivor_at cs k) i)) i
  | inr i ↦ survives_here cs ks c i
]
  where
    here : Survivor cs k (cheapest (with_left k cs)) → Memᴰ c (cheapest (with_left k cs)) → c.left ≡ k
    here (none e n) i = absurd (Memᴰ.not-nil (subst (λ (ds : List Candidate). Memᴰ c ds) e i))
    here (one d e o l) i = ap (λ (a : Candidate). a.left) (Memᴰ.eq_of_singleton (subst (λ (ds : List Candidate). Memᴰ c ds) e i)) ∙ l

module _ (x : Context) (g : FrameGrid) (runs : List ℕ) (levels : List Float) (q : Costable x g runs levels) (ss ks : List ℕ) (first last : ℕ) (p : Planned x ss levels ks first last) where
  -- each candidate between the ends is the cheapest of those listed with its left end, the earliest of equals
  pub candidate_cheapest : (i : ℕ) → 0 < i → suc i < length (candidates_of x ss runs levels ks first last)
      → Cheapest (with_left (candidate_at (candidates_of x ss runs levels ks first last) i).left (all_listed x ss runs levels ks)) (candidate_at (candidates_of x ss runs levels ks first last) i)
  candidate_cheapest i s h =
      let c = candidate_at (candidates_of x ss runs levels ks first last) i in
      let cs = all_listed x ss runs levels ks in
      let m = inner_survives x ss runs levels ks first last i s h in
      let b = inside_span x ss runs levels ks first last c.left (survivor_of cs (boundaries first (last - suc first)) c m).1 in
      let priced : Priced (with_left c.left cs) = λ d n.
      let l = left_of c.left cs d n in
      nonneg-number d.cost (source_cost x g runs levels q ss ks first last p d (listed_source x ss runs levels ks d l.0) (rw l.1 b.1)) in
      one-cheapest (with_left c.left cs) c priced (survives_here cs (boundaries first (last - suc first)) c m)
