-- Points that completion adds: candidates with them are a plan's candidates again, and they are what the Rust's `merge` makes of the candidates and the added points.
use Rattle.std.specs.Prelude.{◌≡◌, ◌⊎◌, true, Float}
use Rattle.std.proofs.Math.Path.{refl, sym, ap}
use Rattle.std.proofs.Common.{◌∙◌, arith, eq-eqb, ne_eqb}
use Rattle.std.proofs.Math.Logic.{inl, inr}
use mathlib.Core.List.Memᴰ
use mathlib.Core.List.{List, [], ◌∷◌, ◌++◌, map, map-append, append_assoc, append-nil, Memᴰ}
use Prim.Native.Nat.{ℕ, zero, suc, ◌+◌, ◌-◌, ◌≤◌, ◌<◌}
use Rattle.base_laws.specs.Tests.{lt_or_le}
use Rattle.candidate_span.specs.Listed.{silence_count}
use Rattle.candidate_span.specs.Kept.{boundaries}
use Rattle.candidate_span.specs.KeptIn.{Outside, of_boundaries}
use Rattle.candidate_points.specs.Points.{is_in}
use Rattle.candidates.specs.declared.candidate.Candidate.{Candidate}
use Rattle.candidates.specs.declared.context.Context.{Context}
use Rattle.candidates.specs.Candidates.{node, point_at, own_from, all_listed, with_left, cheapest, survivors, candidates_inside, candidates_of}
use Rattle.candidates.specs.SurvivorsLaws.{left_append}
use Rattle.candidates.specs.Members.{is_in_lem, in_is, Survivor, none, one, survivor_at, survivor_of}
use Rattle.candidates.specs.Sources.{dropped_of, Planned}
use Rattle.candidates.specs.Same.{cheapest-append}

-- ---- still a plan's

module _ (x : Context) (ss : List ℕ) (levels : List Float) (ks js : List ℕ) (first last : ℕ) where
  -- points may be added at kept frame boundaries
  pub planned-added : Planned x ss levels ks first last → ((k : ℕ) → is_in js k ≡ true → first < k → k < last → Outside (dropped_of x ss) k) → Planned x ss levels (ks ++ js) first last
  planned-added p f =
      record {
        prepared = p.prepared;
        starts = p.starts;
        stops = p.stops;
        clear = λ (k : ℕ) (t : is_in (ks ++ js) k ≡ true) (a : first < k) (b : k < last). go k a b (Memᴰ.append_cases ks (is_in_lem (ks ++ js) k t));
      }
    where
      go : (k : ℕ) → first < k → k < last → Memᴰ k ks ⊎ Memᴰ k js → Outside (dropped_of x ss) k
      go k a b (inl m) = p.clear k (in_is ks k m) a b
      go k a b (inr m) = f k (in_is js k m) a b

-- ---- survivors of survivors

left_none : (k : ℕ) (cs : List Candidate) → ((c : Candidate) → Memᴰ c cs → c.left ≡ k → ⊥) → with_left k cs ≡ []
unfolding with_left
left_none k [] f = refl
left_none k (c ∷ cs) f = rw (ne_eqb c.left k (f c (Memᴰ.head refl))) (left_none k cs (λ (d : Candidate) (m : Memᴰ d cs). f d (Memᴰ.tail m)))

-- the survivor at a boundary has its left end there
left_here : (k : ℕ) (cs ds : List Candidate) → Survivor cs k ds → with_left k ds ≡ ds
unfolding with_left
left_here k cs ds (none e n) = rw e
left_here k cs ds (one c e m l) = rw (e, eq-eqb c.left k l)

-- and nowhere else
left_other : (j k : ℕ) (cs ds : List Candidate) → (j ≡ k → ⊥) → Survivor cs j ds → with_left k ds ≡ []
unfolding with_left
left_other j k cs ds d (none e n) = rw e
left_other j k cs ds d (one c e m l) = rw (e, ne_eqb c.left k (λ (q : c.left ≡ k). d (sym l ∙ q)))

module _ (cs : List Candidate) where
  left_survivor : (n a k : ℕ) → a < k → k ≤ a + n → with_left k (survivors cs (boundaries a n)) ≡ cheapest (with_left k cs)
  unfolding survivors boundaries
  left_survivor zero a k h l = absurd (omega arith)
  left_survivor (suc n) a k h l =
      let later : (c : Candidate) → Memᴰ c (survivors cs (boundaries (suc a) n)) → c.left ≡ suc a → ⊥ =
      λ c m e. let i = of_boundaries (suc a) n c.left (survivor_of cs (boundaries (suc a) n) c m).1 in omega (arith, i.0) in
      let here : suc a ≡ k → with_left k (cheapest (with_left (suc a) cs)) ++ with_left k (survivors cs (boundaries (suc a) n)) ≡ cheapest (with_left k cs) =
      λ e. rw (sym e, left_here (suc a) cs (cheapest (with_left (suc a) cs)) (survivor_at cs (suc a)), left_none (suc a) (survivors cs (boundaries (suc a) n)) later) (append-nil (cheapest (with_left (suc a) cs))) in
      left_append k (cheapest (with_left (suc a) cs)) (survivors cs (boundaries (suc a) n))
      ∙ elim (lt_or_le (suc a) k) [
        | inl q ↦ rw (left_other (suc a) k cs (cheapest (with_left (suc a) cs)) (λ (e : suc a ≡ k). omega arith) (survivor_at cs (suc a))) (left_survivor n (suc a) k q (omega arith))
        | inr q ↦ here (omega arith)
      ]

  cheapest_twice : (ds es : List Candidate) → cheapest (cheapest ds ++ es) ≡ cheapest (ds ++ es)
  unfolding cheapest
  cheapest_twice [] es = refl
  cheapest_twice (d ∷ ds) es = ap (λ (c : Candidate). c ∷ []) (sym (cheapest-append d ds es))

  module _ (ds : List Candidate) (first width : ℕ) where
    -- what survived stands for all that was listed, beside more
    survive_again : (n a : ℕ) → first ≤ a → a + n ≤ first + width
        → survivors (survivors cs (boundaries first width) ++ ds) (boundaries a n) ≡ survivors (cs ++ ds) (boundaries a n)
    unfolding survivors boundaries
    survive_again zero a h l = refl
    survive_again (suc n) a h l =
        let here : cheapest (with_left (suc a) (survivors cs (boundaries first width) ++ ds)) ≡ cheapest (with_left (suc a) (cs ++ ds)) =
        rw (left_append (suc a) (survivors cs (boundaries first width)) ds, left_append (suc a) cs ds, left_survivor width first (suc a) (omega arith) (omega arith)) (cheapest_twice (with_left (suc a) cs) (with_left (suc a) ds)) in
        rw (here, survive_again n (suc a) (omega arith) (omega arith))

-- ---- merging

module _ (x : Context) (ss runs : List ℕ) (levels : List Float) (ks js : List ℕ) (first last : ℕ) where
  listed-added : all_listed x ss runs levels (ks ++ js) ≡ all_listed x ss runs levels ks ++ map (point_at x ss runs levels) js
  unfolding all_listed
  listed-added =
      ap (λ (ps : List Candidate). own_from x ss levels (silence_count ss) 0 ++ ps) (map-append (point_at x ss runs levels) ks js)
      ∙ sym (append_assoc (own_from x ss levels (silence_count ss) 0) (map (point_at x ss runs levels) ks) (map (point_at x ss runs levels) js))

  -- the candidates with added points are the survivors of the candidates and the added points
  pub candidates-added : candidates_of x ss runs levels (ks ++ js) first last
      ≡ node first ∷ (survivors (candidates_inside x ss runs levels ks first last ++ map (point_at x ss runs levels) js) (boundaries first (last - suc first)) ++ (node last ∷ []))
  unfolding candidates_of
  candidates-added =
      rw (listed-added, survive_again (all_listed x ss runs levels ks) (map (point_at x ss runs levels) js) first (last - suc first) (last - suc first) first (omega arith) (omega arith))
