-- The candidates depend only on which boundaries strictly inside the span have a point: not on the order of the points, nor on how often one is listed.
use Rattle.std.specs.Prelude.{◌≡◌, Bool, Float}
use Rattle.std.proofs.Math.Path.{refl, sym, ap}
use Rattle.std.proofs.Common.{◌∙◌, arith}
use Rattle.std.proofs.Math.Bool.{cond}
use mathlib.Core.List.{List, [], ◌∷◌, ◌++◌, map}
use Prim.Native.Nat.{ℕ, zero, suc, ◌+◌, ◌-◌, ◌≤◌, ◌<◌}
use Rattle.candidate_span.specs.Listed.{silence_count}
use Rattle.candidate_span.specs.Kept.{boundaries}
use Rattle.candidate_points.specs.Points.{is_in}
use Rattle.candidates.specs.declared.candidate.Candidate.{Candidate}
use Rattle.candidates.specs.declared.context.Context.{Context}
use Rattle.candidates.specs.Candidates.{node, point_at, own_from, all_listed, with_left, cheaper, cheapest_of, cheapest, survivors, candidates_of}
use Rattle.candidates.specs.SurvivorsLaws.{left_append, points_beside, points_alone}

-- the cheapest of two lists joined is that of the first one's cheapest and the second
pub cheapest-append : (c : Candidate) (cs ds : List Candidate) → cheapest_of c (cs ++ ds) ≡ cheapest_of (cheapest_of c cs) ds
unfolding cheapest_of
cheapest-append c [] ds = refl
cheapest-append c (d ∷ cs) ds = cheapest-append (cheaper c d) cs ds

module _ (x : Context) (ss runs : List ℕ) (levels : List Float) where
  -- what survives at a boundary
  pub survivor_same : (ks js : List ℕ) (k : ℕ) → is_in ks k ≡ is_in js k → cheapest (with_left k (all_listed x ss runs levels ks)) ≡ cheapest (with_left k (all_listed x ss runs levels js))
  unfolding all_listed
  survivor_same ks js k e =
      let cs = own_from x ss levels (silence_count ss) 0 in
      rw (left_append k cs (map (point_at x ss runs levels) ks), left_append k cs (map (point_at x ss runs levels) js)) (go (with_left k cs))
    where
      go : (cs : List Candidate) → cheapest (cs ++ with_left k (map (point_at x ss runs levels) ks)) ≡ cheapest (cs ++ with_left k (map (point_at x ss runs levels) js))
      go [] = points_alone x ss runs levels k ks ∙ ap (λ (b : Bool). cond b (point_at x ss runs levels k ∷ []) []) e ∙ sym (points_alone x ss runs levels k js)
      go (c ∷ cs) =
          unfold cheapest in
          ap (λ (d : Candidate). d ∷ [])
          (cheapest-append c cs (with_left k (map (point_at x ss runs levels) ks)) ∙ points_beside x ss runs levels k ks (cheapest_of c cs)
          ∙ ap (λ (b : Bool). cond b (cheaper (cheapest_of c cs) (point_at x ss runs levels k)) (cheapest_of c cs)) e
          ∙ sym (cheapest-append c cs (with_left k (map (point_at x ss runs levels) js)) ∙ points_beside x ss runs levels k js (cheapest_of c cs)))

  survivors_same : (ks js : List ℕ) (n a : ℕ) → ((k : ℕ) → a < k → k ≤ a + n → is_in ks k ≡ is_in js k)
      → survivors (all_listed x ss runs levels ks) (boundaries a n) ≡ survivors (all_listed x ss runs levels js) (boundaries a n)
  unfolding survivors boundaries
  survivors_same ks js zero a f = refl
  survivors_same ks js (suc n) a f =
      rw (survivor_same ks js (suc a) (f (suc a) (omega arith) (omega arith)), survivors_same ks js n (suc a) (λ (k : ℕ) (h : suc a < k) (l : k ≤ suc a + n). f k (omega arith) (omega arith)))

  -- points at the same boundaries strictly inside the span give the same candidates
  pub candidates_same : (ks js : List ℕ) (first last : ℕ) → ((k : ℕ) → first < k → k < last → is_in ks k ≡ is_in js k)
      → candidates_of x ss runs levels ks first last ≡ candidates_of x ss runs levels js first last
  unfolding candidates_of
  candidates_same ks js first last f =
      ap (λ (cs : List Candidate). node first ∷ (cs ++ (node last ∷ [])))
      (survivors_same ks js (last - suc first) first (λ (k : ℕ) (a : first < k) (b : k ≤ first + (last - suc first)). f k a (omega arith)))
