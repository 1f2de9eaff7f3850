-- Completed candidates have a division into as many pieces as are asked for, none over the reach. It runs along a path; the best path has no more pieces over the limit than that one: none.
use Rattle.std.specs.Prelude.{◌≡◌, List, ℕ, suc, ◌-◌, ◌≤◌, ◌<◌, min, Float, length}
use Rattle.std.proofs.Common.{sym, ap, subst, ◌∙◌, arith}
use Rattle.std.proofs.lemmas.List.{length-map}
use Rattle.grid.specs.BoundaryLaws.{Accepted}
use Rattle.grid.specs.declared.boundary.FrameGrid.{FrameGrid}
use Rattle.path_pieces.specs.DomainLaws.{over-le}
use Rattle.path_pieces.specs.declared.lengths.Lengths.{Lengths}
use Rattle.path_rules.specs.Paths.{Allowed, AllowedByCount, Path, PathByLength, PathByCount, last_candidate, over_count, path_score, BestByCount}
use Rattle.path_rules.specs.PathsLaws.{over_count_lem}
use Rattle.path_rules.specs.PathsLaws.{path_weaken}
use Rattle.candidate_span.specs.Gaps.{Cut, Spread}
use Rattle.candidate_span.specs.Span.{Span}
use Rattle.division.specs.Division.{kept_in, pieces_asked, Among}
use Rattle.division.specs.Pieces.{pieces_of, longest, overs}
use Rattle.division.specs.PiecesLaws.{overs-none, none_over}
use Rattle.division.specs.Refine.{Refined}
use Rattle.division.specs.GreedyLaws.{greedy_divides}
use Rattle.division.specs.ReachLaws.{asked_some}
use Rattle.division.specs.Shares.{shares_of}
use Rattle.division.specs.SharesLaws.{shares_divide}
use Rattle.division.specs.DemandLaws.{pieces_asked_lem}
use Rattle.division.proofs.ReachFound.{reach_kept}
use Rattle.candidates.specs.declared.candidate.Candidate.{Candidate}
use Rattle.candidates.specs.Samples.{left_sample, lefts_of, rights_of}
use Rattle.plan_division.specs.Along.{cuts_along, RisingPath, whole_path, all_cuts}
use Rattle.plan_division.proofs.PiecesLaws.{count_along, overs-along}
use Rattle.plan_division.specs.Across.{Across}
use Rattle.plan_division.specs.AcrossLaws.{all_divides, whole_rises, whole_length, has_all, all_has, left_cut}
use Rattle.plan_division.specs.Completed.{CompletedByCount}
use Rattle.plan_division.specs.ThroughLaws.{PathOf, division_path, none-over_allowed}

-- ---- paths over candidates in samples

module _ (g : FrameGrid) (cs : List Candidate) where
  -- the last candidate's number
  pub last_same : last_candidate (lefts_of g cs) ≡ length cs - 1
  last_same = ap (λ (n : ℕ). n - 1) (length-map cs (left_sample g))

  -- a path by count rises
  pub count_rises : (count limit : ℕ) (path : List ℕ) → PathByCount count limit (lefts_of g cs) (rights_of g cs) path → RisingPath cs path
  count_rises count limit path a =
      subst (λ (n : ℕ). Path (λ (i j : ℕ). i < j) path n) last_same
      (path_weaken (AllowedByCount limit (lefts_of g cs) (rights_of g cs)) (λ (i j : ℕ). i < j) (last_candidate (lefts_of g cs)) (λ i j b. b.0) (λ i j h b. b.0) path a.0)

  -- so does a path by length
  pub length_rises : (limit : ℕ) (path : List ℕ) → PathByLength limit (lefts_of g cs) (rights_of g cs) path → RisingPath cs path
  length_rises limit path a =
      subst (λ (n : ℕ). Path (λ (i j : ℕ). i < j) path n) last_same
      (path_weaken (Allowed limit (lefts_of g cs) (rights_of g cs)) (λ (i j : ℕ). i < j) (last_candidate (lefts_of g cs)) (λ i j b. b.0) (λ i j h b. b.0) path a)

  -- the pieces along a path with none over the limit are within it
  pub none_longer : (s : Span) → Across s cs → (limit : ℕ) (path : List ℕ) → RisingPath cs path → over_count limit (lefts_of g cs) (rights_of g cs) path ≡ 0
      → longest g (pieces_of s (cuts_along cs path)) ≤ limit
  none_longer s p limit path r e = none_over g limit (pieces_of s (cuts_along cs path)) (overs-along s cs p g limit path r ∙ e)

-- ---- completed candidates

module _ (g : FrameGrid) (ok : Accepted g) (s : Span) (spread : Spread s.first s.gaps s.last) (cs : List Candidate) (count : ℕ) (some : 0 < count) (maximum limit : ℕ)
    (c : CompletedByCount g s count maximum limit cs) where
  shares-all : Among (shares_of s (pieces_asked s count)) (all_cuts cs)
  shares-all k m =
      let fit : pieces_asked s count ≤ kept_in s = omega arith in
      let more = asked_some s spread count some in
      let d = shares_divide s spread (pieces_asked s count) more fit in
      has_all s cs c.across k (left_cut s cs c.across spread k (d.placed k m) (c.has_shares k m))

  far-all : Among c.far (all_cuts cs)
  far-all k m =
      let d = greedy_divides g ok s spread limit c.far c.greedy in
      has_all s cs c.across k (left_cut s cs c.across spread k (d.placed k m) (c.has_far k m))

  -- document 01's min(count, last index) is min(N, kept frames)
  pub count_same : min count (last_candidate (lefts_of g cs)) ≡ pieces_asked s count
  count_same =
      let n : length (pieces_of s (all_cuts cs)) ≡ length cs - 1 = omega (arith, count_along s cs c.across (whole_path cs) (whole_rises s cs c.across), whole_length s cs c.across) in
      subst (λ (m : ℕ). min count m ≡ pieces_asked s count) (n ∙ sym (last_same g cs)) (pieces_asked_lem g ok s spread count some (all_cuts cs) (all_divides s cs c.across) shares-all)

  -- a path of as many pieces with none over the reach
  record Kept : Type 0 where
    path : List ℕ
    allowed : PathByCount count limit (lefts_of g cs) (rights_of g cs) path
    none : over_count limit (lefts_of g cs) (rights_of g cs) path ≡ 0

  path_kept : (r : Refined s c.far (all_cuts cs) (pieces_asked s count)) → longest g (pieces_of s r.cuts) ≤ limit → PathOf s cs c.across r.cuts → Kept
  path_kept r within t =
      record {
        path = t.path;
        allowed = (none-over_allowed limit (lefts_of g cs) (rights_of g cs) t.path (last_candidate (lefts_of g cs)) rises none, long);
        none = none;
      }
    where
      none : over_count limit (lefts_of g cs) (rights_of g cs) t.path ≡ 0
      none =
          sym (overs-along s cs c.across g limit t.path t.rising)
          ∙ subst (λ (ks : List Cut). overs g limit (pieces_of s ks) ≡ 0) (sym t.along) (overs-none g limit (pieces_of s r.cuts) within)

      rises : Path (λ (i j : ℕ). i < j) t.path (last_candidate (lefts_of g cs))
      rises = subst (λ (n : ℕ). Path (λ (i j : ℕ). i < j) t.path n) (sym (last_same g cs)) t.rising

      long : length t.path ≡ suc (min count (last_candidate (lefts_of g cs)))
      long =
          count_along s cs c.across t.path t.rising
          ∙ ap suc (subst (λ (ks : List Cut). length (pieces_of s ks) ≡ pieces_asked s count) (sym t.along) r.number ∙ sym count_same)

  kept : Kept
  kept =
      let r = reach_kept g ok s spread count some (all_cuts cs) (all_divides s cs c.across) shares-all maximum limit c.far c.sought c.greedy far-all in
      path_kept r.0 r.1 (division_path s cs c.across r.0.cuts r.0.divides (λ k m. all_has s cs c.across k (r.0.under k m)))

  -- so the best path has none over it
  pub best_keeps : (l : Lengths) (cost : List Float) (path : List ℕ) → l.limit ≡ limit → BestByCount l (lefts_of g cs) (rights_of g cs) cost count path
      → over_count limit (lefts_of g cs) (rights_of g cs) path ≡ 0
  best_keeps l cost path e b =
      subst (λ (n : ℕ). over_count n (lefts_of g cs) (rights_of g cs) path ≡ 0) e
      (omega (
        arith,
        over_count_lem l (lefts_of g cs) (rights_of g cs) cost path,
        over_count_lem l (lefts_of g cs) (rights_of g cs) cost kept.path,
        subst (λ (n : ℕ). over_count n (lefts_of g cs) (rights_of g cs) kept.path ≡ 0) (sym e) kept.none,
        over-le (path_score l (lefts_of g cs) (rights_of g cs) cost path) (path_score l (lefts_of g cs) (rights_of g cs) cost kept.path)
            (b.least kept.path (subst (λ (n : ℕ). PathByCount count n (lefts_of g cs) (rights_of g cs) kept.path) (sym e) kept.allowed)),
      ))
