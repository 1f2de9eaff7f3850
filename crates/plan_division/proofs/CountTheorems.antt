-- Demand 3 by count, of the division along the best path over a plan's candidates; N is `count`.
--   first-demand    the first path, where it has N pieces and none over the maximum: then no reach is sought
--   second-demand   the best path over completed candidates, whose limit is the reach
--   first_found, second-found   the same of `best_path_by_count`
use Rattle.std.specs.Prelude.{◌≡◌, List, ℕ, suc, ◌<◌, Float, length}
use Rattle.std.proofs.Common.{ap, arith}
use Rattle.grid.specs.BoundaryLaws.{Accepted}
use Rattle.grid.specs.declared.boundary.FrameGrid.{FrameGrid}
use Rattle.path_pieces.specs.Domain.{Searchable}
use Rattle.path_pieces.specs.declared.lengths.Lengths.{Lengths}
use Rattle.path_rules.specs.Paths.{PathByCount, over_count, BestByCount}
use Rattle.path_rules.specs.PathsLaws.{over_count_lem}
use Rattle.path_by_count.specs.Table.{best_path_by_count, best_score_by_count}
use Rattle.path_by_count.specs.Theorems.{count_allowed, count_score, count_is_best}
use Rattle.candidate_span.specs.Gaps.{Spread}
use Rattle.candidate_span.specs.Span.{Span}
use Rattle.division.specs.Demand.{DemandByCount}
use Rattle.division.specs.DemandLaws.{demand_reach, demand_maximum}
use Rattle.candidates.specs.declared.candidate.Candidate.{Candidate}
use Rattle.candidates.specs.Samples.{lefts_of, rights_of}
use Rattle.plan_division.specs.Along.{cuts_along}
use Rattle.plan_division.proofs.PiecesLaws.{count_along}
use Rattle.plan_division.specs.Across.{Across}
use Rattle.plan_division.specs.AcrossLaws.{along_divides}
use Rattle.plan_division.specs.Completed.{CompletedByCount}
use Rattle.plan_division.proofs.CountLaws.{count_rises, none_longer, count_same, best_keeps}

module _ (g : FrameGrid) (s : Span) (spread : Spread s.first s.gaps s.last) (cs : List Candidate) (count : ℕ) where
  -- a path of N pieces with none over the maximum meets demand 3
  pub first_demand : (maximum : ℕ) (path : List ℕ) → Across s cs → PathByCount count maximum (lefts_of g cs) (rights_of g cs) path
      → length path ≡ suc count → over_count maximum (lefts_of g cs) (rights_of g cs) path ≡ 0 → DemandByCount g s count maximum (cuts_along cs path)
  first_demand maximum path p a n none =
      let r = count_rises g cs count maximum path a in
      demand_maximum g s spread count maximum (cuts_along cs path) (along_divides s cs p path r) (omega (arith, n, count_along s cs p path r)) (none_longer g cs s p maximum path r none)

  module _ (ok : Accepted g) (some : 0 < count) (maximum reach : ℕ) (c : CompletedByCount g s count maximum reach cs) where
    -- so does a best path over completed candidates, its limit the reach
    pub second_demand : (l : Lengths) (cost : List Float) (path : List ℕ) → l.limit ≡ reach → BestByCount l (lefts_of g cs) (rights_of g cs) cost count path
        → DemandByCount g s count maximum (cuts_along cs path)
    second_demand l cost path e b =
        let p = c.across in
        let r = count_rises g cs count l.limit path b.allowed in
        let n = count_same g ok s spread cs count some maximum reach c in
        demand_reach g s count maximum reach (cuts_along cs path) c.sought (along_divides s cs p path r) (omega (arith, count_along s cs p path r, b.allowed.1, n))
        (none_longer g cs s p reach path r (best_keeps g ok s spread cs count some maximum reach c l cost path e b))

    -- and so the path that is found
    pub second-found : (l : Lengths) (cost : List Float) → l.limit ≡ reach → Searchable l (lefts_of g cs) (rights_of g cs) cost
        → DemandByCount g s count maximum (cuts_along cs (best_path_by_count l (lefts_of g cs) (rights_of g cs) cost count))
    second-found l cost e q = second_demand l cost (best_path_by_count l (lefts_of g cs) (rights_of g cs) cost count) e (count_is_best q count some)

  -- the first path that is found, by the number of its pieces and its score: the limit is the maximum
  pub first_found : (some : 0 < count) → Across s cs → (l : Lengths) (cost : List Float) → Searchable l (lefts_of g cs) (rights_of g cs) cost
      → length (best_path_by_count l (lefts_of g cs) (rights_of g cs) cost count) ≡ suc count
      → (best_score_by_count l (lefts_of g cs) (rights_of g cs) cost count).over ≡ 0
      → DemandByCount g s count l.limit (cuts_along cs (best_path_by_count l (lefts_of g cs) (rights_of g cs) cost count))
  first_found some p l cost q n none =
      let path = best_path_by_count l (lefts_of g cs) (rights_of g cs) cost count in
      first_demand l.limit path p (count_allowed q count some) n
      (omega (arith, over_count_lem l (lefts_of g cs) (rights_of g cs) cost path, ap (λ t. t.over) (count_score q count some), none))
