-- The theorems of the path by length, about the definitions `best_path` and `best_score`, for costs that are not negative and no NaN, +inf included.
--   best-path-allowed   the path is allowed
--   best-path-score     its score, added left to right, is the table's
--   best-path-least     that score is at most the score of every allowed path; best-path-is-best   so the path is best
--   best-path-tie       the path follows the tie rule, by each candidate's own best score; best-path-only   no other path does
--   own-best            the table's scores are such own best scores; best-path-all   all of it in one record
use Rattle.std.specs.Prelude.{◌≡◌, List, ℕ, ◌<◌, T, Float, length}
use Rattle.std.proofs.Common.{arith}
use Rattle.path_pieces.specs.Pieces.{at_most}
use Rattle.path_pieces.specs.Domain.{Searchable}
use Rattle.path_pieces.specs.declared.lengths.Lengths.{Lengths}
use Rattle.path_pieces.specs.declared.score.Score.{Score}
use Rattle.path_rules.specs.Paths.{PathByLength, path_score, BestByLength, last_candidate}
use Rattle.path_rules.specs.PathsLaws.{path_weaken}
use Rattle.path_rules.specs.Ties.{OwnBest, Chosen, TieRule}
use Rattle.path_rules.specs.TiesLaws.{tie_unique, chosen_same}
use Rattle.path_rules.specs.BestPath.{BestPathByLength}
use Rattle.path_by_length.specs.Table.{best_score, parent_of, way_to, best_path}
use Rattle.path_by_length.proofs.BestLaws.{best_chosen, best_allowed, best_attained, best_below}

-- a candidate's own best score is the best of the allowed paths to it
pub own-best : {l : Lengths} {left right : List ℕ} {cut : List Float} → Searchable l left right cut → OwnBest l left right cut (best_score l left right cut)
own-best {l} {left} {right} {cut} ok = record {
  path = λ j. way_to (parent_of l left right cut) j;
  allowed = λ j h. best_allowed ok j h;
  attained = λ j h. best_attained ok j h;
  least = λ j other h p. best_below ok other j h p;
}

-- ---- the path of the table

module _ {l : Lengths} {left right : List ℕ} {cut : List Float} (ok : Searchable l left right cut) where
  last_inside : last_candidate left < length left
  last_inside = omega (arith, ok.candidates.some)

  -- it is allowed
  pub best_path_allowed : PathByLength l.limit left right (best_path l left right cut)
  unfolding best_path
  best_path_allowed = best_allowed ok (last_candidate left) last_inside

  -- and has the table's score
  pub best_path-score : path_score l left right cut (best_path l left right cut) ≡ best_score l left right cut (last_candidate left)
  unfolding best_path
  best_path-score = best_attained ok (last_candidate left) last_inside

  -- which is at most the score of every allowed path
  pub best_path_least : (other : List ℕ) → PathByLength l.limit left right other
      → T (at_most (best_score l left right cut (last_candidate left)) (path_score l left right cut other))
  best_path_least other p = best_below ok other (last_candidate left) last_inside p

  -- so it is best
  pub best_path_is_best : BestByLength l left right cut (best_path l left right cut)
  best_path_is_best = record { allowed = best_path_allowed; least = λ other p. rw best_path-score (best_path_least other p) }

  -- it follows the tie rule, by whatever own best scores
  pub best_path_tie : {own : ℕ → Score} → OwnBest l left right cut own → TieRule l left right own (best_path l left right cut)
  unfolding best_path
  best_path_tie {own} best =
      path_weaken (Chosen l left right (best_score l left right cut)) (Chosen l left right own) (last_candidate left) (λ i j c. c.high)
      (λ i j h c. chosen_same ok (own-best ok) best i j (omega (arith, last_inside)) c) (way_to (parent_of l left right cut) (last_candidate left))
      (best_chosen ok (last_candidate left) last_inside)

  -- and no other path does
  pub best_path_only : {own : ℕ → Score} → OwnBest l left right cut own → (other : List ℕ) → TieRule l left right own other → other ≡ best_path l left right cut
  best_path_only best other t = tie_unique ok best other (best_path l left right cut) t (best_path_tie best)

  -- all of it
  pub best_path-all : BestPathByLength l left right cut (best_path l left right cut)
  best_path-all = record {
    allowed = best_path_allowed;
    least = best_path_is_best.least;
    scored = (best_score l left right cut, own-best ok);
    tie = λ best. best_path_tie best;
    only = λ best. best_path_only best;
  }
