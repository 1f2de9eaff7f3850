-- The theorems of the path by count, about the definitions `best_path_by_count` and `best_score_by_count`, for a count above 0 and the same costs as by length.
--   count-allowed   the path is allowed and has min(count, last index) pieces
--   count-score     its score, added left to right, is the table's
--   count-best      that score is at most the score of every allowed path of as many pieces; count-is-best   so the path is best
--   count-tie       the path follows the tie rule, by each candidate's own best score with one piece fewer; count-only   no other path of as many pieces does
--   own-best-by-count   the table's scores are such own best scores; count-all   all of it in one record
use Rattle.std.specs.Prelude.{◌≡◌, T, Float, length}
use mathlib.Core.List.{List, [], ◌∷◌}
use Prim.Native.Nat.{ℕ, zero, suc, ◌<◌}
use Rattle.std.proofs.Common.{arith}
use Rattle.base_laws.specs.Nonneg.{nought-nonneg}
use Rattle.path_pieces.specs.Pieces.{no_score, at_most}
use Rattle.path_pieces.specs.Domain.{Searchable}
use Rattle.path_pieces.specs.DomainLaws.{at_most_refl}
use Rattle.path_pieces.specs.declared.lengths.Lengths.{Lengths}
use Rattle.path_pieces.specs.declared.score.Score.{Score}
use Rattle.path_rules.specs.Paths.{PathWith, piece_count, PathByCount, last_candidate, score_from, path_score, BestByCount}
use Rattle.path_rules.specs.Ties.{OwnBestByCount, TieRuleByCount}
use Rattle.path_rules.specs.TiesByCountLaws.{tie_unique_by_count, tie_same_by_count}
use Rattle.path_rules.specs.BestPath.{BestPathByCount}
use Rattle.path_by_count.specs.Table.{best_with, way_with, best_path_by_count, best_score_by_count}
use Rattle.path_by_count.specs.TableLaws.{CanReach, with_allowed, with_attained, with_below, with_tie}

module _ {l : Lengths} {left right : List ℕ} {cut : List Float} (ok : Searchable l left right cut) where
  -- the best scores with k pieces are the best of the allowed paths of k pieces
  pub own-best-by_count : OwnBestByCount l left right cut (best_with l left right cut)
  own-best-by_count = record {
    path = λ k j. way_with l left right cut k j;
    allowed = λ k j z h g. with_allowed ok k j (h, λ e. absurd (omega arith)) g;
    attained = λ k j z h g. with_attained ok k j (h, λ e. absurd (omega arith)) g;
    least = λ k j other z h g p. with_below ok other k j z g p;
  }

  module _ (count : ℕ) (some : 0 < count) where
    last_inside : last_candidate left < length left
    last_inside = omega (arith, ok.candidates.some)

    last-reached : CanReach (piece_count left count) (last_candidate left)
    last-reached = (omega arith, λ e. omega arith)

    -- the path is allowed
    pub count_allowed : PathByCount count l.limit left right (best_path_by_count l left right cut count)
    unfolding best_path_by_count
    count_allowed = with_allowed ok (piece_count left count) (last_candidate left) last-reached last_inside

    -- and has the table's score
    pub count_score : path_score l left right cut (best_path_by_count l left right cut count) ≡ best_score_by_count l left right cut count
    unfolding best_path_by_count best_score_by_count
    count_score = with_attained ok (piece_count left count) (last_candidate left) last-reached last_inside

    below : (k : ℕ) (other : List ℕ) → PathWith l.limit left right k (last_candidate left) other → T (at_most (best_with l left right cut k (last_candidate left)) (path_score l left right cut other))
    unfolding best_with path_score score_from
    below zero [] (p, n) = absurd p
    below zero (i ∷ []) (p, n) = at_most_refl no_score nought-nonneg
    below zero (i ∷ j ∷ rest) (p, n) = absurd (omega arith)
    below (suc k) other p = with_below ok other (suc k) (last_candidate left) (omega arith) last_inside p

    -- it is at most the score of every allowed path of as many pieces
    pub count_best : (other : List ℕ) → PathByCount count l.limit left right other → T (at_most (best_score_by_count l left right cut count) (path_score l left right cut other))
    unfolding best_score_by_count
    count_best other p = below (piece_count left count) other p

    -- so the path is best
    pub count_is_best : BestByCount l left right cut count (best_path_by_count l left right cut count)
    count_is_best = record { allowed = count_allowed; least = λ other p. rw count_score (count_best other p) }

    -- it follows the tie rule, by whatever own best scores
    pub count_tie : {own : ℕ → ℕ → Score} → OwnBestByCount l left right cut own → TieRuleByCount l left right own (best_path_by_count l left right cut count)
    unfolding best_path_by_count
    count_tie best =
        tie_same_by_count ok own-best-by_count best (way_with l left right cut (piece_count left count) (last_candidate left)) (last_candidate left) last_inside
        (with_tie ok (piece_count left count) (last_candidate left) last-reached last_inside)

    -- and no other path of as many pieces does
    pub count_only : {own : ℕ → ℕ → Score} → OwnBestByCount l left right cut own → (other : List ℕ) → TieRuleByCount l left right own other
        → length other ≡ suc (piece_count left count) → other ≡ best_path_by_count l left right cut count
    count_only best other t n =
        tie_unique_by_count ok best (piece_count left count) (last_candidate left) last_inside other (best_path_by_count l left right cut count) t (count_tie best) n count_allowed.1

    -- all of it
    pub count_all : BestPathByCount l left right cut count (best_path_by_count l left right cut count)
    count_all = record {
      allowed = count_allowed;
      least = count_is_best.least;
      scored = (best_with l left right cut, own-best-by_count);
      tie = λ best. count_tie best;
      only = λ best. count_only best;
    }
