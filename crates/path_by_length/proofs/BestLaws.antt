-- The table's scores are the best: the way back by the parents is a path of its score and follows the tie rule, and no allowed path scores less.
-- Along any allowed path the table stays at most the path's score: one more piece, and then one more cut, keep the order.
use Rattle.std.specs.Prelude.{◌≡◌, refl, Float, length}
use Rattle.std.proofs.Common.{sym, ap, subst, ◌∙◌, le_refl, arith}
use mathlib.Core.List.{List, [], ◌∷◌}
use Prim.Native.Nat.{ℕ, zero, suc, ◌≤◌, ◌<◌}
use Rattle.std.proofs.Math.Dec.{T}
use Rattle.path_pieces.specs.Pieces.{piece_length, no_score, with_piece, at_most, arrival}
use Rattle.path_pieces.specs.Domain.{Searchable}
use Rattle.path_pieces.specs.DomainLaws.{at_most_refl, at_most_trans, piece_bounded, piece_nonneg, piece_keeps, cut_at-keeps}
use Rattle.path_pieces.specs.declared.lengths.Lengths.{Lengths}
use Rattle.path_pieces.specs.declared.score.Score.{Score}
use Rattle.path_rules.specs.Paths.{Allowed, Onward, Path, step, score_from, path_score}
use Rattle.path_rules.specs.Ties.{Chosen}
use Rattle.path_rules.specs.PathsLaws.{path-more, onward_rises, path_weaken, path_score-more}
use Rattle.path_by_length.specs.Table.{best_score, parent_of, way_to, Falling}
use Rattle.path_by_length.proofs.TableLaws.{best-first, best-nonneg, best-step, best_least, parent_chosen, parent_below}
use Rattle.path_by_length.specs.WayLaws.{way_first, way_step}

-- ---- the way back

-- where each parent follows a rule, so does the way back
pub way_path : (rule : ℕ → ℕ → Type 0) (parent : ℕ → ℕ) (j : ℕ) → Falling parent j → ((k : ℕ) → 0 < k → k ≤ j → rule (parent k) k) → Path rule (way_to parent j) j
way_path rule parent j f r = go (suc j) j (le_refl (suc j)) (le_refl j)
  where
    go : (n k : ℕ) → k < n → k ≤ j → Path rule (way_to parent k) k
    go zero k h g = absurd (omega arith)
    go (suc n) zero h g = rw (way_first parent) (refl, refl)
    go (suc n) (suc k) h g =
        let b : parent (suc k) < suc k = f (suc k) (omega arith) g in
        rw (way_step parent (suc k) (omega arith) (λ i u v. f i u (omega arith)))
        (path-more rule (way_to parent (parent (suc k))) (parent (suc k)) (suc k) (go n (parent (suc k)) (omega arith) (omega arith)) (r (suc k) (omega arith) g))

-- ---- the table

module _ {l : Lengths} {left right : List ℕ} {cut : List Float} (ok : Searchable l left right cut) where
  abbrev own : ℕ → Score
  own = best_score l left right cut

  -- the way back from candidate j follows the tie rule
  pub best_chosen : (j : ℕ) → j < length left → Path (Chosen l left right own) (way_to (parent_of l left right cut) j) j
  best_chosen j h =
      way_path (Chosen l left right own) (parent_of l left right cut) j (λ k a b. parent_below ok k a (omega arith)) (λ k a b. parent_chosen ok k a (omega arith))

  -- so it is allowed
  pub best_allowed : (j : ℕ) → j < length left → Path (Allowed l.limit left right) (way_to (parent_of l left right cut) j) j
  best_allowed j h =
      path_weaken (Chosen l left right own) (Allowed l.limit left right) j (λ i k c. c.high) (λ i k m c. (c.high, c.passed)) (way_to (parent_of l left right cut) j) (best_chosen j h)

  -- and it has the table's score
  pub best_attained : (j : ℕ) → j < length left → path_score l left right cut (way_to (parent_of l left right cut) j) ≡ own j
  unfolding path_score score_from
  best_attained j h = go (suc j) j (le_refl (suc j)) h
    where
      parent : ℕ → ℕ
      parent = parent_of l left right cut

      go : (n k : ℕ) → k < n → k < length left → path_score l left right cut (way_to (parent_of l left right cut) k) ≡ own k
      go zero k a g = absurd (omega arith)
      go (suc n) zero a g = rw (way_first (parent_of l left right cut)) (sym (best-first l left right cut))
      go (suc n) (suc k) a g =
          let i = parent_of l left right cut (suc k) in
          let b : i < suc k = parent_below ok (suc k) (omega arith) g in
          ap (path_score l left right cut) (way_step (parent_of l left right cut) (suc k) (omega arith) (λ m u v. parent_below ok m u (omega arith)))
          ∙ path_score-more (Allowed l.limit left right) l left right cut (way_to (parent_of l left right cut) i) i (suc k) (best_allowed i (omega arith))
          ∙ ap (λ (s : Score). step l left right cut s i (suc k)) (go n i (omega arith) (omega arith)) ∙ sym (best-step ok (suc k) (omega arith) g)

  -- one step keeps the order of the table's score and any other
  step_keeps : (s : Score) (i j : ℕ) → i < length left → j < length left → T (at_most (own i) s) → T (at_most (step l left right cut (own i) i j) (step l left right cut s i j))
  step_keeps s i j h g a =
      let bound = piece_bounded ok.candidates i j g in
      cut_at-keeps ok.costs j g (arrival l left right own j i) (with_piece l s (piece_length left right i j))
      (piece_nonneg ok.preferred (own i) (piece_length left right i j) bound (best-nonneg ok i h))
      (piece_keeps ok.preferred (own i) s (piece_length left right i j) bound (best-nonneg ok i h) a)

  run-best : (s : Score) (i : ℕ) (rest : List ℕ) (last : ℕ) → last < length left → Onward (Allowed l.limit left right) i rest last → T (at_most (own i) s)
      → T (at_most (own last) (score_from l left right cut s i rest))
  unfolding score_from
  run-best s i [] last h e a = rw (← e) a
  run-best s i (j ∷ rest) last h (p, r) a =
      let up = onward_rises (Allowed l.limit left right) (λ m n q. q.0) j rest last r in
      let lower = p.0 in
      run-best (step l left right cut s i j) j rest last h r
      (at_most_trans (own j) (step l left right cut (own i) i j) (step l left right cut s i j) (best_least ok i j p (omega arith))
      (step_keeps s i j (omega arith) (omega arith) a))

  -- no allowed path to candidate j scores less than the table
  pub best_below : (path : List ℕ) (j : ℕ) → j < length left → Path (Allowed l.limit left right) path j → T (at_most (own j) (path_score l left right cut path))
  unfolding path_score
  best_below [] j h p = absurd p
  best_below (i ∷ rest) j h (e, r) =
      run-best no_score i rest j h r
      (rw (e, best-first l left right cut) (subst (λ (s : Score). T (at_most s s)) (best-first l left right cut) (at_most_refl (own 0) (best-nonneg ok 0 (omega (arith, ok.candidates.some))))))
