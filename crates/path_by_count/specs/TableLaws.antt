-- The table by count is the best: with each number of pieces the way back is a path of its score and follows the tie rule, and no allowed path of as many pieces scores less.
-- The argument is that of the table by length, one row after another: candidates from k on are those that k pieces reach.
use Rattle.std.specs.Prelude.{◌≡◌, T, Float, length, Option, Some, None}
use Rattle.std.proofs.Math.Path.{refl, sym, ap}
use Rattle.std.proofs.Common.{◌∙◌}
use Rattle.std.proofs.Math.Logic.{inl, inr}
use mathlib.Core.List.{List, [], ◌∷◌, ◌++◌}
use Prim.Native.Nat.{ℕ, zero, suc, ◌+◌, ◌-◌, ◌≤◌, ◌<◌}
use native.Mathlib.Omega.{arith}
use Rattle.std.proofs.Math.ListN.{length-append}
use Rattle.base_terms.specs.Floats.{nonneg}
use Rattle.base_laws.specs.Nonneg.{nought-nonneg}
use Rattle.path_pieces.specs.Pieces.{piece_length, no_score, with_piece, at_most, arrival, with_cut_at, may_start}
use Rattle.path_pieces.specs.Domain.{Searchable}
use Rattle.path_pieces.specs.DomainLaws.{at_most_refl, at_most_trans, piece_bounded, piece_nonneg, piece_keeps, cut_at-nonneg, cut_at-keeps}
use Rattle.path_pieces.specs.declared.lengths.Lengths.{Lengths}
use Rattle.path_pieces.specs.declared.score.Score.{Score}
use Rattle.path_pieces.specs.declared.best.Best.{Best}
use Rattle.path_pieces.specs.Least.{found_score, LowestLeast, Answers, predecessor_of}
use Rattle.path_pieces.specs.LeastLaws.{least_answers}
use Rattle.path_rules.specs.Paths.{AllowedByCount, PathWith, Onward, Path, step, score_from, path_score}
use Rattle.path_rules.specs.PathsLaws.{path-more, onward_rises, path_score-more}
use Rattle.path_rules.specs.Ties.{ChosenByCount, TiePath}
use Rattle.path_rules.specs.TiesByCountLaws.{tie_more}
use Rattle.path_pieces.specs.PredecessorLaws.{predecessor_nothing, predecessor_chosen}
use Rattle.base_laws.specs.Tests.{lt_or_le}
use Rattle.path_by_count.specs.Table.{best_with, parent_with, way_with}

-- k pieces reach the candidates from k on, and none only the first
abbrev pub CanReach : ℕ → ℕ → Type 0
CanReach k j = (k ≤ j) × (k ≡ 0 → j ≡ 0)

-- ---- the table

module _ {l : Lengths} {left right : List ℕ} {cut : List Float} (ok : Searchable l left right cut) where
  abbrev own : ℕ → ℕ → Score
  own = best_with l left right cut

  abbrev parent : ℕ → ℕ → ℕ
  parent = parent_with l left right cut

  -- ---- the rows are no NaN

  answers : (k j : ℕ) → j < length left → k ≤ j → ((i : ℕ) → i < length left → T (nonneg (own k i).cost))
      → Answers (may_start l.limit left right j) (arrival l left right (own k) j) k j (predecessor_of l left right (own k) k j)
  unfolding predecessor_of
  answers k j g h p =
      least_answers (may_start l.limit left right j) (arrival l left right (own k) j) j
      (λ i m t. piece_nonneg ok.preferred (own k i) (piece_length left right i j) (piece_bounded ok.candidates i j g) (p i (omega arith))) k h

  found-nonneg : (k j : ℕ) → j < length left → ((i : ℕ) → i < length left → T (nonneg (own k i).cost)) → (f : Option Best)
      → Answers (may_start l.limit left right j) (arrival l left right (own k) j) k j f → T (nonneg (found_score f).cost)
  found-nonneg k j g p None a = nought-nonneg
  found-nonneg k j g p (Some b) (e, a) =
      rw e (piece_nonneg ok.preferred (own k b.at) (piece_length left right b.at j) (piece_bounded ok.candidates b.at j g) (p b.at (omega (arith, a.high))))

  -- the best scores by count are no NaN
  pub with-nonneg : (k j : ℕ) → j < length left → T (nonneg (own k j).cost)
  unfolding best_with
  with-nonneg zero j g = nought-nonneg
  with-nonneg (suc zero) j g =
      cut_at-nonneg ok.costs j g (with_piece l no_score (piece_length left right 0 j))
      (piece_nonneg ok.preferred no_score (piece_length left right 0 j) (piece_bounded ok.candidates 0 j g) nought-nonneg)
  with-nonneg (suc (suc k)) j g =
      let f = predecessor_of l left right (own (suc k)) (suc k) j in
      cut_at-nonneg ok.costs j g (found_score f) (elim (lt_or_le j (suc k)) [
        | inl h ↦ rw (← predecessor_nothing l left right (own (suc k)) (suc k) j ok.candidates g (omega arith)) nought-nonneg
        | inr h ↦ found-nonneg (suc k) j g (with-nonneg (suc k)) f (answers (suc k) j g h (with-nonneg (suc k)))
      ])

  -- ---- one row by the row before

  choice : (k j : ℕ) → suc k < j → j < length left
      → (found_score (predecessor_of l left right (own (suc k)) (suc k) j) ≡ arrival l left right (own (suc k)) j (parent (suc (suc k)) j))
      × LowestLeast (may_start l.limit left right j) (arrival l left right (own (suc k)) j) (suc k) j (parent (suc (suc k)) j)
  unfolding parent_with
  choice k j h g =
      predecessor_chosen ok.candidates ok.preferred (own (suc k)) (suc k) j h g (λ i m. with-nonneg (suc k) i (omega arith))

  -- the parent is reached with one piece fewer
  pub parent-reached : (k j : ℕ) → suc k ≤ j → j < length left → CanReach k (parent (suc k) j)
  unfolding parent_with
  parent-reached zero j h g = (omega arith, λ e. refl)
  parent-reached (suc k) j h g = ((choice k j h g).1.low, λ e. absurd (omega arith))

  -- its piece is allowed
  pub parent_allowed : (k j : ℕ) → suc k ≤ j → j < length left → AllowedByCount l.limit left right (parent (suc k) j) j
  unfolding parent_with
  parent_allowed zero j h g = (h, inl refl)
  parent_allowed (suc k) j h g = let c = (choice k j h g).1 in (c.high, inr c.passed)

  -- and chosen by the tie rule
  pub parent_tie : (k j : ℕ) → suc k ≤ j → j < length left → ChosenByCount l left right own k (parent (suc k) j) j
  unfolding parent_with
  parent_tie zero j h g = refl
  parent_tie (suc k) j h g = (choice k j h g).1

  -- the best score is one step from the parent's
  pub with-step : (k j : ℕ) → suc k ≤ j → j < length left → own (suc k) j ≡ step l left right cut (own k (parent (suc k) j)) (parent (suc k) j) j
  unfolding best_with parent_with
  with-step zero j h g = refl
  with-step (suc k) j h g = ap (with_cut_at cut j) (choice k j h g).0

  -- no allowed piece gives a better one
  pub with_least : (k i j : ℕ) → 0 < k → k ≤ i → AllowedByCount l.limit left right i j → j < length left
      → T (at_most (own (suc k) j) (step l left right cut (own k i) i j))
  with_least zero i j z h a g = absurd (omega arith)
  with_least (suc k) i j z h (m, inl e) g = absurd (omega arith)
  with_least (suc k) i j z h (m, inr t) g =
      let p = parent (suc (suc k)) j in
      let c = (choice k j (omega arith) g).1 in
      rw (with-step (suc k) j (omega arith) g)
      (cut_at-keeps ok.costs j g (arrival l left right (own (suc k)) j p) (arrival l left right (own (suc k)) j i)
      (piece_nonneg ok.preferred (own (suc k) p) (piece_length left right p j) (piece_bounded ok.candidates p j g) (with-nonneg (suc k) p (omega (arith, c.high))))
      (c.least i h m t))

  -- ---- the path

  way_with-length : (k j : ℕ) → length (way_with l left right cut k j) ≡ suc k
  unfolding way_with
  way_with-length zero j = refl
  way_with-length (suc k) j = simp length-append (omega (arith, way_with-length k (parent (suc k) j)))

  way_with-path : (k j : ℕ) → CanReach k j → j < length left → Path (AllowedByCount l.limit left right) (way_with l left right cut k j) j
  unfolding way_with
  way_with-path zero j (h, z) g = (z refl, refl)
  way_with-path (suc k) j (h, z) g =
      let a = parent_allowed k j h g in
      path-more (AllowedByCount l.limit left right) (way_with l left right cut k (parent (suc k) j)) (parent (suc k) j) j
      (way_with-path k (parent (suc k) j) (parent-reached k j h g) (omega (arith, a.0))) a

  -- it is an allowed path of k pieces
  pub with_allowed : (k j : ℕ) → CanReach k j → j < length left → PathWith l.limit left right k j (way_with l left right cut k j)
  with_allowed k j r g = (way_with-path k j r g, way_with-length k j)

  -- of the table's score
  pub with_attained : (k j : ℕ) → CanReach k j → j < length left → path_score l left right cut (way_with l left right cut k j) ≡ own k j
  unfolding way_with best_with path_score score_from
  with_attained zero j r g = refl
  with_attained (suc k) j (h, z) g =
      let p = parent (suc k) j in
      let a = parent_allowed k j h g in
      let r = parent-reached k j h g in
      path_score-more (AllowedByCount l.limit left right) l left right cut (way_with l left right cut k p) p j (way_with-path k p r (omega (arith, a.0)))
      ∙ ap (λ (s : Score). step l left right cut s p j) (with_attained k p r (omega (arith, a.0))) ∙ sym (with-step k j h g)

  -- ---- no path of as many pieces scores less

  step_keeps : (s : Score) (k i j : ℕ) → i < length left → j < length left → T (at_most (own k i) s) → T (at_most (step l left right cut (own k i) i j) (step l left right cut s i j))
  step_keeps s k i j h g a =
      let bound = piece_bounded ok.candidates i j g in
      cut_at-keeps ok.costs j g (arrival l left right (own k) j i) (with_piece l s (piece_length left right i j))
      (piece_nonneg ok.preferred (own k i) (piece_length left right i j) bound (with-nonneg k i h))
      (piece_keeps ok.preferred (own k i) s (piece_length left right i j) bound (with-nonneg k i h) a)

  run-with : (s : Score) (k i : ℕ) (rest : List ℕ) (m last : ℕ) → k + length rest ≡ m → 0 < k → k ≤ i → last < length left
      → Onward (AllowedByCount l.limit left right) i rest last → T (at_most (own k i) s) → T (at_most (own m last) (score_from l left right cut s i rest))
  unfolding score_from
  run-with s k i [] m last e z h g r a = let q : m ≡ k = omega arith in rw (q, ← r) a
  run-with s k i (j ∷ rest) m last e z h g (p, r) a =
      let up = onward_rises (AllowedByCount l.limit left right) (λ u v q. q.0) j rest last r in
      let lower = p.0 in
      run-with (step l left right cut s i j) (suc k) j rest m last (omega arith) (omega arith) (omega arith) g r
      (at_most_trans (own (suc k) j) (step l left right cut (own k i) i j) (step l left right cut s i j) (with_least k i j z h p (omega arith))
      (step_keeps s k i j (omega arith) (omega arith) a))

  -- the table's score is at most the score of every allowed path of k pieces
  pub with_below : (path : List ℕ) (k j : ℕ) → 0 < k → j < length left → PathWith l.limit left right k j path → T (at_most (own k j) (path_score l left right cut path))
  unfolding path_score score_from best_with
  with_below [] k j z g (p, n) = absurd p
  with_below (i ∷ []) k j z g ((e, r), n) = absurd (omega arith)
  with_below (i ∷ b ∷ rest) k j z g ((e, (p, r)), n) =
      let up = onward_rises (AllowedByCount l.limit left right) (λ u v q. q.0) b rest j r in
      let lower = p.0 in
      run-with (step l left right cut no_score i b) 1 b rest k j (omega arith) (omega arith) (omega arith) g r
      (rw e (at_most_refl (own 1 b) (with-nonneg 1 b (omega arith))))

  -- ---- it follows the tie rule

  -- the way back follows the tie rule by the table's own best scores
  pub with_tie : (k j : ℕ) → CanReach k j → j < length left → TiePath l left right own (way_with l left right cut k j) j
  unfolding way_with
  with_tie zero j (h, z) g = (z refl, refl)
  with_tie (suc k) j (h, z) g =
      let p = parent (suc k) j in
      let a = parent_allowed k j h g in
      tie_more l left right own k (way_with l left right cut k p) p j (way_with-length k p) (with_tie k p (parent-reached k j h g) (omega (arith, a.0))) (parent_tie k j h g)
