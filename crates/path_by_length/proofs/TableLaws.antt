-- Laws of the table: each best score by those before it; in the domain it is no NaN, it comes from the lowest candidate whose score is least, and no allowed piece gives a better one.
use Rattle.std.specs.Prelude.{◌≡◌, T, length, Float, Option}
use Rattle.std.proofs.Math.Path.{refl, ap}
use Rattle.std.proofs.Common.{◌∙◌}
use Rattle.std.proofs.Math.Logic.{inl, inr}
use mathlib.Core.List.{List, [], ◌∷◌}
use Prim.Native.Nat.{ℕ, zero, suc, ◌≤◌, ◌<◌}
use native.Mathlib.Omega.{arith}
use Rattle.std.proofs.Math.ListN.{get_or, length-append, get_or-append}
use Rattle.std.proofs.Math.Seq.{get_or_at}
use Rattle.path_pieces.specs.Pieces.{piece_length, no_score, with_piece, at_most, arrival, with_cut_at}
use Rattle.base_terms.specs.Floats.{nonneg}
use Rattle.base_laws.specs.Nonneg.{nought-nonneg}
use Rattle.path_pieces.specs.Domain.{Searchable}
use Rattle.path_pieces.specs.DomainLaws.{piece_bounded, piece_nonneg, cut_at-nonneg, cut_at-keeps}
use Rattle.path_pieces.specs.PiecesLaws.{over-one, cut_at-over}
use Rattle.base_laws.specs.Tests.{lt_or_le}
use Rattle.path_pieces.specs.declared.lengths.Lengths.{Lengths}
use Rattle.path_pieces.specs.declared.score.Score.{Score}
use Rattle.path_pieces.specs.declared.best.Best.{Best}
use Rattle.path_pieces.specs.Least.{found_score, predecessor_of}
use Rattle.path_rules.specs.Paths.{step, Allowed}
use Rattle.path_rules.specs.Ties.{Chosen}
use Rattle.path_by_length.specs.Table.{next_score, table_of, best_score, parent_of}
use Rattle.path_pieces.specs.PredecessorLaws.{predecessor_same, predecessor_chosen}

module _ (l : Lengths) (left right : List ℕ) (cut : List Float) where
  table_length : (n : ℕ) → length (table_of l left right cut n) ≡ n
  unfolding table_of
  table_length zero = refl
  table_length (suc n) = simp length-append (omega (arith, table_length n))

  table_at : (n k : ℕ) → k < n → get_or (table_of l left right cut n) k no_score ≡ best_score l left right cut k
  unfolding table_of best_score
  table_at zero k h = absurd (omega arith)
  table_at (suc n) k h = elim (lt_or_le k n) [
    | inl g ↦ get_or-append (table_of l left right cut n) (next_score l left right cut (λ i. get_or (table_of l left right cut n) i no_score) n ∷ []) no_score k (rw table_length g) ∙ table_at n k g
    | inr g ↦ let e : k ≡ n = omega arith in rw e
  ]

  -- the first candidate has the score of a path without pieces
  pub best-first : best_score l left right cut 0 ≡ no_score
  unfolding best_score table_of next_score
  best-first = refl

  -- the best score at a later candidate, by those before it
  pub best_next : (j : ℕ) → 0 < j → best_score l left right cut j ≡ with_cut_at cut j (found_score (predecessor_of l left right (best_score l left right cut) 0 j))
  unfolding best_score table_of next_score
  best_next zero h = absurd (omega arith)
  best_next (suc j) h =
      let t = table_of l left right cut (suc j) in
      get_or_at t (next_score l left right cut (λ i. get_or t i no_score) (suc j)) [] no_score (suc j) (table_length (suc j))
      ∙ ap (λ (f : Option Best). with_cut_at cut (suc j) (found_score f))
      (predecessor_same l left right (λ i. get_or t i no_score) (best_score l left right cut) 0 (suc j) (λ k a g. table_at (suc j) k g))

-- ---- in the domain

module _ {l : Lengths} {left right : List ℕ} {cut : List Float} (ok : Searchable l left right cut) where
  abbrev best : ℕ → Score
  best = best_score l left right cut

  -- at candidate j, where the best scores before it are no NaN
  choice : (j : ℕ) → 0 < j → j < length left → ((k : ℕ) → k < j → T (nonneg (best k).cost))
      → (found_score (predecessor_of l left right best 0 j) ≡ arrival l left right best j (parent_of l left right cut j))
      × Chosen l left right best (parent_of l left right cut j) j
  unfolding parent_of
  choice j h g p = predecessor_chosen ok.candidates ok.preferred best 0 j h g p

  arrival-nonneg : (i j : ℕ) → j < length left → T (nonneg (best i).cost) → T (nonneg (arrival l left right best j i).cost)
  arrival-nonneg i j g p = piece_nonneg ok.preferred (best i) (piece_length left right i j) (piece_bounded ok.candidates i j g) p

  nonneg-under : (n j : ℕ) → j < n → j < length left → T (nonneg (best j).cost)
  nonneg-under zero j h g = absurd (omega arith)
  nonneg-under (suc n) zero h g = rw (best-first l left right cut) nought-nonneg
  nonneg-under (suc n) (suc j) h g =
      let p : (k : ℕ) → k < suc j → T (nonneg (best k).cost) = λ k m. nonneg-under n k (omega arith) (omega arith) in
      let c = choice (suc j) (omega arith) g p in
      rw (best_next l left right cut (suc j) (omega arith), c.0)
      (cut_at-nonneg ok.costs (suc j) g (arrival l left right best (suc j) (parent_of l left right cut (suc j)))
      (arrival-nonneg (parent_of l left right cut (suc j)) (suc j) g (p (parent_of l left right cut (suc j)) c.1.high)))

  -- the best scores are no NaN
  pub best-nonneg : (j : ℕ) → j < length left → T (nonneg (best j).cost)
  best-nonneg j h = nonneg-under (suc j) j (omega arith) h

  -- the parent follows the tie rule
  pub parent_chosen : (j : ℕ) → 0 < j → j < length left → Chosen l left right best (parent_of l left right cut j) j
  parent_chosen j h g = (choice j h g (λ k m. best-nonneg k (omega arith))).1

  -- so it is an earlier candidate
  pub parent_below : (j : ℕ) → 0 < j → j < length left → parent_of l left right cut j < j
  parent_below j h g = (parent_chosen j h g).high

  -- the best score is one step from that of the parent
  pub best-step : (j : ℕ) → 0 < j → j < length left → best j ≡ step l left right cut (best (parent_of l left right cut j)) (parent_of l left right cut j) j
  best-step j h g = best_next l left right cut j h ∙ ap (with_cut_at cut j) (choice j h g (λ k m. best-nonneg k (omega arith))).0

  -- no allowed piece gives a better one
  pub best_least : (i j : ℕ) → Allowed l.limit left right i j → j < length left → T (at_most (best j) (step l left right cut (best i) i j))
  best_least i j (h, t) g =
      let p = parent_of l left right cut j in
      let c = parent_chosen j (omega arith) g in
      rw (best-step j (omega arith) g)
      (cut_at-keeps ok.costs j g (arrival l left right best j p) (arrival l left right best j i)
      (arrival-nonneg p j g (best-nonneg p (omega (arith, c.high)))) (c.least i (omega arith) h t))

  few_under : (n j : ℕ) → j < n → j < length left → (best j).over ≤ j
  unfolding with_piece
  few_under zero j h g = absurd (omega arith)
  few_under (suc n) zero h g = rw (best-first l left right cut) (omega arith)
  few_under (suc n) (suc j) h g =
      let p = parent_of l left right cut (suc j) in
      let b = parent_below (suc j) (omega arith) g in
      let r = few_under n p (omega arith) (omega arith) in
      rw (best-step (suc j) (omega arith) g, cut_at-over) (omega (arith, over-one l.limit (piece_length left right p (suc j))))

  -- there are no more pieces over the limit than pieces
  pub best_few : (j : ℕ) → j < length left → (best j).over ≤ j
  best_few j h = few_under (suc j) j (omega arith) h
