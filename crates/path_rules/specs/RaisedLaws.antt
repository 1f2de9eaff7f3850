-- Document 02's S-12 in its steps. Under a longer limit an allowed path stays allowed, and its over-long pieces do not grow; what it costs does not look at the limit.
-- So the best path is no worse, by length and by count.
use Rattle.std.specs.Prelude.{◌≡◌, ℕ, suc, ◌≤◌, T, ltb, eqb, Float, length, get_or, ◌&&◌}
use Rattle.std.proofs.Math.Path.{refl}
use Rattle.std.proofs.Common.{ap, le_antisymm, lt→ltb}
use Rattle.std.proofs.Math.Logic.{inl, inr}
use mathlib.Core.List.{List, [], ◌∷◌}
use native.Mathlib.Omega.{arith}
use Rattle.std.specs.Float.{nan}
use Rattle.std.specs.Float.Ieee.{binary64, add, le}
use Rattle.base_laws.specs.Tests.{tested, lt_or_le, or_l}
use Rattle.path_pieces.specs.Pieces.{with_limit, piece_length, no_score, length_cost_of, with_piece, with_cut, with_cut_at, at_most}
use Rattle.path_pieces.specs.PiecesLaws.{over_raised, start_raised}
use Rattle.path_pieces.specs.DomainLaws.{at_most_trans}
use Rattle.path_pieces.specs.declared.lengths.Lengths.{Lengths}
use Rattle.path_pieces.specs.declared.score.Score.{Score}
use Rattle.path_rules.specs.Paths.{Allowed, AllowedByCount, last_candidate, PathByLength, PathByCount, over_from, over_count, step, score_from, path_score}
use Rattle.path_rules.specs.PathsLaws.{path_weaken, over_count_lem}
use Rattle.path_rules.specs.BestPath.{BestPathByLength, BestPathByCount}
use Rattle.path_rules.specs.Raised.{NoWorsePath}

-- ---- one path under both limits

module _ (low high : ℕ) (up : low ≤ high) (left right : List ℕ) where
  -- an allowed path stays allowed: by length
  pub allowed_raised : (path : List ℕ) → PathByLength low left right path → PathByLength high left right path
  allowed_raised path p =
      path_weaken (Allowed low left right) (Allowed high left right) (last_candidate left) (λ i j a. a.0)
      (λ i j h a. (a.0, start_raised low high up left right j i a.1)) path p

  -- and by count, where the first piece may have any length under either
  pub allowed_raised_by_count : (count : ℕ) (path : List ℕ) → PathByCount count low left right path → PathByCount count high left right path
  allowed_raised_by_count count path (p, n) = (
    path_weaken (AllowedByCount low left right) (AllowedByCount high left right) (last_candidate left) (λ i j a. a.0)
        (λ i j h a. (a.0, elim a.1 [ inl e ↦ inl e | inr t ↦ inr (start_raised low high up left right j i t) ])) path p,
    n,
  )

  over_from_raised : (i : ℕ) (rest : List ℕ) → over_from high left right i rest ≤ over_from low left right i rest
  unfolding over_from
  over_from_raised i [] = omega arith
  over_from_raised i (j ∷ rest) = omega (arith, over_raised low high up (piece_length left right i j), over_from_raised j rest)

  -- a path's over-long pieces do not grow
  pub over_count_raised : (path : List ℕ) → over_count high left right path ≤ over_count low left right path
  unfolding over_count
  over_count_raised [] = omega arith
  over_count_raised (i ∷ rest) = over_from_raised i rest

module _ (l : Lengths) (left right : List ℕ) (cut : List Float) where
  module _ (one other : ℕ) where
    cut_cost_lem : (j : ℕ) (s t : Score) → s.cost ≡ t.cost → (with_cut_at cut j s).cost ≡ (with_cut_at cut j t).cost
    unfolding with_cut_at with_cut
    cut_cost_lem j s t e = elim (tested (ltb (suc j) (length cut))) [
      | inl h ↦ rw h (ap (λ (x : Float). add binary64 x (get_or cut j nan)) e)
      | inr h ↦ rw h e
    ]

    step_cost : (s t : Score) (i j : ℕ) → s.cost ≡ t.cost → (step (with_limit l one) left right cut s i j).cost ≡ (step (with_limit l other) left right cut t i j).cost
    unfolding with_piece length_cost_of
    step_cost s t i j e =
        let len = piece_length left right i j in
        cut_cost_lem j (with_piece (with_limit l one) s len) (with_piece (with_limit l other) t len) (ap (λ (x : Float). add binary64 x (length_cost_of l len)) e)

    from_cost : (s t : Score) (i : ℕ) (rest : List ℕ) → s.cost ≡ t.cost
        → (score_from (with_limit l one) left right cut s i rest).cost ≡ (score_from (with_limit l other) left right cut t i rest).cost
    unfolding score_from
    from_cost s t i [] e = e
    from_cost s t i (j ∷ rest) e =
        from_cost (step (with_limit l one) left right cut s i j) (step (with_limit l other) left right cut t i j) j rest (step_cost s t i j e)

    -- what a path costs does not look at the limit
    pub cost_any_limit : (path : List ℕ) → (path_score (with_limit l one) left right cut path).cost ≡ (path_score (with_limit l other) left right cut path).cost
    unfolding path_score
    cost_any_limit [] = refl
    cost_any_limit (i ∷ rest) = from_cost no_score no_score i rest refl

  -- ---- two paths

  module _ (low high : ℕ) (up : low ≤ high) where
    -- a path's score before the limit is raised, and after
    abbrev before : List ℕ → Score
    before path = path_score (with_limit l low) left right cut path

    abbrev after : List ℕ → Score
    after path = path_score (with_limit l high) left right cut path

    -- a path whose score is at most itself scores no more under the longer limit
    same_path : (path : List ℕ) → T (at_most (before path) (before path)) → T (at_most (after path) (before path))
    same_path path t =
        lowered (after path) (before path)
        (rw (over_count_lem (with_limit l high) left right cut path, over_count_lem (with_limit l low) left right cut path) (over_count_raised low high up left right path))
        (cost_any_limit high low path) t
      where
        lowered : (a b : Score) → a.over ≤ b.over → a.cost ≡ b.cost → T (at_most b b) → T (at_most a b)
        lowered a b h e t = elim (lt_or_le a.over b.over) [
          | inl fewer ↦ or_l (ltb a.over b.over) (eqb a.over b.over && le a.cost b.cost) (lt→ltb a.over b.over fewer)
          | inr g ↦ let q : a.over ≡ b.over = le_antisymm h g in rw (e, q) t
        ]

    -- so a path that is at most it under the longer limit scores no more there than it did
    raised : (path path' : List ℕ) → T (at_most (before path) (before path)) → T (at_most (after path') (after path)) → T (at_most (after path') (before path))
    raised path path' t best = at_most_trans (after path') (after path) (before path) best (same_path path t)

    -- the best path is no worse: by length
    pub best_raised : (path path' : List ℕ) → BestPathByLength (with_limit l low) left right cut path → BestPathByLength (with_limit l high) left right cut path'
        → NoWorsePath l low high left right cut path path'
    best_raised path path' b b' = raised path path' (b.least path b.allowed) (b'.least path (allowed_raised low high up left right path b.allowed))

    -- and by count
    pub best_raised_by_count : (count : ℕ) (path path' : List ℕ) → BestPathByCount (with_limit l low) left right cut count path
        → BestPathByCount (with_limit l high) left right cut count path' → NoWorsePath l low high left right cut path path'
    best_raised_by_count count path path' b b' =
        raised path path' (b.least path b.allowed) (b'.least path (allowed_raised_by_count low high up left right count path b.allowed))
