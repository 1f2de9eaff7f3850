-- Laws of paths and of their scores: one more piece at the end of a path is one more step of its score, a path by a rule is one by a weaker rule, a path
-- whose pieces rise has no more candidates than there are, and the score counts the pieces over the limit.
use Rattle.std.specs.Prelude.{◌≡◌, ℕ, suc, ◌+◌, ◌≤◌, ◌<◌, Float, length}
use Rattle.std.proofs.Math.Path.{refl, ap}
use Rattle.std.proofs.Common.{sym, subst, le_of_eq}
use mathlib.Core.List.{List, [], ◌∷◌, ◌++◌}
use native.Mathlib.Omega.{arith}
use Rattle.path_pieces.specs.Pieces.{piece_length, over_of, no_score, with_piece}
use Rattle.path_pieces.specs.PiecesLaws.{cut_at-over}
use Rattle.path_pieces.specs.declared.lengths.Lengths.{Lengths}
use Rattle.path_pieces.specs.declared.score.Score.{Score}
use Rattle.path_rules.specs.Paths.{Onward, Path, last_candidate, over_from, over_count, step, score_from, path_score}

-- ---- one more piece at the end

module _ (rule : ℕ → ℕ → Type 0) where
  run_more : (a : ℕ) (rest : List ℕ) (i j : ℕ) → Onward rule a rest i → rule i j → Onward rule a (rest ++ (j ∷ [])) j
  run_more a [] i j e p = (subst (λ (n : ℕ). rule n j) (sym e) p, refl)
  run_more a (b ∷ rest) i j (q, r) p = (q, run_more b rest i j r p)

  -- a path and an allowed piece are a path
  pub path-more : (path : List ℕ) (i j : ℕ) → Path rule path i → rule i j → Path rule (path ++ (j ∷ [])) j
  path-more [] i j a p = absurd a
  path-more (b ∷ rest) i j (e, r) p = (e, run_more b rest i j r p)

  module _ (l : Lengths) (left right : List ℕ) (cut : List Float) where
    score-more : (s : Score) (a : ℕ) (rest : List ℕ) (i j : ℕ) → Onward rule a rest i
        → score_from l left right cut s a (rest ++ (j ∷ [])) ≡ step l left right cut (score_from l left right cut s a rest) i j
    unfolding score_from
    score-more s a [] i j e = ap (λ (n : ℕ). step l left right cut s n j) e
    score-more s a (b ∷ rest) i j (q, r) = score-more (step l left right cut s a b) b rest i j r

    -- and its score is one more step
    pub path_score-more : (path : List ℕ) (i j : ℕ) → Path rule path i
        → path_score l left right cut (path ++ (j ∷ [])) ≡ step l left right cut (path_score l left right cut path) i j
    unfolding path_score
    path_score-more [] i j a = absurd a
    path_score-more (b ∷ rest) i j (e, r) = score-more no_score b rest i j r

-- ---- rules that rise

-- a run of rising pieces ends no lower than it starts
pub onward_rises : (rule : ℕ → ℕ → Type 0) → ((i j : ℕ) → rule i j → i < j) → (i : ℕ) (rest : List ℕ) (last : ℕ) → Onward rule i rest last → i ≤ last
onward_rises rule w i [] last e = le_of_eq e
onward_rises rule w i (j ∷ rest) last (p, r) = let a = w i j p in let b = onward_rises rule w j rest last r in omega arith

-- a path by a rule is a path by a weaker one
pub path_weaken : (rule rule' : ℕ → ℕ → Type 0) (last : ℕ) → ((i j : ℕ) → rule i j → i < j) → ((i j : ℕ) → j ≤ last → rule i j → rule' i j) → (path : List ℕ)
    → Path rule path last → Path rule' path last
path_weaken rule rule' last rises w [] p = p
path_weaken rule rule' last rises w (i ∷ rest) (e, r) = (e, go i rest r)
  where
    go : (i : ℕ) (rest : List ℕ) → Onward rule i rest last → Onward rule' i rest last
    go i [] e = e
    go i (j ∷ rest) (p, r) = (w i j (onward_rises rule rises j rest last r) p, go j rest r)

-- a path whose pieces rise has a candidate at least, and no more than there are
pub path_few : (rule : ℕ → ℕ → Type 0) → ((i j : ℕ) → rule i j → i < j) → (last : ℕ) (path : List ℕ) → Path rule path last → (0 < length path) × (length path ≤ suc last)
path_few rule rising last [] p = absurd p
path_few rule rising last (i ∷ rest) (e, o) = (omega arith, omega (arith, go i rest o))
  where
    go : (i : ℕ) (rest : List ℕ) → Onward rule i rest last → length rest + i ≤ last
    go i [] e = omega (arith, e)
    go i (j ∷ rest) (p, o) = omega (arith, rising i j p, go j rest o)

-- so one to the last candidate has at most as many candidates as there are
pub candidates_few : (rule : ℕ → ℕ → Type 0) → ((i j : ℕ) → rule i j → i < j) → (left path : List ℕ) → 0 < length left → Path rule path (last_candidate left)
    → length path ≤ length left
candidates_few rule rising left path some p = omega (arith, some, (path_few rule rising (last_candidate left) path p).1)

-- ---- the pieces over the limit

module _ (l : Lengths) (left right : List ℕ) (cut : List Float) where
  over_from_lem : (s : Score) (i : ℕ) (rest : List ℕ) → (score_from l left right cut s i rest).over ≡ s.over + over_from l.limit left right i rest
  unfolding score_from over_from with_piece
  over_from_lem s i [] = omega arith
  over_from_lem s i (j ∷ rest) =
      let next = step l left right cut s i j in
      let e : next.over ≡ s.over + over_of l.limit (piece_length left right i j) = cut_at-over cut j (with_piece l s (piece_length left right i j)) in
      omega (arith, over_from_lem next j rest, e)

  -- a path's score counts them
  pub over_count_lem : (path : List ℕ) → (path_score l left right cut path).over ≡ over_count l.limit left right path
  unfolding path_score over_count
  over_count_lem [] = refl
  over_count_lem (i ∷ rest) = omega (arith, over_from_lem no_score i rest)
