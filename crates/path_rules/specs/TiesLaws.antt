-- The tie rule determines the path: a candidate has one lowest least predecessor, and own best scores are equal however they are worked out.
-- So a path that follows the rule by some own best scores follows it by all, and there is only one.
use Rattle.std.specs.Prelude.{◌≡◌, refl, ℕ, zero, suc, ◌≤◌, ◌<◌, T, Float, length}
use Rattle.std.proofs.Common.{sym, ap, subst, ◌∙◌, le_refl, arith}
use mathlib.Core.List.{List, [], ◌∷◌, ◌++◌, append_assoc}
use Rattle.base_terms.specs.Floats.{nonneg}
use Rattle.base_laws.specs.Nonneg.{nought-nonneg}
use Rattle.path_pieces.specs.Pieces.{piece_length, no_score, with_piece, at_most, arrival}
use Rattle.path_pieces.specs.Domain.{Searchable}
use Rattle.path_pieces.specs.DomainLaws.{piece_bounded, piece_nonneg, piece_keeps, cut_at-nonneg}
use Rattle.path_pieces.specs.declared.lengths.Lengths.{Lengths}
use Rattle.path_pieces.specs.declared.score.Score.{Score}
use Rattle.path_pieces.specs.LeastLaws.{lowest_unique, lowest_same}
use Rattle.path_rules.specs.Paths.{Allowed, Onward, Path, last_candidate, step, score_from, path_score}
use Rattle.path_rules.specs.PathsLaws.{path-more, onward_rises}
use Rattle.path_rules.specs.Ties.{OwnBest, Chosen, TieRule}

-- ---- one path

-- a path of at least one piece, taken apart at its last piece
record Split (rule : ℕ → ℕ → Type 0) (path : List ℕ) (last : ℕ) : Type 0 where
  before : List ℕ
  start : ℕ
  shorter : Path rule before start
  piece : rule start last
  joined : path ≡ before ++ (last ∷ [])

module _ (rule : ℕ → ℕ → Type 0) (rises : (i j : ℕ) → rule i j → i < j) where
  split_run : (i : ℕ) (front rest : List ℕ) (last : ℕ) → Path rule front i → i < last → Onward rule i rest last → Split rule (front ++ rest) last
  split_run i front [] last p h e = absurd (omega arith)
  split_run i front (j ∷ []) last p h (r, e) =
      record { before = front; start = i; shorter = p; piece = subst (λ (n : ℕ). rule i n) e r; joined = ap (λ (n : ℕ). front ++ (n ∷ [])) e }
  split_run i front (j ∷ k ∷ rest) last p h (r, q) =
      let up = onward_rises rule rises k rest last q.1 in
      let a = rises j k q.0 in
      subst (λ (path : List ℕ). Split rule path last) (append_assoc front (j ∷ []) (k ∷ rest))
      (split_run j (front ++ (j ∷ [])) (k ∷ rest) last (path-more rule front i j p r) (omega arith) q)

  path_split : (path : List ℕ) (last : ℕ) → 0 < last → Path rule path last → Split rule path last
  path_split [] last h p = absurd p
  path_split (i ∷ rest) last h (e, r) = split_run i (i ∷ []) rest last (e, refl) (omega arith) r

  -- a path to the first candidate has no piece
  path_still : (path : List ℕ) → Path rule path 0 → path ≡ 0 ∷ []
  path_still [] p = absurd p
  path_still (i ∷ []) (e, r) = ap (λ (n : ℕ). n ∷ []) e
  path_still (i ∷ j ∷ rest) (e, (r, q)) = let a = rises i j r in let b = onward_rises rule rises j rest 0 q in absurd (omega arith)

  -- where a piece's end determines its start, the last candidate determines the path
  pub path_unique : (last : ℕ) → ((i k j : ℕ) → j ≤ last → rule i j → rule k j → i ≡ k) → (path other : List ℕ) → Path rule path last → Path rule other last → path ≡ other
  path_unique last u path other p q = go (suc last) last (le_refl (suc last)) (le_refl last) path other p q
    where
      go : (n m : ℕ) → m < n → m ≤ last → (path other : List ℕ) → Path rule path m → Path rule other m → path ≡ other
      go zero m h g path other p q = absurd (omega arith)
      go (suc n) zero h g path other p q = path_still path p ∙ sym (path_still other q)
      go (suc n) (suc m) h g path other p q =
          let a = path_split path (suc m) (omega arith) p in
          let b = path_split other (suc m) (omega arith) q in
          let e : a.start ≡ b.start = u a.start b.start (suc m) g a.piece b.piece in
          let l = rises a.start (suc m) a.piece in
          let s : Path rule b.before a.start = rw e b.shorter in
          a.joined ∙ ap (λ (f : List ℕ). f ++ (suc m ∷ [])) (go n a.start (omega arith) (omega arith) a.before b.before a.shorter s) ∙ sym b.joined

-- ---- own best scores

module _ {l : Lengths} {left right : List ℕ} {cut : List Float} (ok : Searchable l left right cut) where
  module _ (rule : ℕ → ℕ → Type 0) (rises : (i j : ℕ) → rule i j → i < j) where
    run-nonneg : (s : Score) (i : ℕ) (rest : List ℕ) (last : ℕ) → last < length left → Onward rule i rest last → T (nonneg s.cost)
        → T (nonneg (score_from l left right cut s i rest).cost)
    unfolding score_from
    run-nonneg s i [] last h e p = p
    run-nonneg s i (j ∷ rest) last h (r, q) p =
        let up = onward_rises rule rises j rest last q in
        run-nonneg (step l left right cut s i j) j rest last h q
        (cut_at-nonneg ok.costs j (omega arith) (with_piece l s (piece_length left right i j))
        (piece_nonneg ok.preferred s (piece_length left right i j) (piece_bounded ok.candidates i j (omega arith)) p))

    -- the score of a path by a rule that rises is no NaN
    pub path-nonneg : (path : List ℕ) (j : ℕ) → j < length left → Path rule path j → T (nonneg (path_score l left right cut path).cost)
    unfolding path_score
    path-nonneg [] j h p = absurd p
    path-nonneg (i ∷ rest) j h (e, r) = run-nonneg no_score i rest j h r nought-nonneg

  module _ {own : ℕ → Score} (best : OwnBest l left right cut own) where
    own-nonneg : (j : ℕ) → j < length left → T (nonneg (own j).cost)
    own-nonneg j h = rw (← best.attained j h) (path-nonneg (Allowed l.limit left right) (λ i k a. a.0) (best.path j) j h (best.allowed j h))

    arrival_fine : (i j : ℕ) → i < j → j < length left → T (nonneg (arrival l left right own j i).cost)
    arrival_fine i j h g = piece_nonneg ok.preferred (own i) (piece_length left right i j) (piece_bounded ok.candidates i j g) (own-nonneg i (omega arith))

    -- the tie rule leaves one path
    pub tie_unique : (path other : List ℕ) → TieRule l left right own path → TieRule l left right own other → path ≡ other
    tie_unique path other p q =
        path_unique (Chosen l left right own) (λ i j c. c.high) (last_candidate left)
        (λ i k j h a b.
        let g : j < length left = omega (arith, ok.candidates.some) in
        lowest_unique i k (arrival_fine i j a.high g) (arrival_fine k j b.high g) a b) path other p q

    module _ {own' : ℕ → Score} (best' : OwnBest l left right cut own') where
      -- an own best score is at most any other, so that two are equal
      own_at_most : (j : ℕ) → j < length left → T (at_most (own j) (own' j))
      own_at_most j h = rw (← best'.attained j h) (best.least j (best'.path j) h (best'.allowed j h))

      arrival_at_most : (i j : ℕ) → i < j → j < length left → T (at_most (arrival l left right own j i) (arrival l left right own' j i))
      arrival_at_most i j h g =
          piece_keeps ok.preferred (own i) (own' i) (piece_length left right i j) (piece_bounded ok.candidates i j g) (own-nonneg i (omega arith)) (own_at_most i (omega arith))

  module _ {own own' : ℕ → Score} (best : OwnBest l left right cut own) (best' : OwnBest l left right cut own') where
    -- so they choose the same
    pub chosen_same : (i j : ℕ) → j < length left → Chosen l left right own i j → Chosen l left right own' i j
    chosen_same i j g c = lowest_same (λ k h m. arrival_at_most best best' k j m g) (λ k h m. arrival_at_most best' best k j m g) c
