-- The tie rule by count determines the path among those of as many pieces: the argument is that of TiesLaws, with a number of pieces for each candidate.
use Rattle.std.specs.Prelude.{◌≡◌, refl, List, [], ◌∷◌, ◌++◌, ℕ, zero, suc, ◌+◌, ◌≤◌, ◌<◌, T, Float, length}
use Rattle.std.proofs.Common.{sym, ap, subst, ◌∙◌, append_assoc, le_of_eq, arith, length-append}
use Rattle.path_pieces.specs.LeastLaws.{lowest_unique, lowest_same}
use Rattle.base_terms.specs.Floats.{nonneg}
use Rattle.path_pieces.specs.Pieces.{piece_length, at_most, arrival}
use Rattle.path_pieces.specs.Domain.{Searchable}
use Rattle.path_pieces.specs.DomainLaws.{piece_bounded, piece_nonneg, piece_keeps}
use Rattle.path_pieces.specs.declared.lengths.Lengths.{Lengths}
use Rattle.path_pieces.specs.declared.score.Score.{Score}
use Rattle.path_rules.specs.Paths.{AllowedByCount}
use Rattle.path_rules.specs.Ties.{OwnBestByCount, ChosenByCount, TieOnward, TiePath}
use Rattle.path_rules.specs.TiesLaws.{path-nonneg}

-- ---- one more piece by the tie rule

module _ (l : Lengths) (left right : List ℕ) (own : ℕ → ℕ → Score) where
  tie_run-more : (k n a : ℕ) (rest : List ℕ) (i j : ℕ) → n + length rest ≡ k → TieOnward l left right own n a rest i → ChosenByCount l left right own k i j
      → TieOnward l left right own n a (rest ++ (j ∷ [])) j
  tie_run-more k n a [] i j e r c = let q : k ≡ n = omega arith in (rw (← q, r) c, refl)
  tie_run-more k n a (b ∷ rest) i j e (p, r) c = (p, tie_run-more k (suc n) b rest i j (omega arith) r c)

  -- a path of k pieces and a piece that is chosen after them
  pub tie_more : (k : ℕ) (path : List ℕ) (i j : ℕ) → length path ≡ suc k → TiePath l left right own path i → ChosenByCount l left right own k i j → TiePath l left right own (path ++ (j ∷ [])) j
  tie_more k [] i j e t c = absurd t
  tie_more k (a ∷ rest) i j e (z, r) c = (z, tie_run-more k 0 a rest i j (omega arith) r c)

-- ---- paths by the rule

module _ (l : Lengths) (left right : List ℕ) (own : ℕ → ℕ → Score) where
  -- after the first piece a run ends no lower than it starts
  tie_onward_rises : (k i : ℕ) (rest : List ℕ) (last : ℕ) → TieOnward l left right own (suc k) i rest last → i ≤ last
  tie_onward_rises k i [] last e = le_of_eq e
  tie_onward_rises k i (j ∷ rest) last (c, r) = let b = tie_onward_rises (suc k) j rest last r in omega (arith, c.high)

  -- what the rule chooses by some scores it may choose by others
  tie_weaken : (own' : ℕ → ℕ → Score) (last : ℕ) → ((k i j : ℕ) → j ≤ last → ChosenByCount l left right own k i j → ChosenByCount l left right own' k i j)
      → (path : List ℕ) → TiePath l left right own path last → TiePath l left right own' path last
  tie_weaken own' last w [] p = p
  tie_weaken own' last w (i ∷ rest) (e, r) = (e, go 0 i rest r)
    where
      go : (k i : ℕ) (rest : List ℕ) → TieOnward l left right own k i rest last → TieOnward l left right own' k i rest last
      go k i [] e = e
      go k i (j ∷ rest) (c, r) = (w k i j (tie_onward_rises k j rest last r) c, go (suc k) j rest r)

  -- a path of k + 1 pieces, taken apart at its last piece
  record Split (k : ℕ) (path : List ℕ) (last : ℕ) : Type 0 where
    before : List ℕ
    start : ℕ
    shorter : TiePath l left right own before start
    counted : length before ≡ suc k
    piece : ChosenByCount l left right own k start last
    joined : path ≡ before ++ (last ∷ [])

  split_run : (k n i : ℕ) (front : List ℕ) (j : ℕ) (rest : List ℕ) (last : ℕ) → TiePath l left right own front i → length front ≡ suc n → n + length rest ≡ k
      → TieOnward l left right own n i (j ∷ rest) last → Split k (front ++ (j ∷ rest)) last
  split_run k n i front j [] last p m e (c, q) =
      let s : n ≡ k = omega arith in
      record { before = front; start = i; shorter = p; counted = omega arith; piece = rw (← s, ← q) c; joined = ap (λ (b : ℕ). front ++ (b ∷ [])) q }
  split_run k n i front j (b ∷ rest) last p m e (c, r) =
      subst (λ (path : List ℕ). Split k path last) (append_assoc front (j ∷ []) (b ∷ rest))
      (split_run k (suc n) j (front ++ (j ∷ [])) b rest last (tie_more l left right own n front i j m p c) (simp length-append (omega arith)) (omega arith) r)

  tie_split : (k : ℕ) (path : List ℕ) (last : ℕ) → TiePath l left right own path last → length path ≡ suc (suc k) → Split k path last
  tie_split k [] last p m = absurd p
  tie_split k (i ∷ []) last p m = absurd (omega arith)
  tie_split k (i ∷ j ∷ rest) last (e, r) m = split_run k 0 i (i ∷ []) j rest last (e, refl) refl (omega arith) r

  -- a path of no pieces
  tie_still : (path : List ℕ) (last : ℕ) → TiePath l left right own path last → length path ≡ 1 → path ≡ last ∷ []
  tie_still [] last p m = absurd p
  tie_still (i ∷ []) last (e, r) m = ap (λ (n : ℕ). n ∷ []) r
  tie_still (i ∷ j ∷ rest) last p m = absurd (omega arith)

-- ---- own best scores with k pieces

module _ {l : Lengths} {left right : List ℕ} {cut : List Float} (ok : Searchable l left right cut) where
  module _ {own : ℕ → ℕ → Score} (best : OwnBestByCount l left right cut own) where
    own-nonneg : (k j : ℕ) → 0 < k → k ≤ j → j < length left → T (nonneg (own k j).cost)
    own-nonneg k j z h g =
        rw (← best.attained k j z h g) (path-nonneg ok (AllowedByCount l.limit left right) (λ i n a. a.0) (best.path k j) j g (best.allowed k j z h g).0)

    arrival_fine : (k i j : ℕ) → 0 < k → k ≤ i → i < j → j < length left → T (nonneg (arrival l left right (own k) j i).cost)
    arrival_fine k i j z h m g =
        piece_nonneg ok.preferred (own k i) (piece_length left right i j) (piece_bounded ok.candidates i j g) (own-nonneg k i z h (omega arith))

    -- a piece's end determines its start
    start_only : (k i n j : ℕ) → j < length left → ChosenByCount l left right own k i j → ChosenByCount l left right own k n j → i ≡ n
    start_only zero i n j g a b = a ∙ sym b
    start_only (suc k) i n j g a b =
        lowest_unique i n (arrival_fine (suc k) i j (omega arith) a.low a.high g) (arrival_fine (suc k) n j (omega arith) b.low b.high g) a b

    start_inside : (k i j : ℕ) → j < length left → ChosenByCount l left right own k i j → i < length left
    start_inside zero i j g c = omega arith
    start_inside (suc k) i j g c = omega (arith, c.high)

    -- the tie rule leaves one path of k pieces
    pub tie_unique_by_count : (k j : ℕ) → j < length left → (path other : List ℕ) → TiePath l left right own path j → TiePath l left right own other j
        → length path ≡ suc k → length other ≡ suc k → path ≡ other
    tie_unique_by_count zero j g path other p q m n = tie_still l left right own path j p m ∙ sym (tie_still l left right own other j q n)
    tie_unique_by_count (suc k) j g path other p q m n =
        let a = tie_split l left right own k path j p m in
        let b = tie_split l left right own k other j q n in
        let e : a.start ≡ b.start = start_only k a.start b.start j g a.piece b.piece in
        let s : TiePath l left right own b.before a.start = rw e b.shorter in
        a.joined
        ∙ ap (λ (f : List ℕ). f ++ (j ∷ []))
        (tie_unique_by_count k a.start (start_inside k a.start j g a.piece) a.before b.before a.shorter s a.counted b.counted)
        ∙ sym b.joined

    module _ {own' : ℕ → ℕ → Score} (best' : OwnBestByCount l left right cut own') where
      -- an own best score is at most any other, so that two are equal
      own_at_most : (k j : ℕ) → 0 < k → k ≤ j → j < length left → T (at_most (own k j) (own' k j))
      own_at_most k j z h g = rw (← best'.attained k j z h g) (best.least k j (best'.path k j) z h g (best'.allowed k j z h g))

      arrival_at_most : (k i j : ℕ) → 0 < k → k ≤ i → i < j → j < length left → T (at_most (arrival l left right (own k) j i) (arrival l left right (own' k) j i))
      arrival_at_most k i j z h m g =
          piece_keeps ok.preferred (own k i) (own' k i) (piece_length left right i j) (piece_bounded ok.candidates i j g) (own-nonneg k i z h (omega arith))
          (own_at_most k i z h (omega arith))

  module _ {own own' : ℕ → ℕ → Score} (best : OwnBestByCount l left right cut own) (best' : OwnBestByCount l left right cut own') where
    -- so they choose the same
    chosen_same_by_count : (k i j : ℕ) → j < length left → ChosenByCount l left right own k i j → ChosenByCount l left right own' k i j
    chosen_same_by_count zero i j g c = c
    chosen_same_by_count (suc k) i j g c =
        lowest_same (λ n h m. arrival_at_most best best' (suc k) n j (omega arith) h m g) (λ n h m. arrival_at_most best' best (suc k) n j (omega arith) h m g) c

    -- and a path that follows the rule by the ones follows it by the others
    pub tie_same_by_count : (path : List ℕ) (last : ℕ) → last < length left → TiePath l left right own path last → TiePath l left right own' path last
    tie_same_by_count path last g p = tie_weaken l left right own own' last (λ k i j h c. chosen_same_by_count k i j (omega arith) c) path p
