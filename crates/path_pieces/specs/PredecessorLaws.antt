-- Laws of the best predecessor: walking back within the limit finds it, or else it is the candidate just before.
use Rattle.std.specs.Prelude.{◌≡◌, refl, not, ◌||◌, List, T, eqb, length, Option, Some, None}
use Rattle.std.proofs.Common.{ap, subst, ◌∙◌, le_trans, not-le_of_lt, T_not, le→leb, leb→le}
use Rattle.std.proofs.Math.Logic.{inl, inr}
use Prim.Native.Nat.{ℕ, suc, ◌-◌, ◌≤◌, ◌<◌}
use native.Mathlib.Omega.{arith}
use Rattle.std.proofs.Math.Dec.{eqb→eq, eqb_refl, not_T}
use Rattle.base_terms.specs.Floats.{nonneg}
use Rattle.path_pieces.specs.Pieces.{piece_length, may_start, with_piece, is_within, arrival}
use Rattle.path_pieces.specs.Domain.{Candidates, Preferred}
use Rattle.path_pieces.specs.DomainLaws.{piece_longer, piece_bounded, piece_nonneg}
use Rattle.base_laws.specs.Tests.{same_test, or_l, or_r, or_split}
use Rattle.path_pieces.specs.declared.lengths.Lengths.{Lengths}
use Rattle.path_pieces.specs.declared.score.Score.{Score}
use Rattle.path_pieces.specs.declared.best.Best.{Best}
use Rattle.path_pieces.specs.Least.{found_score, found_index, entry, lowest_least, LowestLeast, predecessor_of}
use Rattle.path_pieces.specs.LeastLaws.{least_none, least_front, least_skip, least_same, least_answers, least_settled}

-- ---- which pieces are within the limit

-- a piece up to the limit is
pub within_yes : (limit : ℕ) (left right : List ℕ) (j i : ℕ) → piece_length left right i j ≤ limit → T (is_within limit left right j i)
unfolding is_within
within_yes limit left right j i h = le→leb (piece_length left right i j) limit h

-- and only such a piece
pub within_is : (limit : ℕ) (left right : List ℕ) (j i : ℕ) → T (is_within limit left right j i) → piece_length left right i j ≤ limit
unfolding is_within
within_is limit left right j i t = leb→le (piece_length left right i j) limit t

-- where the piece from i is too long, none from i or from further back is within the limit
pub within_none : (limit : ℕ) (left right : List ℕ) (j i : ℕ) → Candidates left right → i < length left → limit < piece_length left right i j → (k : ℕ) → k ≤ i
    → T (not (is_within limit left right j k))
within_none limit left right j i ok h l k g =
    not_T (is_within limit left right j k) (λ (t : T (is_within limit left right j k)).
    not-le_of_lt l (le_trans (piece_longer ok k i j g h) (within_is limit left right j k t)))

-- ---- the best predecessor: the best within the limit, or else the one just before

-- a piece to j may always start just before it
pub start_next : (limit : ℕ) (left right : List ℕ) (j i : ℕ) → suc i ≡ j → T (may_start limit left right j i)
unfolding may_start
start_next limit left right j i e = or_r (is_within limit left right j i) (eqb (suc i) j) (subst (λ (n : ℕ). T (eqb (suc i) n)) e (eqb_refl (suc i)))

-- and where the piece is within the limit
pub start_within : (limit : ℕ) (left right : List ℕ) (j i : ℕ) → piece_length left right i j ≤ limit → T (may_start limit left right j i)
unfolding may_start
start_within limit left right j i h = or_l (is_within limit left right j i) (eqb (suc i) j) (within_yes limit left right j i h)

-- but nowhere else
pub start_none : (limit : ℕ) (left right : List ℕ) (j i : ℕ) → T (not (is_within limit left right j i)) → suc i < j → T (not (may_start limit left right j i))
unfolding may_start
start_none limit left right j i n h = not_T (is_within limit left right j i || eqb (suc i) j) (λ (t : T (is_within limit left right j i || eqb (suc i) j)).
    elim (or_split (is_within limit left right j i) (eqb (suc i) j) t) [
      | inl y ↦ T_not (is_within limit left right j i) n y
      | inr e ↦ let q : suc i ≡ j = eqb→eq (suc i) j e in omega arith
    ])

module _ (l : Lengths) (left right : List ℕ) (own : ℕ → Score) (from j : ℕ) (ok : Candidates left right) (in_List : j < length left) where
  -- the best of the candidates from..j whose piece is within the limit
  abbrev found_within : Option Best
  found_within = lowest_least (is_within l.limit left right j) (arrival l left right own j) from (j - from)

  -- with the piece from the candidate just before j within the limit, the rule allows just the pieces within the limit
  pub predecessor_within : piece_length left right (j - 1) j ≤ l.limit → predecessor_of l left right own from j ≡ found_within
  unfolding predecessor_of may_start
  predecessor_within h =
      least_same (may_start l.limit left right j) (is_within l.limit left right j) (arrival l left right own j) (arrival l left right own j) from j
      (λ k a b. same_test (may_start l.limit left right j k) (is_within l.limit left right j k)
      (λ t. elim (or_split (is_within l.limit left right j k) (eqb (suc k) j) t) [
        | inl y ↦ y
        | inr e ↦
            let q : suc k ≡ j = eqb→eq (suc k) j e in
            let p : j - 1 ≡ k = omega arith in
            within_yes l.limit left right j k (subst (λ (n : ℕ). piece_length left right n j ≤ l.limit) p h)
      ])
      (or_l (is_within l.limit left right j k) (eqb (suc k) j)))
      (λ k a b. refl)

  -- with that piece too long, it is the only one
  pub predecessor_nearest : from < j → l.limit < piece_length left right (j - 1) j
      → predecessor_of l left right own from j ≡ Some (entry (arrival l left right own j) (j - 1))
  unfolding predecessor_of may_start
  predecessor_nearest h g =
      let test = may_start l.limit left right j in
      let score = arrival l left right own j in
      let s : suc (j - 1) ≡ j = omega arith in
      least_skip test score from (j - 1) j (omega arith) (omega arith)
      (λ k a b. start_none l.limit left right j k (within_none l.limit left right j (j - 1) ok (omega arith) g k (omega arith)) (omega arith))
      ∙ least_front test score (j - 1) j (omega arith) (start_next l.limit left right j (j - 1) s)
      ∙ rw (s, ← least_none test score j)

  -- where there is no candidate, nothing is
  pub predecessor_nothing : j ≤ from → None ≡ predecessor_of l left right own from j
  unfolding predecessor_of lowest_least
  predecessor_nothing h = let z : j - from ≡ 0 = omega arith in rw z

-- the best predecessor depends on the scores from `from` up to j alone
pub predecessor_same : (l : Lengths) (left right : List ℕ) (own own' : ℕ → Score) (from j : ℕ) → ((k : ℕ) → from ≤ k → k < j → own k ≡ own' k)
    → predecessor_of l left right own from j ≡ predecessor_of l left right own' from j
unfolding predecessor_of
predecessor_same l left right own own' from j f =
    least_same (may_start l.limit left right j) (may_start l.limit left right j) (arrival l left right own j) (arrival l left right own' j) from j
    (λ k a b. refl) (λ k a b. ap (λ (s : Score). with_piece l s (piece_length left right k j)) (f k a b))

-- there is one, since a piece may start just before j: the lowest whose score with the piece is least
pub predecessor_chosen : {l : Lengths} {left right : List ℕ} → Candidates left right → Preferred l → (own : ℕ → Score) (from j : ℕ) → from < j → j < length left
    → ((k : ℕ) → k < j → T (nonneg (own k).cost))
    → let found = predecessor_of l left right own from j in
    (found_score found ≡ arrival l left right own j (found_index found)) × LowestLeast (may_start l.limit left right j) (arrival l left right own j) from j (found_index found)
unfolding predecessor_of
predecessor_chosen {l} {left} {right} ok likes own from j h g fine =
    let test = may_start l.limit left right j in
    let score = arrival l left right own j in
    least_settled test score from j (j - 1) (lowest_least test score from (j - from)) (omega arith) (omega arith) (start_next l.limit left right j (j - 1) (omega arith))
    (least_answers test score j (λ k m t. piece_nonneg likes (own k) (piece_length left right k j) (piece_bounded ok k j g) (fine k m)) from (omega arith))
