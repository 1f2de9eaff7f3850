-- How the table is filled: what the search for a predecessor reads there, that it always finds one, and that the table grows by one candidate at a time.
use Rattle.std.specs.Prelude.{◌≡◌, refl, List, ℕ, suc, ◌+◌, ◌-◌, ◌≤◌, ◌<◌, Float, length, set, take, drop, Option, Some, None, IsSome}
use Rattle.std.proofs.Common.{sym, ◌∙◌, inl, inr, arith, length-set, length-drop, get_or-set_same, get_or-set_other, get_or-take, get_or-drop, drop-set-lt, length-take-le}
use Rattle.std.proofs.Math.Path.{ap}
use Rattle.std.proofs.Math.Dec.{T_not}
use Rattle.std.specs.Float.{nan}
use Rattle.base_terms.specs.Layout.{behind_table, end_by_length}
use Rattle.base_laws.specs.Tests.{lt_or_le}
use Rattle.path_pieces.specs.Pieces.{no_score, arrival, score_at, with_cut_at, may_start}
use Rattle.path_pieces.specs.declared.lengths.Lengths.{Lengths}
use Rattle.path_pieces.specs.declared.score.Score.{Score}
use Rattle.path_pieces.specs.declared.best.Best.{Best}
use Rattle.path_pieces.specs.Least.{found_score, found_index, lowest_least, predecessor_of}
use Rattle.path_pieces.specs.LeastLaws.{least_nothing}
use Rattle.path_rules.specs.Paths.{last_candidate}
use Rattle.path_by_length.specs.Table.{best_score, best_over, best_cost, parent_of, way_to, best_path}
use Rattle.path_by_length_search.specs.Backward.{Scored, Costed}
use Rattle.path_by_length.specs.WayLaws.{way_same}
use Rattle.path_pieces.specs.PredecessorLaws.{start_next, predecessor_same}
use Rattle.path_by_length.proofs.TableLaws.{best-first, best_next, best-nonneg, best_few, parent_below}
use Rattle.path_by_length.specs.Solved.{cuts_in, parents_in, TableRoom, FilledBefore, Filled, parent_at, Parents}

-- the part of a list behind the table, as it is lent
pub part_behind : {A : Type 0} (n : ℕ) {from to : ℕ} → from ≡ behind_table n → to ≡ end_by_length n → (xs : List A)
    → take (to - from) (drop from xs) ≡ take n (drop (behind_table n) xs)
part_behind n {from} {to} e f xs = let d : to - from ≡ n = omega (arith, e, f) in rw (d, e)

-- ---- at one candidate

module _ {l : Lengths} {left right over : List ℕ} {cost : List Float} {j : ℕ} (ok : FilledBefore l left right over cost j) where
  abbrev cut : List Float
  cut = cuts_in (length left) cost

  -- what the search reads
  pub ready_scored : Scored left right over cost j
  ready_scored = record {
    candidates = ok.room.domain.candidates;
    inside = ok.inside;
    overs = omega (arith, ok.inside, ok.room.overs);
    costs = omega (arith, ok.inside, ok.room.costs);
    few = λ k h. let e = ap (λ (s : Score). s.over) (ok.scores k h) in rw e (best_few ok.room.domain k (omega (arith, ok.inside)));
  }

  -- whose costs are no NaN
  pub ready_costed : Costed l cost j
  ready_costed = record {
    preferred = ok.room.domain.preferred;
    cost_nonneg = λ k h. let e = ap (λ (s : Score). s.cost) (ok.scores k h) in rw e (best-nonneg ok.room.domain k (omega (arith, ok.inside)));
  }

  -- it searches the best scores
  search_same : predecessor_of l left right (score_at over cost) 0 j ≡ predecessor_of l left right (best_score l left right cut) 0 j
  search_same = predecessor_same l left right (score_at over cost) (best_score l left right cut) 0 j (λ k a h. ok.scores k h)

  -- it finds a candidate
  pub ready_found : None ≡ predecessor_of l left right (score_at over cost) 0 j → ⊥
  unfolding predecessor_of
  ready_found e =
      T_not (may_start l.limit left right j (j - 1))
      (least_nothing (may_start l.limit left right j) (arrival l left right (score_at over cost) j) 0 j (sym e) (j - 1) (omega arith) (omega (arith, ok.later)))
      (start_next l.limit left right j (j - 1) (omega (arith, ok.later)))

  -- so what it answers is one
  pub ready_some : (f : Option Best) → f ≡ predecessor_of l left right (score_at over cost) 0 j → IsSome f
  ready_some None e = absurd (ready_found e)
  ready_some (Some b) e = refl

  -- whose score with the cut is the best
  pub ready_score : (b : Best) → Some b ≡ predecessor_of l left right (score_at over cost) 0 j → with_cut_at cut j b.score ≡ best_score l left right cut j
  ready_score b e = ap (λ (f : Option Best). with_cut_at cut j (found_score f)) (e ∙ search_same) ∙ sym (best_next l left right cut j ok.later)

  -- and which is the parent
  pub ready_parent : (b : Best) → Some b ≡ predecessor_of l left right (score_at over cost) 0 j → b.at ≡ parent_of l left right cut j
  unfolding parent_of
  ready_parent b e = ap found_index (e ∙ search_same)

  -- so it is an earlier candidate
  pub ready_below : (b : Best) → Some b ≡ predecessor_of l left right (score_at over cost) 0 j → b.at < j
  ready_below b e = rw (ready_parent b e) (parent_below ok.room.domain j ok.later ok.inside)

-- ---- from one candidate to the next

-- the table of no candidates
filled_none : {l : Lengths} {left right over₀ : List ℕ} {cost₀ : List Float} → Filled l left right over₀ cost₀ over₀ cost₀ 0
filled_none = record {
  scores = λ k h. absurd (omega arith);
  parents = λ k h. absurd (omega arith);
  cuts = refl;
  overs = refl;
  costs = refl;
}

module _ {l : Lengths} {left right over₀ : List ℕ} {cost₀ : List Float} (room : TableRoom l left right over₀ cost₀) where
  abbrev cut₀ : List Float
  cut₀ = cuts_in (length left) cost₀

  module _ {over : List ℕ} {cost : List Float} {j : ℕ} (f : Filled l left right over₀ cost₀ over cost j) where
    -- the lists have room as before
    filled-room : TableRoom l left right over cost
    filled-room = record {
      domain = rw f.cuts room.domain;
      overs = rw f.overs room.overs;
      costs = rw f.costs room.costs;
    }

    -- the next candidate can be settled
    pub filled_ready : 0 < j → j < length left → FilledBefore l left right over cost j
    filled_ready h g = record { room = filled-room; later = h; inside = g; scores = λ k m. rw f.cuts (f.scores k m) }

    -- with its best score and its parent it stands in the table
    filled-with : j < length left → (a : ℕ) (c : Float) (p : ℕ) → best_score l left right cut₀ j ≡ record { over = a; cost = c } → parent_of l left right cut₀ j ≡ p
        → Filled l left right over₀ cost₀ (set (set over j a) (behind_table (length left) + j) p) (set cost j c) (suc j)
    filled-with h a c p s e = record {
      scores = λ k m. elim (lt_or_le k j) [
        | inl n ↦
            rw (
              get_or-set_other (set over j a) (behind_table (length left) + j) k p 0 (λ q. absurd (omega arith)),
              get_or-set_other over j k a 0 (λ q. absurd (omega arith)),
              get_or-set_other cost j k c nan (λ q. absurd (omega arith)),
            ) (f.scores k n)
        | inr n ↦
            let q : k ≡ j = omega arith in
            rw (
              q,
              get_or-set_other (set over j a) (behind_table (length left) + j) j p 0 (λ q. absurd (omega arith)),
              get_or-set_same over j a 0 (omega (arith, room.overs, f.overs)),
              get_or-set_same cost j c nan (omega (arith, room.costs, f.costs)),
            ) (sym s)
      ];
      parents = λ k m. elim (lt_or_le k j) [
        | inl n ↦
            rw (
              get_or-set_other (set over j a) (behind_table (length left) + j) (behind_table (length left) + k) p 0 (λ q. absurd (omega arith)),
              get_or-set_other over j (behind_table (length left) + k) a 0 (λ q. absurd (omega arith)),
            ) (f.parents k n)
        | inr n ↦
            let q : k ≡ j = omega arith in
            rw (q, get_or-set_same (set over j a) (behind_table (length left) + j) p 0 (simp length-set (omega (arith, room.overs, f.overs)))) (sym e)
      ];
      cuts = ap (take (length left)) (drop-set-lt (behind_table (length left)) cost j c h) ∙ f.cuts;
      overs = simp length-set f.overs;
      costs = simp length-set f.costs;
    }

    -- settling candidate j leaves the table of one candidate more
    pub filled_next : j < length left
        → Filled l left right over₀ cost₀
        (set (set over j (best_over l left right (cuts_in (length left) cost) j)) (behind_table (length left) + j) (parent_of l left right (cuts_in (length left) cost) j))
        (set cost j (best_cost l left right (cuts_in (length left) cost) j)) (suc j)
    filled_next h = rw f.cuts (filled-with h (best_over l left right cut₀ j) (best_cost l left right cut₀ j) (parent_of l left right cut₀ j) refl refl)

  -- ---- the first candidate, which has the score of a path without pieces

  module _ (z : Float) (e : z ≡ no_score.cost) {at : ℕ} (place : at ≡ behind_table (length left)) where
    abbrev over₁ : List ℕ
    over₁ = set (set over₀ 0 0) at 0

    abbrev cost₁ : List Float
    cost₁ = set cost₀ 0 z

    first : Filled l left right over₀ cost₀ over₁ cost₁ 1
    unfolding parent_of predecessor_of lowest_least
    first =
        let q : behind_table (length left) + 0 ≡ at = omega (arith, place) in
        rw q at (filled-with filled_none room.domain.candidates.some 0 z 0 (best-first l left right cut₀ ∙ ap (λ (c : Float). record { over = 0; cost = c }) (sym e)) refl)

    -- the lists have room as before
    pub room-first : TableRoom l left right over₁ cost₁
    room-first = filled-room first

    -- and they hold the table of one candidate
    pub filled-first : Filled l left right over₁ cost₁ over₁ cost₁ 1
    filled-first = record {
      scores = λ k h. rw first.cuts (first.scores k h);
      parents = λ k h. rw first.cuts (first.parents k h);
      cuts = refl;
      overs = refl;
      costs = refl;
    }

    -- what the lists held there does not matter
    pub filled-over : {over : List ℕ} {cost : List Float} {j : ℕ} → Filled l left right over₁ cost₁ over cost j → Filled l left right over₀ cost₀ over cost j
    filled-over f = record {
      scores = λ k h. rw first.cuts at (f.scores k h);
      parents = λ k h. rw first.cuts at (f.parents k h);
      cuts = f.cuts ∙ first.cuts;
      overs = f.overs ∙ first.overs;
      costs = f.costs ∙ first.costs;
    }

-- ---- the whole table

module _ {l : Lengths} {left right over₀ : List ℕ} {cost₀ : List Float} (room : TableRoom l left right over₀ cost₀)
    {over : List ℕ} {cost : List Float} (f : Filled l left right over₀ cost₀ over cost (length left)) where
  last_inside : last_candidate left < length left
  last_inside = omega (arith, room.domain.candidates.some)

  -- its score at the last candidate is the best
  pub filled-score : score_at over cost (last_candidate left) ≡ best_score l left right (cuts_in (length left) cost₀) (last_candidate left)
  filled-score = f.scores (last_candidate left) last_inside

  parent_same : (k : ℕ) → k ≤ last_candidate left → parent_at (parents_in (length left) over) k ≡ parent_of l left right (cuts_in (length left) cost₀) k
  parent_same k h =
      let inside : k < length left = omega (arith, last_inside) in
      get_or-take (length left) (drop (behind_table (length left)) over) k 0 inside ∙ get_or-drop (behind_table (length left)) over k 0 ∙ f.parents k inside

  -- its parents lead back
  pub filled_parents : Parents (parents_in (length left) over) (last_candidate left)
  filled_parents = record {
    inside = rw (length-take-le (length left) (drop (behind_table (length left)) over) (simp length-drop (omega (arith, f.overs, room.overs)))) last_inside;
    few = omega (arith, room.domain.candidates.few);
    falling = λ j h g. rw (parent_same j g) (parent_below room.domain j h (omega (arith, last_inside)));
  }

  -- along the best path
  pub filled-path : way_to (parent_at (parents_in (length left) over)) (last_candidate left) ≡ best_path l left right (cuts_in (length left) cost₀)
  unfolding best_path
  filled-path = way_same (parent_at (parents_in (length left) over)) (parent_of l left right (cuts_in (length left) cost₀)) (last_candidate left) filled_parents.falling parent_same
