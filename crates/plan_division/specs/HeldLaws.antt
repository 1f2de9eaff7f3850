-- What completion leaves in work memory gives these candidates: the steps run over the candidates that are held there, and marks are added one list after the other.
use Rattle.std.specs.Prelude.{◌≡◌, refl, Bool, true, false, ◌||◌, List, [], ◌∷◌, ◌++◌, ℕ, zero, suc, ◌+◌, ◌-◌, ◌*◌, ◌≤◌, ◌<◌, eqb, Float, length, get_or, take, drop}
use Rattle.std.proofs.Common.{sym, ap, ◌∙◌, arith, get_or-take, get_or-drop}
use Rattle.grid.specs.BoundaryLaws.{Accepted}
use Rattle.grid.specs.declared.boundary.FrameGrid.{FrameGrid}
use Rattle.candidate_span.specs.Gaps.{Cut, Spread}
use Rattle.candidate_span.specs.Span.{Span}
use Rattle.candidate_points.specs.Points.{is_in}
use Rattle.division.specs.Division.{pieces_asked}
use Rattle.division.specs.Greedy.{Greedy}
use Rattle.division.specs.Reach.{IsReach}
use Rattle.candidates.specs.declared.candidate.Candidate.{Candidate}
use Rattle.candidates.specs.declared.context.Context.{Context}
use Rattle.candidates.specs.Candidates.{candidates_of}
use Rattle.candidates.specs.Entries.{entries_of}
use Rattle.candidates.specs.Same.{candidates_same}
use Rattle.completion.specs.Complete.{left_held, right_held, bridges_of}
use Rattle.completion_reach.specs.Cuts.{cuts_of, points_in}
use Rattle.completion_reach.specs.FitsLaws.{fits_greedy, feasible_fits}
use Rattle.plan_division.specs.Along.{ends_at}
use Rattle.plan_division.specs.Added.{bridges_among, added_by_length, completed_with}

entry_left : (cs : List Candidate) (i : ℕ) → i < length cs → get_or (entries_of cs) (3 * i) 0 ≡ (ends_at cs i).left
unfolding entries_of
entry_left [] i h = absurd (omega arith)
entry_left (c ∷ cs) zero h = refl
entry_left (c ∷ cs) (suc i) h =
    let e : 3 * suc i ≡ suc (suc (suc (3 * i))) = omega arith in
    rw e (entry_left cs i (omega arith))

entry_right : (cs : List Candidate) (i : ℕ) → i < length cs → get_or (entries_of cs) (3 * i + 1) 0 ≡ (ends_at cs i).right
unfolding entries_of
entry_right [] i h = absurd (omega arith)
entry_right (c ∷ cs) zero h = refl
entry_right (c ∷ cs) (suc i) h =
    let e : 3 * suc i + 1 ≡ suc (suc (suc (3 * i + 1))) = omega arith in
    rw e (entry_right cs i (omega arith))

-- the candidates that stand in work memory from `entries` on
module _ (entries : ℕ) (work : List ℕ) (cs : List Candidate) (is : take (3 * length cs) (drop entries work) ≡ entries_of cs) where
  held_at : (j : ℕ) → j < 3 * length cs → get_or work (entries + j) 0 ≡ get_or (entries_of cs) j 0
  held_at j h = sym (get_or-drop entries work j 0) ∙ sym (get_or-take (3 * length cs) (drop entries work) j 0 h) ∙ ap (λ (es : List ℕ). get_or es j 0) is

  -- the left end of candidate i stands there
  pub left_held_lem : (i : ℕ) → i < length cs → left_held entries work i ≡ (ends_at cs i).left
  left_held_lem i h = held_at (3 * i) (omega arith) ∙ entry_left cs i h

  -- and its right end
  pub right_held_lem : (i : ℕ) → i < length cs → right_held entries work i ≡ (ends_at cs i).right
  right_held_lem i h =
      let e : entries + 3 * i + 1 ≡ entries + (3 * i + 1) = omega arith in
      ap (λ (j : ℕ). get_or work j 0) e ∙ held_at (3 * i + 1) (omega arith) ∙ entry_right cs i h

  -- so the points on all steps are those that are added by length
  pub steps_held : (g : FrameGrid) (limit : ℕ) → 0 < length cs → bridges_of g limit entries work (length cs - 1) ≡ added_by_length g limit cs
  unfolding bridges_of
  steps_held g limit some = bridges-held (length cs - 1) (λ i h. (left_held_lem i (omega (arith, h, some)), right_held_lem i (omega (arith, h, some))))
    where
      -- the points on n steps are those of the candidates that work memory holds
      bridges-held : (n : ℕ) → ((i : ℕ) → i ≤ n → (left_held entries work i ≡ (ends_at cs i).left) × (right_held entries work i ≡ (ends_at cs i).right))
          → bridges_of g limit entries work n ≡ bridges_among g limit cs n
      bridges-held zero f = refl
      bridges-held (suc n) f = rw (bridges-held n (λ i h. f i (omega (arith, h))), (f n (omega arith)).1, (f (suc n) (omega arith)).0)

-- a number is in two lists joined exactly where it is in one of them
pub in_append : (ks js : List ℕ) (k : ℕ) → is_in (ks ++ js) k ≡ (is_in ks k || is_in js k)
unfolding is_in
in_append [] js k = refl
in_append (i ∷ ks) js k = go (eqb i k) (in_append ks js k)
  where
    go : (b : Bool) → is_in (ks ++ js) k ≡ (is_in ks k || is_in js k) → (b || is_in (ks ++ js) k) ≡ ((b || is_in ks k) || is_in js k)
    go true e = refl
    go false e = e

-- points at the boundaries that were marked and at those that are added give the completed candidates
pub completed_same : (x : Context) (ss runs : List ℕ) (levels : List Float) (ks js : List ℕ) (added : List Cut) (first last : ℕ)
    → ((k : ℕ) → first < k → k < last → is_in js k ≡ (is_in ks k || is_in (points_in added) k))
    → candidates_of x ss runs levels js first last ≡ completed_with x ss runs levels ks added first last
completed_same x ss runs levels ks js added first last f =
    candidates_same x ss runs levels js (ks ++ points_in added) first last (λ k a b. f k a b ∙ sym (in_append ks (points_in added) k))

-- the cuts that code marks under the reach are those of the division which goes as far as it can
pub far_greedy : (g : FrameGrid) → Accepted g → (s : Span) → Spread s.first s.gaps s.last → (count maximum reach : ℕ)
    → IsReach g s count maximum reach → Greedy g s reach (cuts_of g s reach (pieces_asked s count))
far_greedy g ok s spread count maximum reach r = (fits_greedy g ok s spread reach (pieces_asked s count) (feasible_fits g ok s spread reach count r.feasible)).0
