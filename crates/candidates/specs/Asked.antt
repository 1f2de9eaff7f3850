-- The path search may be asked: a plan's candidates in samples, and their costs, are of its domain.
use Rattle.std.specs.Prelude.{◌≡◌, refl, List, [], ◌∷◌, map, ℕ, zero, suc, ◌≤◌, ◌<◌, Float, length, get_or}
use Rattle.std.proofs.Common.{sym, ◌∙◌, le_trans, le_of_lt, arith}
use Rattle.std.specs.Float.{nan}
use Rattle.std.proofs.lemmas.List.{length-map}
use Rattle.grid.specs.declared.boundary.FrameGrid.{FrameGrid}
use Rattle.grid.specs.BoundaryLaws.{Accepted, boundary_le_len}
use Rattle.base_terms.specs.Limits.{max_len}
use Rattle.path_pieces.specs.Domain.{Candidates, Costs}
use Rattle.candidates.specs.declared.candidate.Candidate.{Candidate}
use Rattle.candidates.specs.declared.context.Context.{Context}
use Rattle.candidates.specs.Candidates.{candidates_of}
use Rattle.candidates.specs.Entries.{costs_of}
use Rattle.candidates.specs.Samples.{left_sample, right_sample, lefts_of, rights_of}
use Rattle.candidates.specs.EntriesLaws.{costs_length}
use Rattle.candidates.specs.Members.{candidate_at}
use Rattle.candidates.specs.Sources.{Planned}
use Rattle.candidates.specs.Order.{span-ends, candidates_some, candidates_few, position_order, positions_apart}
use Rattle.candidates.specs.Costs.{Costable, candidate_cost}

sample_at : (f : Candidate → ℕ) (cs : List Candidate) (i : ℕ) → i < length cs → get_or (map f cs) i 0 ≡ f (candidate_at cs i)
sample_at f [] i h = absurd (omega arith)
sample_at f (c ∷ cs) zero h = refl
sample_at f (c ∷ cs) (suc i) h = sample_at f cs i (omega arith)

cost_at : (cs : List Candidate) (i : ℕ) → i < length cs → get_or (costs_of cs) i nan ≡ (candidate_at cs i).cost
unfolding costs_of
cost_at [] i h = absurd (omega arith)
cost_at (c ∷ cs) zero h = refl
cost_at (c ∷ cs) (suc i) h = cost_at cs i (omega arith)

-- ---- the theorems

-- a grid for a plan's frames, of a length that refusal 6 passes
pub record Sampled (x : Context) (g : FrameGrid) : Type 0 where
  pub accepted : Accepted g
  pub same : g.frames ≡ x.padding.frames
  pub held : g.len ≤ max_len

module _ (x : Context) (ss runs : List ℕ) (levels : List Float) (ks : List ℕ) (first last : ℕ) (p : Planned x ss levels ks first last) (g : FrameGrid) where
  -- a plan's candidates in samples pass refusals 15 and 16
  pub candidates_asked : Sampled x g → Candidates (lefts_of g (candidates_of x ss runs levels ks first last)) (rights_of g (candidates_of x ss runs levels ks first last))
  candidates_asked q =
      record {
        some = omega (arith, all, candidates_some x ss runs levels ks first last);
        few = omega (arith, all, (span-ends x ss runs levels ks first last p).1, candidates_few x ss runs levels ks first last (span-ends x ss runs levels ks first last p).0, p.prepared.few);
        paired = length-map cs (right_sample g) ∙ sym all;
        inside = λ (i : ℕ) (h : i < length (lefts_of g cs)).
            rw (left i (rw all at h), right i (rw all at h)) (position_order x ss runs levels ks first last p g q.accepted q.same i (rw all at h));
        apart = λ (i : ℕ) (h : suc i < length (lefts_of g cs)).
            rw (right i (omega (arith, all)), left (suc i) (rw all at h)) (le_of_lt (positions_apart x ss runs levels ks first last p g q.accepted q.same i (suc i) (omega arith) (rw all at h)));
        bounded = λ (i : ℕ) (h : i < length (lefts_of g cs)). rw (right i (rw all at h)) (le_trans (boundary_le_len g q.accepted (candidate_at cs i).right) q.held);
      }
    where
      cs : List Candidate
      cs = candidates_of x ss runs levels ks first last

      all : length (lefts_of g cs) ≡ length cs
      all = length-map cs (left_sample g)

      left : (i : ℕ) → i < length cs → get_or (lefts_of g cs) i 0 ≡ left_sample g (candidate_at cs i)
      left i h = sample_at (left_sample g) cs i h

      right : (i : ℕ) → i < length cs → get_or (rights_of g cs) i 0 ≡ right_sample g (candidate_at cs i)
      right i h = sample_at (right_sample g) cs i h

  -- and their costs may be added up
  pub costs_asked : Costable x g runs levels → Costs (costs_of (candidates_of x ss runs levels ks first last)) (length (candidates_of x ss runs levels ks first last))
  costs_asked q =
      record {
        each = costs_length (candidates_of x ss runs levels ks first last);
        cost_nonneg = λ (i : ℕ) (h : i < length (candidates_of x ss runs levels ks first last)).
            rw (cost_at (candidates_of x ss runs levels ks first last) i h) (candidate_cost x g runs levels q ss ks first last p i h);
      }
