-- The cuts of a path of candidates, and where its candidates' ends lie in samples.
use Rattle.std.specs.Prelude.{◌≡◌, ℕ, zero, suc, ◌≤◌, ◌<◌, length, get_or}
use Rattle.std.proofs.Math.Path.{refl}
use Rattle.std.proofs.Common.{arith}
use mathlib.Core.List.Memᴰ
use mathlib.Core.List.{List, [], ◌∷◌, Memᴰ}
use Rattle.grid.specs.Boundary.{boundary_of}
use Rattle.grid.specs.declared.boundary.FrameGrid.{FrameGrid}
use Rattle.path_rules.specs.Paths.{Onward}
use Rattle.path_rules.specs.PathsLaws.{onward_rises}
use Rattle.candidate_span.specs.Gaps.{Cut}
use Rattle.candidates.specs.declared.candidate.Candidate.{Candidate}
use Rattle.candidates.specs.Samples.{lefts_of, rights_of}
use Rattle.plan_division.specs.Along.{ends_at, cuts_at}

-- each piece leads on, so no candidate of a path lies beyond its last
pub onward-last : (i : ℕ) (rest : List ℕ) (last : ℕ) → Onward (λ (a b : ℕ). a < b) i rest last → i ≤ last
onward-last i rest last r = onward_rises (λ (a b : ℕ). a < b) (λ i j h. h) i rest last r

module _ (cs : List Candidate) where
  -- ---- the cuts

  -- each is a candidate of the path, before its last
  pub cut-number : (i : ℕ) (rest : List ℕ) (last : ℕ) (k : Cut) → Onward (λ (a b : ℕ). a < b) i rest last → Memᴰ k (cuts_at cs rest)
      → (j : ℕ) × (i < j) × (j < last) × (k ≡ ends_at cs j)
  cut-number i [] last k r m = absurd (Memᴰ.not-nil m)
  cut-number i (j ∷ []) last k r m = absurd (Memᴰ.not-nil m)
  cut-number i (j ∷ (n ∷ rest)) last k (h, (l, r)) (Memᴰ.head e) = (j, h, omega (arith, l, onward-last n rest last r), e)
  cut-number i (j ∷ (n ∷ rest)) last k (h, r) (Memᴰ.tail m) =
      let f = cut-number j (n ∷ rest) last k r m in
      (f.0, omega (arith, h, f.1), f.2, f.3)

  -- ---- in samples

  -- a candidate's left end in samples is that of the boundary
  pub left_sample_lem : (g : FrameGrid) (i : ℕ) → i < length cs → get_or (lefts_of g cs) i 0 ≡ boundary_of g (ends_at cs i).left
  left_sample_lem g i h = go cs i h
    where
      go : (ds : List Candidate) (n : ℕ) → n < length ds → get_or (lefts_of g ds) n 0 ≡ boundary_of g (ends_at ds n).left
      go [] n q = absurd (omega arith)
      go (d ∷ ds) zero q = refl
      go (d ∷ ds) (suc n) q = go ds n (omega arith)

  -- and so is its right end
  pub right_sample_lem : (g : FrameGrid) (i : ℕ) → i < length cs → get_or (rights_of g cs) i 0 ≡ boundary_of g (ends_at cs i).right
  right_sample_lem g i h = go cs i h
    where
      go : (ds : List Candidate) (n : ℕ) → n < length ds → get_or (rights_of g ds) n 0 ≡ boundary_of g (ends_at ds n).right
      go [] n q = absurd (omega arith)
      go (d ∷ ds) zero q = refl
      go (d ∷ ds) (suc n) q = go ds n (omega arith)
