-- The theorems hold of a plan's first candidates: the grid points stand at kept frame boundaries strictly inside the span.
use Rattle.std.specs.Prelude.{◌≡◌, refl, true, List, ℕ, ◌≤◌, ◌<◌, Float}
use Rattle.std.proofs.Common.{sym}
use Rattle.grid.specs.declared.boundary.FrameGrid.{FrameGrid}
use Rattle.candidate_span.specs.declared.spacing.Spacing.{Spacing}
use Rattle.candidate_span.specs.ListedLaws.{Listed}
use Rattle.candidate_span.specs.Span.{first_of, last_of}
use Rattle.candidate_span.specs.KeptIn.{Outside}
use Rattle.candidate_points.specs.Blocked.{is_blocked}
use Rattle.candidate_points.specs.Points.{grid_points, is_in, is_point}
use Rattle.candidate_points.specs.Theorems.{point_inside}
use Rattle.candidate_points.specs.Clear.{point_clear}
use Rattle.candidate_cuts.specs.CutsLaws.{CutReady}
use Rattle.candidates.specs.declared.context.Context.{Context}
use Rattle.candidates.specs.Sources.{Planned, dropped_of}

-- a context's frames and padding are those of a grid and a spacing
pub record Fits (x : Context) (g : FrameGrid) (s : Spacing) : Type 0 where
  pub frames : g.frames ≡ x.padding.frames
  pub padding : s.padding ≡ x.padding
  pub some : 1 ≤ s.block

module _ (x : Context) (g : FrameGrid) (s : Spacing) (ss : List ℕ) (levels : List Float) (f : Fits x g s) where
  -- the grid points of the span from boundary `first` to boundary `last`
  abbrev pub points_of : ℕ → ℕ → List ℕ
  points_of first last = grid_points (is_blocked x.gap g s ss) levels s.block first last

  -- each lies strictly inside the span
  pub grid_inside : (first last k : ℕ) → is_in (points_of first last) k ≡ true → (first < k) × (k < last)
  grid_inside first last k t = point_inside (is_blocked x.gap g s ss) levels s.block last f.some first k (unfold is_point in t)

  grid_clear : (first last k : ℕ) → Listed x.padding.frames ss → is_in (points_of first last) k ≡ true → Outside (dropped_of x ss) k
  grid_clear first last k l t =
      rw (sym f.padding) (point_clear x.gap g s ss levels s.block first last f.some (rw f.padding l) k (unfold is_point in t))

  -- so prepared silences and the grid points make a plan's candidates
  pub grid-planned : CutReady x.gap x.placement x.padding.frames levels ss
      → Planned x ss levels (points_of (first_of x.gap x.padding ss) (last_of x.gap x.padding ss)) (first_of x.gap x.padding ss) (last_of x.gap x.padding ss)
  grid-planned p =
      let first = first_of x.gap x.padding ss in
      let last = last_of x.gap x.padding ss in
      record {
        prepared = p;
        starts = refl;
        stops = refl;
        clear = λ (k : ℕ) (t : is_in (points_of first last) k ≡ true) (a : first < k) (b : k < last). grid_clear first last k p.spanned.listed t;
      }
