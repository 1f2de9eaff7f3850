-- The marks of grid points in work memory: what writing them needs, and that they say where the points are.
use Rattle.std.specs.Prelude.{◌≡◌, ℕ, suc, ◌+◌, ◌-◌, ◌*◌, ◌≤◌, ◌<◌, Float, length, take, drop}
use Rattle.std.proofs.Math.Path.{sym, ap}
use Rattle.std.proofs.Common.{subst, ◌∙◌, arith, length-take-le, get_or-take, get_or-drop}
use mathlib.Core.List.{List}
use Rattle.std.proofs.Math.ListN.{get_or}
use borrow.Rule.Slice.PartMut.{put_mid}
use Rattle.base_terms.specs.Layout.{side, runs_at, marks_at, entries_at}
use Rattle.base_code.specs.FrontLaws.{tabulate-length}
use Rattle.grid.specs.Boundary.{Bounded}
use Rattle.grid.specs.declared.boundary.FrameGrid.{FrameGrid}
use Rattle.plan_settings.specs.declared.config.Gap.{Gap}
use Rattle.candidate_span.specs.ListedLaws.{Listed}
use Rattle.candidate_span.specs.declared.held.HeldSpan.{HeldSpan}
use Rattle.candidate_span.specs.declared.spacing.Spacing.{Spacing}
use Rattle.candidate_points.specs.Flags.{flag_of}
use Rattle.candidate_points.specs.FlagsLaws.{flag_set}
use Rattle.candidate_points.specs.Placed.{placed}
use Rattle.candidate_points.specs.PlacedLaws.{placed-length, placed-take, placed_part, placed_again, placed_put}
use Rattle.candidate_points.specs.Blocked.{is_blocked, blocked_of}
use Rattle.candidate_points.specs.BlockedLaws.{blocked_length}
use Rattle.candidate_points.specs.Points.{grid_points, is_in, is_point, mark_at, marks_of}
use Rattle.candidate_points.specs.PointsWalk.{SpanFlagged}
use Rattle.candidate_points.specs.Clear.{marks_are}
use Rattle.candidate_walk.specs.Held.{silences_held, levels_held, marked}

-- the marks themselves, from the silences and levels that are held
unfoldable pub marks_in : Gap → FrameGrid → Spacing → HeldSpan → List ℕ → List Float → List ℕ
marks_in gap g s span work workf = marks_of (levels_held g.frames workf) s.block span.first span.last (blocked_of gap g s (silences_held span.silences work))

-- work memory with the marks
unfoldable pub marked_of : Gap → FrameGrid → Spacing → HeldSpan → List ℕ → List Float → List ℕ
marked_of gap g s span work workf = placed (marks_at g.frames) (marks_in gap g s span work workf) work

-- silences in front, a span inside the recording, and room
pub record Markable (g : FrameGrid) (s : Spacing) (span : HeldSpan) (work : List ℕ) (workf : List Float) : Type 0 where
  pub bounded : Bounded g
  pub listed : Listed g.frames (silences_held span.silences work)
  pub apart : 2 * span.silences ≤ runs_at g.frames
  pub some : 1 ≤ s.block
  pub order : span.first < span.last
  pub within : span.last ≤ g.frames
  pub size : s.padding.frames ≡ g.frames
  pub room : entries_at g.frames ≤ length work
  pub roomf : side g.frames ≤ length workf

-- ---- writing them

module _ (gap : Gap) (g : FrameGrid) (s : Spacing) (span : HeldSpan) (work : List ℕ) (workf : List Float) (m : Markable g s span work workf) where
  abbrev flags : List ℕ
  flags = blocked_of gap g s (silences_held span.silences work)

  flags-size : length flags ≡ suc g.frames
  flags-size = blocked_length gap g s (silences_held span.silences work)

  flags_fit : marks_at g.frames + length flags ≤ length work
  flags_fit = omega (arith, flags-size, m.room)

  marks_size : length (marks_in gap g s span work workf) ≡ suc g.frames
  unfolding marks_in marks_of
  marks_size = tabulate-length (mark_at (levels_held g.frames workf) s.block span.first span.last flags) (length flags) ∙ flags-size

  marks_fit : marks_at g.frames + length (marks_in gap g s span work workf) ≤ length work
  marks_fit = omega (arith, marks_size, m.room)

  -- work' has the flags of blocked boundaries there
  module _ (work' : List ℕ) (e : work' ≡ placed (marks_at g.frames) flags work) (width : ℕ) (w : width ≡ side g.frames) where
    part : take width (drop (marks_at g.frames) work') ≡ flags
    part = ap (λ (xs : List ℕ). take width (drop (marks_at g.frames) xs)) e ∙ placed_part (marks_at g.frames) flags work flags_fit width (omega (arith, flags-size, w))

    same : length work' ≡ length work
    same = ap length e ∙ placed-length (marks_at g.frames) flags work flags_fit

    flagged : SpanFlagged s.block span.first span.last (levels_held g.frames workf) (take width (drop (marks_at g.frames) work'))
    flagged = search (arith, m.some, m.order, length-take-le (side g.frames) workf m.roomf, m.within, ap length part, flags-size)

    made : (marks : List ℕ) → marks ≡ marks_of (levels_held g.frames workf) s.block span.first span.last (take width (drop (marks_at g.frames) work'))
        → marks ≡ marks_in gap g s span work workf
    made marks f = unfold marks_in in (f ∙ ap (marks_of (levels_held g.frames workf) s.block span.first span.last) part)

    done : (marks : List ℕ) → marks ≡ marks_in gap g s span work workf → placed (marks_at g.frames) marks work' ≡ marked_of gap g s span work workf
    done marks is = unfold marked_of in (rw (is, e) (placed_again (marks_at g.frames) flags work flags_fit (marks_in gap g s span work workf) (marks_size ∙ sym flags-size)))

  -- the same with the places as code has them
  module _ (base width : ℕ) (at : base ≡ marks_at g.frames) (w : width ≡ side g.frames) (work' : List ℕ) (e : work' ≡ placed base flags work) where
    wide : base + width - base ≡ width
    wide = omega arith

    flags_are : work' ≡ placed (marks_at g.frames) flags work
    flags_are = rw at at e

    -- the flags of the span can be made marks
    pub mark_ready : SpanFlagged s.block span.first span.last (take width workf) (take (base + width - base) (drop base work'))
    mark_ready = rw (wide, at) (subst (λ (k : ℕ). SpanFlagged s.block span.first span.last (take k workf) (take width (drop (marks_at g.frames) work'))) (sym w) (flagged work' flags_are width w))

    -- and once they are, work memory has the marks
    pub mark_done : (marks : List ℕ) → marks ≡ marks_of (take width workf) s.block span.first span.last (take (base + width - base) (drop base work'))
        → put_mid base (base + width - base) work' marks ≡ marked_of gap g s span work workf
    mark_done marks f =
        placed_put base marks work' (omega (arith, size, at, same work' flags_are width w, m.room)) (base + width) (omega (arith, size, w))
        ∙ ap (λ (k : ℕ). placed k marks work') at ∙ done work' flags_are width w marks is
      where
        is : marks ≡ marks_in gap g s span work workf
        is =
            made work' flags_are width w marks
            (subst (λ (k : ℕ). marks ≡ marks_of (take k workf) s.block span.first span.last (take width (drop (marks_at g.frames) work'))) w (rw (wide, at) at f))

        size : length marks ≡ suc g.frames
        size = ap length is ∙ marks_size

  -- ---- what they say

  -- what stands before the marks stays
  pub mark_stays : (k : ℕ) → k ≤ marks_at g.frames → take k (marked_of gap g s span work workf) ≡ take k work
  unfolding marked_of
  mark_stays k h = placed-take (marks_at g.frames) (marks_in gap g s span work workf) work marks_fit k h

  -- and the list is as long as before
  pub mark_length : length (marked_of gap g s span work workf) ≡ length work
  unfolding marked_of
  mark_length = placed-length (marks_at g.frames) (marks_in gap g s span work workf) work marks_fit

  -- a mark stands at each grid point, and nowhere else
  pub mark_is : (k : ℕ) → k ≤ g.frames
      → marked g.frames (marked_of gap g s span work workf) k ≡ is_in (grid_points (is_blocked gap g s (silences_held span.silences work)) (levels_held g.frames workf) s.block span.first span.last) k
  mark_is k h =
      let part : take (suc g.frames) (drop (marks_at g.frames) (marked_of gap g s span work workf)) ≡ marks_in gap g s span work workf =
      unfold marked_of in placed_part (marks_at g.frames) (marks_in gap g s span work workf) work marks_fit (suc g.frames) (sym marks_size) in
      let set : get_or (marks_in gap g s span work workf) k 0 ≡ flag_of (is_in (grid_points (is_blocked gap g s (silences_held span.silences work)) (levels_held g.frames workf) s.block span.first span.last) k) =
      unfold marks_in in unfold is_point in marks_are gap g s (silences_held span.silences work) (levels_held g.frames workf) s.block span.first span.last (omega (arith, m.within)) k h in
      let at : get_or (marked_of gap g s span work workf) (marks_at g.frames + k) 0 ≡ flag_of (is_in (grid_points (is_blocked gap g s (silences_held span.silences work)) (levels_held g.frames workf) s.block span.first span.last) k) =
      sym (get_or-drop (marks_at g.frames) (marked_of gap g s span work workf) k 0)
      ∙ sym (get_or-take (suc g.frames) (drop (marks_at g.frames) (marked_of gap g s span work workf)) k 0 (omega arith))
      ∙ ap (λ (xs : List ℕ). get_or xs k 0) part ∙ set in
      rw at (flag_set (is_in (grid_points (is_blocked gap g s (silences_held span.silences work)) (levels_held g.frames workf) s.block span.first span.last) k))
