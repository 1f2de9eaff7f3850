-- The two parts of the positions' list, lent one after the other, are the left ends and the right ends.
use Rattle.std.specs.Prelude.{◌≡◌, ℕ, ◌+◌, ◌-◌, ◌*◌, ◌<◌, take}
use Rattle.std.proofs.Common.{sym, ◌∙◌, arith, length-append, length-drop, length-take-le}
use Rattle.std.proofs.Math.Path.{ap}
use mathlib.Core.List.{List, ◌++◌}
use borrow.Rule.Slice.PartMut.{put_mid, mid_len}
use Rattle.std.proofs.Math.ListN.{length, drop}
use Rattle.base_terms.specs.Layout.{entries_at, rights_at}
use Rattle.base_terms.specs.Lists.{onto, tabulate}
use Rattle.base_code.specs.FrontLaws.{tabulate-length}
use Rattle.grid.specs.declared.boundary.FrameGrid.{FrameGrid}
use Rattle.candidate_points.specs.Placed.{placed}
use Rattle.candidate_points.specs.PlacedLaws.{placed_put}
use Rattle.plan_lists.specs.Within.{part_at}
use Rattle.plan_lists.specs.Positions.{end_in, entries_in, positions_in, EntriesRoom, PositionsRoom}

module _ (g : FrameGrid) (candidates : ℕ) (work positions : List ℕ) (room : PositionsRoom g.frames candidates work positions) where
  abbrev first : ℕ
  first = entries_at g.frames

  abbrev rights : ℕ
  rights = rights_at g.frames

  -- the part that is lent to be read
  abbrev lent : List ℕ
  lent = part_at (first) (first + 3 * candidates - first) work

  lent_is : lent ≡ entries_in g.frames candidates work
  lent_is = let d : first + 3 * candidates - first ≡ 3 * candidates = omega arith in rw d

  -- the front that is lent first is as long as there are candidates
  pub lent-front : length (take candidates positions) ≡ candidates
  lent-front = length-take-le candidates positions (omega (arith, room.room))

  -- it has three numbers for each candidate
  pub lent-room : (n which : ℕ) → n ≡ candidates → which < 3 → EntriesRoom n which lent
  lent-room n which e h = record {
    three = omega (arith, mid_len (first) (first + 3 * candidates) work (omega (arith, room.entries)), e);
    one = h;
  }

  module _ (left : List ℕ) (at_left : left ≡ tabulate (end_in g lent 0) (length (take candidates positions))) where
    left_is : left ≡ tabulate (end_in g (entries_in g.frames candidates work) 0) candidates
    left_is = rw (lent-front, lent_is) at at_left

    left_long : length left ≡ candidates
    left_long = ap length left_is ∙ tabulate-length (end_in g (entries_in g.frames candidates work) 0) candidates

    front_is : left ++ drop candidates positions ≡ onto (tabulate (end_in g (entries_in g.frames candidates work) 0) candidates) positions
    unfolding onto
    front_is = ap (λ (n : ℕ). left ++ drop n positions) (sym left_long) ∙ ap (λ (l : List ℕ). l ++ drop (length l) positions) left_is

    front_long : length (left ++ drop candidates positions) ≡ length positions
    front_long = simp (length-append, length-drop) (omega (arith, left_long, room.room))

    -- and so is the part that is lent then
    pub lent_back : length (part_at rights (rights + candidates - rights) (left ++ drop candidates positions)) ≡ candidates
    lent_back =
        let e = mid_len rights (rights + candidates) (left ++ drop candidates positions) (omega (arith, front_long, room.room)) in
        omega (arith, e)

    -- both are written
    pub positions_written : (right : List ℕ)
        → right ≡ tabulate (end_in g lent 1) (length (part_at rights (rights + candidates - rights) (left ++ drop candidates positions)))
        → put_mid rights (rights + candidates - rights) (left ++ drop candidates positions) right ≡ positions_in g candidates work positions
    unfolding positions_in
    positions_written right at_right =
        let is : right ≡ tabulate (end_in g (entries_in g.frames candidates work) 1) candidates = rw (lent_back, lent_is) at at_right in
        let long : length right ≡ candidates = ap length is ∙ tabulate-length (end_in g (entries_in g.frames candidates work) 1) candidates in
        placed_put rights right (left ++ drop candidates positions) (omega (arith, long, front_long, room.room)) (rights + candidates) (omega (arith, long))
        ∙ ap (placed rights right) front_is
        ∙ ap (λ (r : List ℕ). placed rights r (onto (tabulate (end_in g (entries_in g.frames candidates work) 0) candidates) positions)) is
