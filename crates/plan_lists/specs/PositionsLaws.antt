-- Where the numbers held are those of candidates, the positions are the candidates' ends in samples: each candidate has three numbers, its left end first.
use Rattle.std.specs.Prelude.{◌≡◌, length, get_or, take}
use Rattle.std.proofs.Math.Path.{refl}
use Rattle.std.proofs.Common.{sym, ap, ◌∙◌}
use mathlib.Core.List.{List, [], ◌∷◌}
use Prim.Native.Nat.{ℕ, zero, suc, ◌+◌, ◌*◌, ◌≤◌, ◌<◌}
use native.Mathlib.Omega.{arith}
use Rattle.std.proofs.lemmas.List.{length-map}
use Rattle.base_terms.specs.Layout.{rights_at}
use Rattle.base_terms.specs.Lists.{onto, tabulate}
use Rattle.base_code.specs.FrontLaws.{tabulate-length, tabulate-at, onto-length, onto-take}
use Rattle.grid.specs.declared.boundary.FrameGrid.{FrameGrid}
use Rattle.candidate_points.specs.Placed.{placed}
use Rattle.candidate_points.specs.PlacedLaws.{placed-length, placed-take, placed_part}
use Rattle.candidates.specs.declared.candidate.Candidate.{Candidate}
use Rattle.candidates.specs.Entries.{entries_of}
use Rattle.candidates.specs.Samples.{left_sample, right_sample, lefts_of, rights_of}
use Rattle.plan_lists.specs.Within.{part_at}
use Rattle.plan_lists.specs.Positions.{end_in, entries_in, positions_in, PositionsRoom}

-- two lists that are as long and agree at each place
same_each : (xs ys : List ℕ) → length xs ≡ length ys → ((i : ℕ) → i < length xs → get_or xs i 0 ≡ get_or ys i 0) → xs ≡ ys
same_each [] [] e f = refl
same_each [] (y ∷ ys) e f = absurd (omega arith)
same_each (x ∷ xs) [] e f = absurd (omega arith)
same_each (x ∷ xs) (y ∷ ys) e f =
    let h : x ≡ y = f 0 (omega arith) in
    let t : xs ≡ ys = same_each xs ys (omega arith) (λ i h. f (suc i) (omega arith)) in
    rw (h, t)

module _ (g : FrameGrid) where
  left_at : (cs : List Candidate) (i : ℕ) → i < length cs → end_in g (entries_of cs) 0 i ≡ get_or (lefts_of g cs) i 0
  unfolding entries_of
  left_at [] i h = absurd (omega arith)
  left_at (c ∷ cs) zero h = refl
  left_at (c ∷ cs) (suc i) h =
      let e : 3 * suc i + 0 ≡ suc (suc (suc (3 * i + 0))) = omega arith in
      rw e (left_at cs i (omega arith))

  right_at : (cs : List Candidate) (i : ℕ) → i < length cs → end_in g (entries_of cs) 1 i ≡ get_or (rights_of g cs) i 0
  unfolding entries_of
  right_at [] i h = absurd (omega arith)
  right_at (c ∷ cs) zero h = refl
  right_at (c ∷ cs) (suc i) h =
      let e : 3 * suc i + 1 ≡ suc (suc (suc (3 * i + 1))) = omega arith in
      rw e (right_at cs i (omega arith))

  lefts : (cs : List Candidate) → tabulate (end_in g (entries_of cs) 0) (length cs) ≡ lefts_of g cs
  lefts cs =
      let a = tabulate-length (end_in g (entries_of cs) 0) (length cs) in
      same_each (tabulate (end_in g (entries_of cs) 0) (length cs)) (lefts_of g cs) (a ∙ sym (length-map cs (left_sample g)))
      (λ i h. let k : i < length cs = omega (arith, a) in tabulate-at (end_in g (entries_of cs) 0) (length cs) i 0 k ∙ left_at cs i k)

  rights : (cs : List Candidate) → tabulate (end_in g (entries_of cs) 1) (length cs) ≡ rights_of g cs
  rights cs =
      let a = tabulate-length (end_in g (entries_of cs) 1) (length cs) in
      same_each (tabulate (end_in g (entries_of cs) 1) (length cs)) (rights_of g cs) (a ∙ sym (length-map cs (right_sample g)))
      (λ i h. let k : i < length cs = omega (arith, a) in tabulate-at (end_in g (entries_of cs) 1) (length cs) i 0 k ∙ right_at cs i k)

  -- the numbers held are those of candidates
  module _ (cs : List Candidate) (candidates : ℕ) (work positions : List ℕ) (all : candidates ≡ length cs)
      (held : entries_in g.frames candidates work ≡ entries_of cs) (room : PositionsRoom g.frames candidates work positions) where
    is : positions_in g candidates work positions ≡ placed (rights_at g.frames) (rights_of g cs) (onto (lefts_of g cs) positions)
    unfolding positions_in
    is = rw (held, all, lefts cs, rights cs)

    left_long : length (lefts_of g cs) ≡ candidates
    left_long = length-map cs (left_sample g) ∙ sym all

    right_long : length (rights_of g cs) ≡ candidates
    right_long = length-map cs (right_sample g) ∙ sym all

    fits : rights_at g.frames + length (rights_of g cs) ≤ length (onto (lefts_of g cs) positions)
    fits = omega (arith, right_long, left_long, room.room, onto-length (lefts_of g cs) positions (omega (arith, left_long, room.room)))

    -- the left ends are at the front
    pub positions_left : take candidates (positions_in g candidates work positions) ≡ lefts_of g cs
    positions_left =
        ap (take candidates) is ∙ placed-take (rights_at g.frames) (rights_of g cs) (onto (lefts_of g cs) positions) fits candidates room.few
        ∙ ap (λ (n : ℕ). take n (onto (lefts_of g cs) positions)) (sym left_long) ∙ onto-take (lefts_of g cs) positions

    -- and the right ends behind them
    pub positions_right : part_at (rights_at g.frames) candidates (positions_in g candidates work positions) ≡ rights_of g cs
    positions_right =
        ap (part_at (rights_at g.frames) candidates) is ∙ placed_part (rights_at g.frames) (rights_of g cs) (onto (lefts_of g cs) positions) fits candidates (sym right_long)

    -- the list is as long as it was
    pub positions_long : length (positions_in g candidates work positions) ≡ length positions
    positions_long =
        ap length is ∙ placed-length (rights_at g.frames) (rights_of g cs) (onto (lefts_of g cs) positions) fits
        ∙ onto-length (lefts_of g cs) positions (omega (arith, left_long, room.room))
