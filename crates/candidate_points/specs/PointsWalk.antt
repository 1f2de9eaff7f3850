-- What holds while the flags of blocked boundaries become marks of grid points, in place: behind boundary k all are marks, from k on all are flags.
-- What holds while a block's end is sought, and one law for each end of a step.
use Rattle.std.specs.Prelude.{◌≡◌, Bool, true, false, ◌||◌, cond, List, ℕ, suc, ◌+◌, ◌≤◌, ◌<◌, ◌-◌, min, eqb, Float, get_or, set}
use Rattle.std.proofs.Math.Path.{refl, sym}
use Rattle.std.proofs.Common.{ap, subst, ◌∙◌, inl, inr, arith, length-set, get_or-set_same, get_or-set_other, eq-eqb, ne_eqb, eqb-true, add-one}
use Rattle.std.proofs.Math.Bool.{or-false}
use Rattle.std.proofs.Math.ListN.{length}
use Rattle.std.proofs.Math.Seq.{ext_get_or}
use Rattle.std.proofs.lemmas.Bool.{eqb-false, not-false}
use Rattle.base_laws.specs.Tests.{lt_or_le, tested}
use Rattle.base_terms.specs.Lists.{tabulate}
use Rattle.base_code.specs.FrontLaws.{tabulate-at, tabulate-length}
use Rattle.silence_runs.specs.Runs.{put_run}
use Rattle.candidate_costs.specs.Quietest.{quietest_of}
use Rattle.candidate_costs.specs.QuietestLaws.{quietest_within}
use Rattle.candidate_points.specs.Flags.{flag_of}
use Rattle.candidate_points.specs.FlagsLaws.{flag_yes, flag_no}
use Rattle.candidate_points.specs.PlacedLaws.{put_length, put_before, put_in, put_after}
use Rattle.candidate_points.specs.Points.{block_end, grid_points, is_in, is_point, is_set, mark_at, marks_of, open_to}
use Rattle.candidate_points.specs.BlocksLaws.{end_within_lem, end_after_lem, end_open, end_same, open_shut, open_pass}
use Rattle.candidate_points.specs.PointsLaws.{PointWalk, Opened, points_walk, walk_pass, walk_open, opened_in, walk_before, walk_beyond}

-- ---- one step

-- the boundary that follows k
unfoldable pub next_of : (ℕ → Bool) → ℕ → ℕ → ℕ → ℕ
next_of blocked block last k = cond (blocked k) (suc k) (block_end blocked block last k)

-- the flag of a blocked boundary goes; the point of a block is marked
unfoldable pub stepped : List Float → ℕ → ℕ → ℕ → List ℕ → List ℕ
stepped levels block last k xs = cond (is_set xs k) (set xs k 0) (set xs (quietest_of levels k (block_end (is_set xs) block last k)) 1)

-- what the functions need: a block of a boundary at least, boundaries in order, a level and a flag for each
pub record SpanFlagged (block k last : ℕ) (levels : List Float) (marks : List ℕ) : Type 0 where
  pub some : 1 ≤ block
  pub order : k < last
  pub heard : last ≤ length levels
  pub flagged : last ≤ length marks

-- what the walk leaves: a mark at each boundary strictly inside the span
pub record Marked (levels : List Float) (block first last : ℕ) (flags marks : List ℕ) : Type 0 where
  pub same : length marks ≡ length flags
  pub inside : (j : ℕ) → first < j → j < last → get_or marks j 0 ≡ mark_at levels block first last flags j

-- ---- the walk

-- `points` are the points that are still to be marked
pub record HalfMarked (levels : List Float) (block first last : ℕ) (flags marks : List ℕ) (k : ℕ) : Type 0 where
  pub some : 1 ≤ block
  pub heard : last ≤ length levels
  pub flagged : last ≤ length flags
  pub after : first < k
  pub within : k ≤ last
  pub same : length marks ≡ length flags
  pub rest : (j : ℕ) → k ≤ j → get_or marks j 0 ≡ get_or flags j 0
  pub points : List ℕ
  pub walk : PointWalk (is_set flags) levels block last k points
  pub ahead : (j : ℕ) → k ≤ j → is_in points j ≡ is_point (is_set flags) levels block first last j
  pub behind : (j : ℕ) → first < j → j < k → get_or marks j 0 ≡ mark_at levels block first last flags j

module _ (levels : List Float) (block first last : ℕ) (flags : List ℕ) where
  -- before the first step all are flags
  pub half_start : SpanFlagged block first last levels flags → HalfMarked levels block first last flags flags (first + 1)
  half_start r =
      let one : first + 1 ≡ suc first = omega arith in
      let all : (j : ℕ) → first + 1 ≤ j → is_in (grid_points (is_set flags) levels block first last) j ≡ is_point (is_set flags) levels block first last j =
      λ j h. unfold is_point in refl in
      record {
        some = r.some;
        heard = r.heard;
        flagged = r.flagged;
        after = omega arith;
        within = omega (arith, r.order);
        same = refl;
        rest = λ (j : ℕ) (h : first + 1 ≤ j). refl;
        points = grid_points (is_set flags) levels block first last;
        walk = rw one (points_walk (is_set flags) levels block last r.some first);
        ahead = all;
        behind = λ (j : ℕ) (h : first < j) (l : j < first + 1). absurd (omega arith);
      }

  module _ (marks : List ℕ) (k : ℕ) (l : k < last) where
    mark : (j : ℕ) (b : Bool) → is_point (is_set flags) levels block first last j ≡ b → flag_of b ≡ mark_at levels block first last flags j
    unfolding mark_at
    mark j b e = rw e

    -- k is blocked
    pub half_pass : HalfMarked levels block first last flags marks k → is_set flags k ≡ true → HalfMarked levels block first last flags (set marks k 0) (suc k)
    half_pass w e =
        let on : PointWalk (is_set flags) levels block last (suc k) w.points = walk_pass w.walk l e in
        let here : (j : ℕ) → j ≡ k → get_or (set marks k 0) j 0 ≡ mark_at levels block first last flags j =
        λ j s. rw s (get_or-set_same marks k 0 0 (omega (arith, w.same, w.flagged)) ∙ sym flag_no ∙ mark k false (sym (w.ahead k (omega arith)) ∙ walk_before (is_set flags) levels block last w.some on k (omega arith))) in
        record {
          some = w.some;
          heard = w.heard;
          flagged = w.flagged;
          after = omega (arith, w.after);
          within = l;
          same = length-set marks k 0 ∙ w.same;
          rest = λ (j : ℕ) (h : suc k ≤ j). get_or-set_other marks k j 0 0 (λ (s : j ≡ k). omega arith) ∙ w.rest j (omega arith);
          points = w.points;
          walk = on;
          ahead = λ (j : ℕ) (h : suc k ≤ j). w.ahead j (omega arith);
          behind = λ (j : ℕ) (h : first < j) (m : j < suc k). elim (lt_or_le j k) [
            | inl q ↦ get_or-set_other marks k j 0 0 (λ (s : j ≡ k). omega arith) ∙ w.behind j h q
            | inr q ↦ here j (omega arith)
          ];
        }

    -- a block starts at k and ends at `end`, and `point` is its quietest boundary
    module _ (w : HalfMarked levels block first last flags marks k) (e : is_set flags k ≡ false) (end point : ℕ) (f : end ≡ block_end (is_set flags) block last k) (q : point ≡ quietest_of levels k end) where
      over : k < end
      over = omega (arith, f, end_after_lem (is_set flags) block last k w.some l e)

      inside : (k ≤ point) × (point < end)
      inside = rw q (quietest_within levels k end over)

      starts : Opened (is_set flags) levels block last k w.points
      starts = walk_open w.walk l e

      -- the points from k on are this one and those after the block
      now : (j : ℕ) → k ≤ j → (eqb point j || is_in starts.others j) ≡ is_point (is_set flags) levels block first last j
      now j h = ap (λ (p : ℕ). eqb p j || is_in starts.others j) (q ∙ ap (quietest_of levels k) f) ∙ sym (opened_in starts j) ∙ w.ahead j h

      -- the block's point is marked, and all before the block's end are marks
      pub half_open : HalfMarked levels block first last flags (set marks point 1) end
      half_open = record {
        some = w.some;
        heard = w.heard;
        flagged = w.flagged;
        after = omega (arith, w.after, over);
        within = omega (arith, f, end_within_lem (is_set flags) block last k l);
        same = length-set marks point 1 ∙ w.same;
        rest = λ (j : ℕ) (h : end ≤ j). get_or-set_other marks point j 1 0 (λ (s : j ≡ point). omega (arith, inside)) ∙ w.rest j (omega (arith, over));
        points = starts.others;
        walk = subst (λ (m : ℕ). PointWalk (is_set flags) levels block last m starts.others) (sym f) starts.walk;
        ahead = ahead;
        behind = λ (j : ℕ) (h : first < j) (m : j < end). elim (lt_or_le j k) [
          | inl a ↦ get_or-set_other marks point j 1 0 (λ (s : j ≡ point). omega (arith, inside)) ∙ w.behind j h a
          | inr a ↦ here j a m (eqb point j) (eqb-true point j) (eqb-false point j) refl
        ];
      }
        where
          ahead : (j : ℕ) → end ≤ j → is_in starts.others j ≡ is_point (is_set flags) levels block first last j
          ahead j h = (rw (ne_eqb point j (λ (s : point ≡ j). omega (arith, inside))) at (now j (omega (arith, over))))

          none : (j : ℕ) → j < end → is_in starts.others j ≡ false
          none j h = walk_before (is_set flags) levels block last w.some starts.walk j (omega (arith, f))

          clear : (j : ℕ) → k ≤ j → j < end → get_or flags j 0 ≡ 0
          clear j a m = eqb-true (get_or flags j 0) 0 (not-false (eqb (get_or flags j 0) 0) (end_open (is_set flags) block last k j a (omega (arith, f))))

          alone : (j : ℕ) → k ≤ j → j < end → is_point (is_set flags) levels block first last j ≡ eqb point j
          alone j a m = sym (now j a) ∙ rw (none j m) (or-false (eqb point j))

          here : (j : ℕ) → k ≤ j → j < end → (b : Bool) → (b ≡ true → point ≡ j) → (b ≡ false → point ≡ j → ⊥) → eqb point j ≡ b → get_or (set marks point 1) j 0 ≡ mark_at levels block first last flags j
          here j a m true y n t = rw (← y refl) (get_or-set_same marks point 1 0 (omega (arith, inside, f, end_within_lem (is_set flags) block last k l, w.same, w.flagged)) ∙ sym flag_yes ∙ mark point true (alone point inside.0 inside.1 ∙ eq-eqb point point refl))
          here j a m false y n t = get_or-set_other marks point j 1 0 (λ (s : j ≡ point). n refl (sym s)) ∙ w.rest j a ∙ clear j a m ∙ sym flag_no ∙ mark j false (alone j a m ∙ t)

  -- ---- a step, whichever it is

  -- the flags from k on are as they were
  still : (marks : List ℕ) (k : ℕ) → HalfMarked levels block first last flags marks k → (j : ℕ) → k ≤ j → is_set marks j ≡ is_set flags j
  still marks k w j h = rw (w.rest j h)

  -- after the step it holds at the boundary that follows
  pub half_next : (marks marks' : List ℕ) (k k' : ℕ) → k < last → k' ≡ next_of (is_set marks) block last k → marks' ≡ stepped levels block last k marks
      → HalfMarked levels block first last flags marks k → HalfMarked levels block first last flags marks' k'
  unfolding next_of stepped
  half_next marks marks' k k' l a b w = go (is_set flags k) refl (still marks k w k (omega arith)) a b
    where
      same_end : block_end (is_set marks) block last k ≡ block_end (is_set flags) block last k
      same_end = end_same (is_set flags) block last k (is_set marks) (λ (j : ℕ) (h : k ≤ j) (m : j < last). still marks k w j h)

      go : (t : Bool) → is_set flags k ≡ t → is_set marks k ≡ is_set flags k → k' ≡ cond (is_set marks k) (suc k) (block_end (is_set marks) block last k)
          → marks' ≡ cond (is_set marks k) (set marks k 0) (set marks (quietest_of levels k (block_end (is_set marks) block last k)) 1) → HalfMarked levels block first last flags marks' k'
      go true t s c d = rw (rw (s, t) at c, rw (s, t) at d) (half_pass marks k l w t)
      go false t s c d = rw (rw (s, t) at c, rw (s, t) at d, same_end)
          (half_open marks k l w t (block_end (is_set flags) block last k) (quietest_of levels k (block_end (is_set flags) block last k)) refl refl)

  -- what the step needs is there
  pub half_ready : (marks : List ℕ) (k : ℕ) → k < last → HalfMarked levels block first last flags marks k → SpanFlagged block k last levels marks
  half_ready marks k l w = record { some = w.some; order = l; heard = w.heard; flagged = omega (arith, w.same, w.flagged) }

  -- all boundaries strictly inside the span are marked
  pub half_done : (marks : List ℕ) (k : ℕ) → last ≤ k → HalfMarked levels block first last flags marks k → Marked levels block first last flags marks
  half_done marks k h w = record { same = w.same; inside = λ (j : ℕ) (a : first < j) (b : j < last). w.behind j a (omega arith) }

  -- ---- the others are cleared

  -- with 0 up to the span's first boundary and from its last one on, all are marks
  pub marked_all : (marks marks' marks'' : List ℕ) (start end : ℕ) → SpanFlagged block first last levels flags → Marked levels block first last flags marks → start ≡ first + 1 → end ≡ length marks'
      → marks' ≡ put_run 0 start 0 marks → marks'' ≡ put_run last end 0 marks' → marks'' ≡ marks_of levels block first last flags
  unfolding marks_of
  marked_all marks marks' marks'' start end r m s z a b =
      ext_get_or 0 marks'' (tabulate (mark_at levels block first last flags) (length flags)) (size ∙ sym (tabulate-length (mark_at levels block first last flags) (length flags)))
      (λ (j : ℕ) (h : j < length marks''). at j (omega (arith, size)) ∙ sym (tabulate-at (mark_at levels block first last flags) (length flags) j 0 (omega (arith, size))))
    where
      fits : start ≤ length marks
      fits = omega (arith, m.same, r.order, r.flagged)

      size' : length marks' ≡ length flags
      size' = rw a (put_length 0 start 0 marks (omega arith) fits) ∙ m.same

      to : last ≤ end
      to = omega (arith, size', r.flagged)

      size : length marks'' ≡ length flags
      size = rw b (put_length last end 0 marks' to (omega arith)) ∙ size'

      none : (j : ℕ) → is_in (grid_points (is_set flags) levels block first last) j ≡ false → 0 ≡ mark_at levels block first last flags j
      none j e = unfold mark_at in unfold is_point in rw (e, flag_no)

      points : PointWalk (is_set flags) levels block last (suc first) (grid_points (is_set flags) levels block first last)
      points = points_walk (is_set flags) levels block last r.some first

      before : (j : ℕ) → j < last → get_or marks'' j 0 ≡ get_or marks' j 0
      before j h = rw b (put_before last end 0 marks' to (omega arith) j 0 h)

      at : (j : ℕ) → j < length flags → get_or marks'' j 0 ≡ mark_at levels block first last flags j
      at j h = elim (lt_or_le j last) [
        | inl l ↦ elim (lt_or_le j start) [
          | inl k ↦ before j l ∙ rw a (put_in 0 start 0 marks (omega arith) fits j 0 (omega arith) k) ∙ none j (walk_before (is_set flags) levels block last r.some points j (omega arith))
          | inr k ↦ before j l ∙ rw a (put_after 0 start 0 marks (omega arith) fits j 0 k) ∙ m.inside j (omega arith) l
        ]
        | inr l ↦ rw b (put_in last end 0 marks' to (omega arith) j 0 l (omega (arith, size'))) ∙ none j (walk_beyond (is_set flags) levels block last r.some points j l)
      ]

-- ---- a flag

module _ (flags : List ℕ) (k : ℕ) where
  set_yes : (get_or flags k 0 ≡ 0 → ⊥) → is_set flags k ≡ true
  set_yes h = rw (ne_eqb (get_or flags k 0) 0 h)

  set_no : get_or flags k 0 ≡ 0 → is_set flags k ≡ false
  set_no h = rw (eq-eqb (get_or flags k 0) 0 h)

-- ---- a block's end

-- what holds while a loop that ends at `most` looks at one flag after another
pub record Opening (flags : List ℕ) (block last k most end : ℕ) : Type 0 where
  pub is : most ≡ min (k + block) last
  pub after : k ≤ end
  pub within : end ≤ most
  pub left : open_to (is_set flags) (most - end) end ≡ block_end (is_set flags) block last k

module _ (flags : List ℕ) (block last k most : ℕ) where
  -- at the block's start nothing is looked at yet
  pub opening_start : k < last → most ≡ min (k + block) last → Opening flags block last k most k
  opening_start h e = record { is = e; after = omega arith; within = omega arith; left = unfold block_end in rw e }

  module _ (end : ℕ) (o : Opening flags block last k most end) where
    -- an open boundary is passed
    pub opening_next : end < most → get_or flags end 0 ≡ 0 → Opening flags block last k most (end + 1)
    opening_next h e =
        let more : most - end ≡ suc (most - suc end) = omega arith in
        let passed : open_to (is_set flags) (most - end) end ≡ open_to (is_set flags) (most - suc end) (suc end) =
        rw more (open_pass (is_set flags) (most - suc end) end (set_no flags end e)) in
        record { is = o.is; after = omega (arith, o.after); within = omega arith; left = rw add-one (sym passed ∙ o.left) }

    -- a blocked boundary ends the block
    pub opening_shut : (get_or flags end 0 ≡ 0 → ⊥) → end ≡ block_end (is_set flags) block last k
    opening_shut e = sym (open_shut (is_set flags) (most - end) end (set_yes flags end e)) ∙ o.left

    -- without one it ends at `most`
    pub opening_done : most ≤ end → most ≡ block_end (is_set flags) block last k
    opening_done h =
        let whole : (left : ℕ) → left ≡ 0 → open_to (is_set flags) left end ≡ end = λ left e. unfold open_to in rw e in
        let all : most ≡ end = omega (arith, o.within) in
        all ∙ sym (whole (most - end) (omega arith)) ∙ o.left

-- ---- a step

module _ (block last k : ℕ) (levels : List Float) (marks : List ℕ) where
  -- k is blocked
  pub step_shut : (get_or marks k 0 ≡ 0 → ⊥) → (k + 1 ≡ next_of (is_set marks) block last k) × (set marks k 0 ≡ stepped levels block last k marks)
  unfolding next_of stepped
  step_shut h = (rw (set_yes marks k h, add-one), rw (set_yes marks k h))

  -- a block starts at k
  pub step_open : get_or marks k 0 ≡ 0 → (end at : ℕ) → end ≡ block_end (is_set marks) block last k → at ≡ quietest_of levels k end
      → (end ≡ next_of (is_set marks) block last k) × (set marks at 1 ≡ stepped levels block last k marks)
  unfolding next_of stepped
  step_open h end at e f = (rw (set_no marks k h) e, rw (set_no marks k h, f, e))

  module _ (r : SpanFlagged block k last levels marks) (h : get_or marks k 0 ≡ 0) (end : ℕ) (e : end ≡ block_end (is_set marks) block last k) where
    -- it has a boundary at least, and ends inside the list
    pub step_some : (k < end) × (end ≤ last)
    step_some = (omega (arith, e, end_after_lem (is_set marks) block last k r.some r.order (set_no marks k h)), omega (arith, e, end_within_lem (is_set marks) block last k r.order))

    -- its point stands before the span's last boundary
    pub step_inside : (at : ℕ) → at ≡ quietest_of levels k end → at < last
    step_inside at f = omega (arith, f, quietest_within levels k end step_some.0, step_some)

-- it goes on
pub step_after : (block last k : ℕ) (levels : List Float) (marks : List ℕ) → SpanFlagged block k last levels marks → k < next_of (is_set marks) block last k
unfolding next_of
step_after block last k levels marks r = elim (tested (is_set marks k)) [
  | inl e ↦ rw e (omega arith)
  | inr e ↦ rw e (end_after_lem (is_set marks) block last k r.some r.order e)
]
