-- The walk back that writes within the list that it reads: from the path's place on the list goes through the states of the walk that writes to a list
-- of its own, and before that place, where the parents stand, nothing is written.
use Rattle.std.specs.Prelude.{◌≡◌, refl, List, ℕ, ◌+◌, ◌-◌, ◌≤◌, ◌<◌, length, get_or, take, drop, set}
use Rattle.std.proofs.Common.{sym, ap, ◌∙◌, arith, length-set, length-drop, length-take, get_or-take, get_or-drop}
use Rattle.std.proofs.lemmas.List.{take-set-le, drop-set-add}
use Rattle.candidate_points.specs.Placed.{placed}
use Rattle.path_by_length.specs.Table.{way_to}
use Rattle.path_by_length.specs.Solved.{parent_at}
use Rattle.path_by_length.specs.WalkLaws.{WritingBack, writing_back_start, writing_back_room, writing_back_later, writing_back_next, writing_back_done}
use Rattle.plan_lists.specs.Within.{part_at}
use Rattle.plan_lists.specs.WithinLaws.{within-placed}
use Rattle.plan_lists.specs.Back.{WayRoom}

module _ (parents n at : ℕ) where
  -- the parents that stood in the list
  abbrev parent_in : List ℕ → ℕ → ℕ
  parent_in work₀ = parent_at (part_at parents n work₀)

  -- the last candidates of the way are written, from place k on, and those up to j are left
  pub record WritingWithin (work₀ work : List ℕ) (k j : ℕ) : Type 0 where
    pub same : length work ≡ length work₀
    pub before : take at work ≡ take at work₀
    pub writing : WritingBack (parent_in work₀) (n - 1) (drop at work₀) (drop at work) k j

  module _ {work₀ : List ℕ} {len : ℕ} (r : WayRoom parents n at work₀ len) where
    fits : length (way_to (parent_in work₀) (n - 1)) ≤ length (drop at work₀)
    fits = rw length-drop (omega (arith, r.long, r.room))

    -- before the first step
    pub within_start : WritingWithin work₀ work₀ len (n - 1)
    within_start = record { same = refl; before = refl; writing = writing_back_start r.leads.falling (drop at work₀) fits len r.long }

    module _ {work : List ℕ} {k j : ℕ} (w : WritingWithin work₀ work k j) where
      -- there is a place for the candidate
      pub within-room : (0 < k) × (at + k ≤ length work)
      within-room =
          let s = writing_back_room r.leads.falling (drop at work₀) fits (drop at work) k j w.writing in
          (s.0, omega (arith, s.0, s.1, length-drop at work))

      -- and its parent stands before the path
      pub within_inside : (j < n) × (parents + j < at)
      within_inside =
          let s = r.leads.inside in
          let t = length-take n (drop parents work₀) in
          (omega (arith, s, t, w.writing.0), omega (arith, s, t, w.writing.0, r.apart))

      kept : get_or work (parents + j) 0 ≡ parent_in work₀ j
      kept =
          sym (get_or-take at work (parents + j) 0 within_inside.1) ∙ ap (λ (xs : List ℕ). get_or xs (parents + j) 0) w.before
          ∙ get_or-take at work₀ (parents + j) 0 within_inside.1 ∙ sym (get_or-drop parents work₀ j 0)
          ∙ sym (get_or-take n (drop parents work₀) j 0 within_inside.0)

      -- more than one is left where candidate j is not the first
      pub within_later : 1 < k → 0 < j
      within_later h = writing_back_later r.leads.falling (drop at work₀) fits (drop at work) k j h w.writing

      -- one step back
      pub within_next : (i : ℕ) → i ≡ k - 1 → 0 < j → WritingWithin work₀ (set work (at + i) j) i (parent_in work₀ j)
      within_next i e h = record {
        same = length-set work (at + i) j ∙ w.same;
        before = take-set-le at work (at + i) j (omega arith) ∙ w.before;
        writing = rw (drop-set-add, e) (writing_back_next r.leads.falling (drop at work₀) fits (drop at work) k j h w.writing);
      }

      -- the parent that is read after the candidate is written
      pub within_read : (i : ℕ) → get_or (set work (at + i) j) (parents + j) 0 ≡ parent_in work₀ j
      within_read i =
          sym (get_or-take at (set work (at + i) j) (parents + j) 0 within_inside.1)
          ∙ ap (λ (xs : List ℕ). get_or xs (parents + j) 0) (take-set-le at work (at + i) j (omega arith))
          ∙ get_or-take at work (parents + j) 0 within_inside.1 ∙ kept

      -- where one is left the whole way is written with it
      pub within_done : k ≤ 1 → set work at 0 ≡ placed at (way_to (parent_in work₀) (n - 1)) work₀
      within_done h =
          let z : at + 0 ≡ at = omega arith in
          within-placed at (way_to (parent_in work₀) (n - 1)) work₀ (set work at 0)
          (take-set-le at work at 0 (omega arith) ∙ w.before)
          (ap (λ (p : ℕ). drop at (set work p 0)) (sym z) ∙ drop-set-add at work 0 0
          ∙ writing_back_done r.leads.falling (drop at work₀) fits (drop at work) k j h w.writing)
