-- Candidates are written one behind another; what they are made from stands before them, and stays.
-- What writing a candidate down needs, and that three stores and one are what is placed.
use Rattle.std.specs.Prelude.{◌≡◌, List, [], ◌++◌, ◌∷◌, ℕ, ◌+◌, ◌*◌, ◌≤◌, Float, length, take, drop, set}
use Rattle.std.proofs.Common.{sym, ap, ◌∙◌, append_assoc, add-zero, arith, length-append, take-append-drop, take_at, length-take-le, drop-drop, drop_at, take-add}
use Rattle.std.proofs.Math.Seq.{drop-append-add}
use Rattle.std.proofs.lemmas.List.Edits.{sets, sets-eq}
use Rattle.std.proofs.Math.Numerals.{add-one, add-two}
use Rattle.base_terms.specs.Layout.{runs_at, marks_at, entries_at, search_at, costs_at, scores_at}
use Rattle.candidate_points.specs.Placed.{placed}
use Rattle.candidate_points.specs.PlacedLaws.{placed-length, placed-take, placed-before}
use Rattle.candidate_walk.specs.Held.{silences_held, runs_held, levels_held, marked}
use Rattle.grid.specs.Limits.{max_frames}
use Rattle.candidates.specs.declared.candidate.Candidate.{Candidate}
use Rattle.candidates.specs.Candidates.{reason_number}
use Rattle.candidates.specs.Entries.{entries_of, costs_of}

-- ---- one behind another

-- what is placed right behind what was placed
pub placed-more : {A : Type 0} (base : ℕ) (p q xs : List A) (at : ℕ) → at ≡ base + length p → at ≤ length xs → placed at q (placed base p xs) ≡ placed base (p ++ q) xs
unfolding placed
placed-more {A = A} base p q xs at e h =
    let front : List A = take base xs ++ p in
    let rest : List A = drop (base + length p) xs in
    let whole : take base xs ++ (p ++ rest) ≡ front ++ rest = sym (append_assoc (take base xs) p rest) in
    let size : length front ≡ at = simp (length-append, length-take-le base xs (omega (arith, e))) (sym e) in
    let ends : base + length p + length q ≡ base + length (p ++ q) = simp length-append (omega arith) in
    let drops : drop (at + length q) (front ++ rest) ≡ drop (base + length (p ++ q)) xs =
    ap (λ (k : ℕ). drop (k + length q) (front ++ rest)) (sym size) ∙ drop-append-add front rest (length q) ∙ drop-drop (length q) (base + length p) xs ∙ ap (λ (k : ℕ). drop k xs) ends in
    rw (whole, take_at front rest at size, drops, append_assoc (take base xs) p, append_assoc p q)

-- nothing is placed
pub placed-none : {A : Type 0} (base : ℕ) (xs : List A) → placed base [] xs ≡ xs
unfolding placed
placed-none base xs = ap (λ (k : ℕ). take base xs ++ drop k xs) (add-zero base) ∙ take-append-drop base xs

-- ---- what stands before stays

module _ (n : ℕ) (work : List ℕ) (p : List ℕ) (at : ℕ) (after : entries_at n ≤ at) (fits : at + length p ≤ length work) where
  -- the silences
  pub silences-stay : (silences : ℕ) → 2 * silences ≤ runs_at n → silences_held silences (placed at p work) ≡ silences_held silences work
  silences-stay silences h = placed-take at p work fits (2 * silences) (omega arith)

  -- the marks
  pub marks_stay : (k : ℕ) → k ≤ n → marked n (placed at p work) k ≡ marked n work k
  marks_stay k h = rw (placed-before at p work fits (marks_at n + k) 0 (omega arith))

  -- the quiet stretches
  pub runs-stay : runs_held n (placed at p work) ≡ runs_held n work
  runs-stay =
      let base = runs_at n in
      let parts : (xs : List ℕ) → base ≤ length xs → take n (drop base xs) ≡ drop base (take (base + n) xs) =
      λ xs h. sym (ap (drop base) (take-add base n xs) ∙ drop_at (take base xs) (take n (drop base xs)) base (length-take-le base xs h)) in
      parts (placed at p work) (omega (arith, placed-length at p work fits)) ∙ ap (drop base) (placed-take at p work fits (base + n) (omega arith)) ∙ sym (parts work (omega arith))

module _ (n : ℕ) (workf p : List Float) (at : ℕ) (after : costs_at n ≤ at) (fits : at + length p ≤ length workf) where
  -- the levels
  pub levels-stay : levels_held n (placed at p workf) ≡ levels_held n workf
  levels-stay = placed-take at p workf fits (costs_at n) after

-- boundaries of the recording, and room for candidate number `at`
pub record Puttable (c : Candidate) (at frames : ℕ) (work : List ℕ) (workf : List Float) : Type 0 where
  pub few : frames ≤ max_frames
  pub inside : at ≤ frames
  pub left_in : c.left ≤ frames
  pub right_in : c.right ≤ frames
  pub room : search_at frames ≤ length work
  pub roomf : scores_at frames ≤ length workf

-- neighbouring stores are what is placed
stores : {A : Type 0} (vs xs : List A) (i : ℕ) → i + length vs ≤ length xs → sets xs i vs ≡ placed i vs xs
unfolding placed
stores vs xs i h = sets-eq vs xs i h ∙ append_assoc (take i xs) vs (drop (i + length vs) xs)

module _ (c : Candidate) (at frames : ℕ) (work : List ℕ) (workf : List Float) (p : Puttable c at frames work workf) where
  -- three stores from its place on are its entry
  pub put_entries : (here : ℕ) → here ≡ entries_at frames + 3 * at
      → set (set (set work here c.left) (here + 1) c.right) (here + 2) (reason_number c.reason) ≡ placed (entries_at frames + 3 * at) (entries_of (c ∷ [])) work
  unfolding entries_of
  put_entries here e =
      rw (← e, add-one here, add-two here) (stores (c.left ∷ (c.right ∷ (reason_number c.reason ∷ []))) work here (omega (arith, e, p.room, p.inside)))

  -- and one is its cost
  pub put_cost : (here : ℕ) → here ≡ costs_at frames + at → set workf here c.cost ≡ placed (costs_at frames + at) (costs_of (c ∷ [])) workf
  unfolding costs_of
  put_cost here e = rw (← e) (stores (c.cost ∷ []) workf here (omega (arith, e, p.roomf, p.inside)))
