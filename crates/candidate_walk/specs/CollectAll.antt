-- What stands in work memory once both ends of the span are written beside its survivors.
-- The whole of `collect`: what its last steps need, and what they leave.
use Rattle.std.specs.Prelude.{◌≡◌, List, [], ◌∷◌, ◌++◌, ℕ, ◌+◌, ◌*◌, ◌≤◌, suc, ◌-◌, ◌<◌, Float, length, take, drop}
use Rattle.std.proofs.Common.{sym, ap, ◌∙◌, append_assoc, arith, length-append, length-take-le, drop_at}
use Rattle.base_terms.specs.Layout.{side, entries_at, search_at, costs_at, scores_at}
use Rattle.candidate_span.specs.declared.held.HeldSpan.{HeldSpan}
use Rattle.candidate_points.specs.Placed.{placed}
use Rattle.candidate_points.specs.PlacedLaws.{placed-take, placed-length}
use Rattle.candidates.specs.declared.candidate.Candidate.{Candidate}
use Rattle.candidates.specs.Entries.{entries_of, costs_of}
use Rattle.candidate_walk.specs.Held.{silences_held, levels_held}
use Rattle.candidates.specs.EntriesLaws.{entries_length, costs_length, entries_append, costs_append}
use Rattle.candidate_walk.specs.HeldLaws.{placed-more, Puttable}
use Rattle.candidate_cuts.specs.CutsLaws.{inner_cut}
use Rattle.candidates.specs.declared.context.Context.{Context}
use Rattle.candidates.specs.Candidates.{node, candidates_of}
use Rattle.candidates.specs.Row.{survivors_few}
use Rattle.candidate_walk.specs.Collect.{inner_from, inner_to, listed_held, inside_held, collected}
use Rattle.candidate_walk.specs.CollectLaws.{AtSilence, Collectable}
use Rattle.candidate_walk.specs.CollectStep.{InnerRange, last_in_lem, first_below}
use Rattle.candidate_walk.specs.CollectDone.{held_ranged}

-- what is placed right before what was placed
placed-front : {A : Type 0} (base : ℕ) (p q xs : List A) (at : ℕ) → at ≡ base + length p → at + length q ≤ length xs → placed base p (placed at q xs) ≡ placed base (p ++ q) xs
unfolding placed
placed-front {A = A} base p q xs at e h =
    let before : take base (take at xs ++ (q ++ drop (at + length q) xs)) ≡ take base xs = placed-take at q xs h base (omega (arith, e)) in
    let after : drop at (take at xs ++ (q ++ drop (at + length q) xs)) ≡ q ++ drop (at + length q) xs =
    drop_at (take at xs) (q ++ drop (at + length q) xs) at (length-take-le at xs (omega arith)) in
    let far : at + length q ≡ base + length (p ++ q) = simp length-append (omega (arith, e)) in
    let ends : drop (at + length q) xs ≡ drop (base + length (p ++ q)) xs = ap (λ (k : ℕ). drop k xs) far in
    rw (before, ← e, after, append_assoc p q, ends)

-- three parts side by side, the middle one placed first
beside : {A : Type 0} (base : ℕ) (p q r xs : List A) (one two three : ℕ) → one ≡ base + length p → two ≡ base → three ≡ base + length p + length q → three + length r ≤ length xs
    → placed three r (placed two p (placed one q xs)) ≡ placed base (p ++ (q ++ r)) xs
beside base p q r xs one two three a b c h =
    rw b
    (ap (placed three r) (placed-front base p q xs one a (omega (arith, a, c)))
    ∙ placed-more base (p ++ q) r xs three (simp length-append (omega (arith, c))) (omega arith) ∙ ap (λ (l : List _). placed base l xs) (append_assoc p q r))

-- the candidates of the span: its first end, the survivors, its last end
module _ (n : ℕ) (first last : Candidate) (cs : List Candidate) (few : length cs + 2 ≤ side n) where
  abbrev all : List Candidate
  all = first ∷ (cs ++ (last ∷ []))

  -- two more than the survivors
  pub ends-number : length cs + 1 + 1 ≡ length all
  ends-number = simp length-append (omega arith)

  -- their entries stand one behind another once the survivors, then the first and then the last end are written
  pub ends_entries : (work work₁ work₂ work₃ : List ℕ) → search_at n ≤ length work
      → work₁ ≡ placed (entries_at n + 3) (entries_of cs) work
      → work₂ ≡ placed (entries_at n + 3 * 0) (entries_of (first ∷ [])) work₁
      → work₃ ≡ placed (entries_at n + 3 * (length cs + 1)) (entries_of (last ∷ [])) work₂ → work₃ ≡ placed (entries_at n) (entries_of all) work
  ends_entries work work₁ work₂ work₃ room e f g =
      rw (g, f, e)
      (beside (entries_at n) (entries_of (first ∷ [])) (entries_of cs) (entries_of (last ∷ [])) work (entries_at n + 3) (entries_at n + 3 * 0) (entries_at n + 3 * (length cs + 1))
      (omega (arith, entries_length (first ∷ []))) (omega arith) (omega (arith, entries_length (first ∷ []), entries_length cs)) (omega (arith, entries_length (last ∷ [])))
      ∙ ap (λ (l : List ℕ). placed (entries_at n) l work) (ap (λ (l : List ℕ). entries_of (first ∷ []) ++ l) (sym (entries_append cs (last ∷ []))) ∙ sym (entries_append (first ∷ []) (cs ++ (last ∷ [])))))

  -- so do their costs
  pub ends_costs : (work work₁ work₂ work₃ : List Float) → scores_at n ≤ length work
      → work₁ ≡ placed (costs_at n + 1) (costs_of cs) work
      → work₂ ≡ placed (costs_at n + 0) (costs_of (first ∷ [])) work₁
      → work₃ ≡ placed (costs_at n + (length cs + 1)) (costs_of (last ∷ [])) work₂ → work₃ ≡ placed (costs_at n) (costs_of all) work
  ends_costs work work₁ work₂ work₃ room e f g =
      rw (g, f, e)
      (beside (costs_at n) (costs_of (first ∷ [])) (costs_of cs) (costs_of (last ∷ [])) work (costs_at n + 1) (costs_at n + 0) (costs_at n + (length cs + 1))
      (omega (arith, costs_length (first ∷ []))) (omega arith) (omega (arith, costs_length (first ∷ []), costs_length cs)) (omega (arith, costs_length (last ∷ [])))
      ∙ ap (λ (l : List Float). placed (costs_at n) l work) (ap (λ (l : List Float). costs_of (first ∷ []) ++ l) (sym (costs_append cs (last ∷ []))) ∙ sym (costs_append (first ∷ []) (cs ++ (last ∷ [])))))

module _ {x : Context} {span : HeldSpan} {from stop : ℕ} {work : List ℕ} {workf : List Float} (c : Collectable x span work workf)
    (begins : from ≡ inner_from span.silences work) (ends : stop ≡ inner_to x.padding.frames span.silences work) where
  abbrev frames : ℕ
  frames = x.padding.frames

  -- the walk looks at the silences with sound on both sides
  pub all_ranged : InnerRange x (silences_held span.silences work) from stop
  all_ranged = rw (begins, ends) (held_ranged x span.silences work workf c.holding)

  -- the first silence of the range can be cut
  pub all_silent_lem : from < stop → AtSilence x span.silences work workf from
  all_silent_lem h =
      let i = all_ranged.inner from (omega arith) h in
      record { cuttable = record { listed = i.listed; inner = inner_cut x.gap x.placement x.padding (levels_held frames workf) (silences_held span.silences work) c.prepared from i } }

  abbrev middle : List Candidate
  middle = inside_held x span work workf

  within : span.last ≤ frames
  within = last_in_lem c all_ranged

  order : span.first < span.last
  order = first_below c all_ranged

  few : length middle + 2 ≤ side frames
  few = omega (arith, within, order, survivors_few (listed_held x span work workf) (span.last - suc span.first) span.first)

  -- ---- both ends of the span may be written

  module _ {work₁ : List ℕ} {workf₁ : List Float} (held : work₁ ≡ placed (entries_at frames + 3) (entries_of middle) work) (costs : workf₁ ≡ placed (costs_at frames + 1) (costs_of middle) workf) where
    size : length work₁ ≡ length work
    size = rw held (placed-length (entries_at frames + 3) (entries_of middle) work (omega (arith, few, entries_length middle, c.holding.room)))

    sizef : length workf₁ ≡ length workf
    sizef = rw costs (placed-length (costs_at frames + 1) (costs_of middle) workf (omega (arith, few, costs_length middle, c.holding.roomf)))

    -- the first end, before the survivors
    pub first_puttable : {d : Candidate} → d ≡ node span.first → Puttable d 0 frames work₁ workf₁
    first_puttable e = record {
      few = c.holding.few;
      inside = omega arith;
      left_in = rw e (omega (arith, order, within));
      right_in = rw e (omega (arith, order, within));
      room = omega (arith, size, c.holding.room);
      roomf = omega (arith, sizef, c.holding.roomf);
    }

    module _ {d : Candidate} {work₂ : List ℕ} {workf₂ : List Float} (is : d ≡ node span.first) (held₂ : work₂ ≡ placed (entries_at frames + 3 * 0) (entries_of (d ∷ [])) work₁)
        (costs₂ : workf₂ ≡ placed (costs_at frames + 0) (costs_of (d ∷ [])) workf₁) {written : ℕ} (number : written ≡ length middle + 1) where
      size₂ : length work₂ ≡ length work
      size₂ = rw held₂ (placed-length (entries_at frames + 3 * 0) (entries_of (d ∷ [])) work₁ (omega (arith, size, entries_length (d ∷ []), c.holding.room))) ∙ size

      size₂f : length workf₂ ≡ length workf
      size₂f = rw costs₂ (placed-length (costs_at frames + 0) (costs_of (d ∷ [])) workf₁ (omega (arith, sizef, costs_length (d ∷ []), c.holding.roomf))) ∙ sizef

      -- the last end, behind them
      pub last_puttable : {e : Candidate} → e ≡ node span.last → Puttable e written frames work₂ workf₂
      last_puttable q = search (arith, c.holding.few, number, few, q, within, size₂, c.holding.room, size₂f, c.holding.roomf)

      -- all of them find room
      pub all-fits : written + 1 ≤ side frames
      all-fits = omega (arith, number, few)

      -- ---- and all is written then

      -- as many as are collected
      pub all-number : written + 1 ≡ length (collected x span work workf)
      unfolding collected candidates_of
      all-number = rw number (ends-number frames (node span.first) (node span.last) middle few)

      module _ {e : Candidate} {work₃ : List ℕ} {workf₃ : List Float} (q : e ≡ node span.last) (held₃ : work₃ ≡ placed (entries_at frames + 3 * written) (entries_of (e ∷ [])) work₂)
          (costs₃ : workf₃ ≡ placed (costs_at frames + written) (costs_of (e ∷ [])) workf₂) where
        -- with their entries in the u32 list
        pub all_entries : work₃ ≡ placed (entries_at frames) (entries_of (collected x span work workf)) work
        unfolding collected candidates_of
        all_entries = ends_entries frames (node span.first) (node span.last) middle few work work₁ work₂ work₃ c.holding.room held (held₂ ∙ rw is) (held₃ ∙ rw (q, number))

        -- and their costs in the f64 list
        pub all_costs : workf₃ ≡ placed (costs_at frames) (costs_of (collected x span work workf)) workf
        unfolding collected candidates_of
        all_costs = ends_costs frames (node span.first) (node span.last) middle few workf workf₁ workf₂ workf₃ c.holding.roomf costs (costs₂ ∙ rw is) (costs₃ ∙ rw (q, number))
