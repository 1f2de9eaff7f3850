-- The ends of a plan, by the tests that lead to each and whatever the output: which of them makes a plan, along which path, and what the others say.
use Rattle.std.proofs.Math.Path.{◌≡◌, refl}
use Rattle.std.specs.Prelude.{Bool, List, [], Ok, Err}
use Rattle.std.proofs.Math.Bool.{true, false}
use Rattle.std.proofs.Math.Logic.{inl, inr}
use Prim.Native.Nat.{ℕ, ◌-◌, ◌*◌, ◌<◌, min}
use Rattle.std.proofs.Common.{arith, leb-false, le-leb}
use Rattle.std.proofs.lemmas.Bool.{lt-leb}
use Rattle.std.proofs.Math.ListN.{length}
use Rattle.base_laws.specs.Tests.{tested}
use Rattle.base_terms.specs.Lists.{onto}
use Rattle.grid.specs.declared.boundary.FrameGrid.{FrameGrid}
use Rattle.path_pieces.specs.declared.mode.Mode.{Mode}
use Rattle.path_pieces.specs.declared.mode.Mode.TheVariants.{ByLength, ByCount}
use Rattle.plan_settings.specs.declared.config.PlanConfig.{PlanConfig}
use Rattle.candidate_span.specs.Gaps.{Cut}
use Rattle.candidates.specs.declared.candidate.Candidate.{Candidate}
use Rattle.candidate_span.specs.Span.{Span}
use Rattle.plan_tests.specs.declared.refusal.Refusal.{Refusal}
use Rattle.completion_reach.specs.Reach.{reach_of}
use Rattle.plan_lengths.specs.PlanLengths.{maximum_in}
use Rattle.plan_pieces.specs.PlanAlong.{plan_pieces, plan_cuts}
use Rattle.plan_pieces.specs.Output.{Output, output_of, Handed, handed_of, pick, has_room, handed_out_of}
use Rattle.plan_pieces.specs.OutputLaws.{room_parts}
use Rattle.plan_pieces.specs.AnswerLaws.{Numbered}
use Rattle.plan_pieces.specs.declared.answer.Error.TheVariants.{Refused, ShortParent, ShortOutput}
use Rattle.plan_steps.specs.Steps.{plan_along}
use Rattle.plan_lists.specs.Parents.{has_parents}
use Rattle.plan_modes.specs.Plan.{completed_by_length, path_by_length, plan_by_length, path_by_count, suffices, planned_under, completed_by_count, planned_after, plan_by_count, plan_by}
use Rattle.plan_theorems.specs.Made.{HasRoom}

-- ---- a plan along a path

-- what it leaves where the output has room
pub record HandedAlong (g : FrameGrid) (settings : PlanConfig) (cs : List Candidate) (path : List ℕ) (k : ℕ) (before after : Output) : Type 0 where
  pub number : length path - 1 ≡ k
  pub fits : HasRoom k before
  pub is : after ≡ output_of (onto (plan_pieces g settings cs path) before.pieces) (onto (plan_cuts g cs path) before.cuts)

room_there : (k : ℕ) (out : Output) → HasRoom k out → has_room k (length out.pieces) (length out.cuts) ≡ true
unfolding has_room
room_there k out h = rw (le-leb (3 * k) (length out.pieces) h.0, le-leb (3 * (k - 1)) (length out.cuts) h.1)

module _ (g : FrameGrid) (settings : PlanConfig) (cs : List Candidate) (path : List ℕ) where
  -- with room, a plan of one piece fewer than candidates
  along_made : (out : Output) → HasRoom (length path - 1) out → (plan_along g settings cs path out).answer ≡ Ok (length path - 1)
  unfolding handed_out_of
  along_made out h = rw (room_there (length path - 1) out h)

  module _ (out : Output) where
    abbrev whole : Output
    whole = output_of (onto (plan_pieces g settings cs path) out.pieces) (onto (plan_cuts g cs path) out.cuts)

    abbrev handed : Bool → Handed
    handed b = pick b (handed_of (Ok (length path - 1)) whole) (handed_of (Err ShortOutput) out)

    -- where a plan is made, it is handed out along the path
    pub handed-along : (k : ℕ) → (plan_along g settings cs path out).answer ≡ Ok k → HandedAlong g settings cs path k out (plan_along g settings cs path out).out
    unfolding handed_out_of
    handed-along k = go (has_room (length path - 1) (length out.pieces) (length out.cuts)) (room_parts (length path - 1) (length out.pieces) (length out.cuts))
      where
        go : (b : Bool) → (b ≡ true → HasRoom (length path - 1) out) → (handed b).answer ≡ Ok k → HandedAlong g settings cs path k out (handed b).out
        go true f e =
            let n : length path - 1 ≡ k = cc in
            record { number = n; fits = (rw (← n) (f refl).0, rw (← n) (f refl).1); is = refl }
        go false f e = let z : ◌≡◌ {A = ℕ} 0 1 = cc in absurd (omega arith)

    -- without room it is 12
    pub along_refused : (HasRoom (length path - 1) out → ⊥) → (plan_along g settings cs path out).answer ≡ Err ShortOutput
    unfolding handed_out_of
    along_refused never = elim (tested (has_room (length path - 1) (length out.pieces) (length out.cuts))) [
      | inl e ↦ absurd (never (room_parts (length path - 1) (length out.pieces) (length out.cuts) e))
      | inr e ↦ rw e
    ]

    -- 12 alone is said otherwise, and then there is no room
    along-short : (plan_along g settings cs path out).answer ≡ Err ShortOutput → HasRoom (length path - 1) out → ⊥
    along-short e h = let f = along_made out h in let z : ◌≡◌ {A = ℕ} 0 1 = cc in omega arith

-- ---- by which tests an end is reached

-- an end: a plan along a path, or a refusal
pub data PlanEnd : Type 0 where
  along : List Candidate → List ℕ → PlanEnd
  short_parent : PlanEnd

-- what it hands out
abbrev pub handed_by : FrameGrid → PlanConfig → PlanEnd → Output → Handed
handed_by g settings (along cs path) out = plan_along g settings cs path out
handed_by g settings short_parent out = handed_of (Err ShortParent) out

module _ (g : FrameGrid) (settings : PlanConfig) (s : Span) (with : List Cut → List Candidate) (count parents : ℕ) where
  abbrev maximum : ℕ
  maximum = maximum_in g settings

  -- document 01's reach, and the candidates that are completed under it
  abbrev reach : ℕ
  reach = reach_of g s count maximum

  abbrev second : List Candidate
  second = completed_by_count g settings s with count reach

  -- which end a plan by count has, by the tests that lead there
  pub data CountEnd : PlanEnd → Type 0 where
    first_short : has_parents count (length (with [])) parents ≡ false → CountEnd short_parent
    at_first : suffices g settings s count maximum (with []) ≡ true → CountEnd (along (with []) (path_by_count g settings s count maximum (with [])))
    second_short : suffices g settings s count maximum (with []) ≡ false → has_parents count (length second) parents ≡ false → CountEnd short_parent
    with_reach : suffices g settings s count maximum (with []) ≡ false → CountEnd (along second (path_by_count g settings s count reach second))

  -- ---- what the tests give, whatever the output

  -- 14 at the first path
  pub short-at-first : has_parents count (length (with [])) parents ≡ false → (out : Output) → plan_by_count g settings s with count parents out ≡ handed_of (Err ShortParent) out
  unfolding plan_by_count
  short-at-first h out = rw h

  -- 14 at the second, or at the first before it
  pub short-at-second : suffices g settings s count maximum (with []) ≡ false → has_parents count (length second) parents ≡ false
      → (out : Output) → plan_by_count g settings s with count parents out ≡ handed_of (Err ShortParent) out
  unfolding plan_by_count planned_under
  short-at-second e h out = elim (tested (has_parents count (length (with [])) parents)) [ inl t ↦ rw (t, e, h) | inr t ↦ rw t ]

-- one of them is reached, whatever the output
pub record EndReached (Kind : PlanEnd → Type 0) (g : FrameGrid) (settings : PlanConfig) (f : Output → Handed) : Type 0 where
  pub end : PlanEnd
  pub kind : Kind end
  pub is : (out : Output) → f out ≡ handed_by g settings end out

module _ (g : FrameGrid) (settings : PlanConfig) (s : Span) (with : List Cut → List Candidate) (count parents : ℕ) where
  abbrev Ends : (Output → Handed) → Type 0
  Ends f = EndReached (CountEnd g settings s with count parents) g settings f

  second-end : suffices g settings s count (maximum_in g settings) (with []) ≡ false → Ends (λ (out : Output). planned_after g settings s with count parents out)
  unfolding planned_under
  second-end e = go (has_parents count (length cs) parents) refl
    where
      limit : ℕ
      limit = reach_of g s count (maximum_in g settings)

      cs : List Candidate
      cs = completed_by_count g settings s with count limit

      go : (b : Bool) → has_parents count (length cs) parents ≡ b
          → Ends (λ (out : Output). pick (has_parents count (length cs) parents) (plan_along g settings cs (path_by_count g settings s count limit cs) out) (handed_of (Err ShortParent) out))
      go true h = record { end = along cs (path_by_count g settings s count limit cs); kind = with_reach e; is = λ out. rw h }
      go false h = record { end = short_parent; kind = second_short e h; is = λ out. rw h }

  -- by count one of the ends is reached
  pub count_end : Ends (λ (out : Output). plan_by_count g settings s with count parents out)
  unfolding plan_by_count
  count_end = go (has_parents count (length (with [])) parents) (suffices g settings s count (maximum_in g settings) (with [])) refl refl
    where
      go : (b c : Bool) → has_parents count (length (with [])) parents ≡ b → suffices g settings s count (maximum_in g settings) (with []) ≡ c
          → Ends (λ (out : Output). plan_by_count g settings s with count parents out)
      go false c h e = record { end = short_parent; kind = first_short h; is = λ out. rw h }
      go true true h e = record { end = along (with []) (path_by_count g settings s count (maximum_in g settings) (with [])); kind = at_first e; is = λ out. rw (h, e) }
      go true false h e =
          let t = second-end e in
          record { end = t.end; kind = t.kind; is = λ out. rw (h, e) (t.is out) }

-- by either way
pub data ModeEnd (g : FrameGrid) (settings : PlanConfig) (s : Span) (with : List Cut → List Candidate) (parents : ℕ) : Mode → PlanEnd → Type 0 where
  by_length : ModeEnd g settings s with parents ByLength (along (completed_by_length g settings with) (path_by_length g settings with))
  by_count : {count : ℕ} {end : PlanEnd} → CountEnd g settings s with count parents end → ModeEnd g settings s with parents (ByCount count) end

-- and so by either way
pub mode_end : (g : FrameGrid) (settings : PlanConfig) (s : Span) (with : List Cut → List Candidate) (parents : ℕ) (m : Mode)
    → EndReached (ModeEnd g settings s with parents m) g settings (λ (out : Output). plan_by g settings s with m parents out)
unfolding plan_by plan_by_length
mode_end g settings s with parents ByLength = record { end = along (completed_by_length g settings with) (path_by_length g settings with); kind = by_length; is = λ out. refl }
mode_end g settings s with parents (ByCount count) =
    let t = count_end g settings s with count parents in
    record { end = t.end; kind = by_count t.kind; is = t.is }

-- ---- what holds of every end

-- where no plan is made the output is as it was, a plan alone has the number 0, and no test before 14 is named
pub record AnswerEnds (out : Output) (h : Handed) : Type 0 where
  pub untouched : ((k : ℕ) → h.answer ≡ Ok k → ⊥) → h.out ≡ out
  pub numbered : Numbered h.answer
  pub unrefused : (x : Refusal) → h.answer ≡ Err (Refused x) → ⊥

along_ending : (n : ℕ) (pieces cuts : List ℕ) (out : Output) → AnswerEnds out (handed_out_of n pieces cuts out)
unfolding handed_out_of
along_ending n pieces cuts out = go (has_room n (length out.pieces) (length out.cuts))
  where
    go : (b : Bool) → AnswerEnds out (pick b (handed_of (Ok n) (output_of (onto pieces out.pieces) (onto cuts out.cuts))) (handed_of (Err ShortOutput) out))
    go true = record { untouched = λ never. absurd (never n refl); numbered = tt; unrefused = λ x e. let z : ◌≡◌ {A = ℕ} 0 1 = cc in omega arith }
    go false = record { untouched = λ never. refl; numbered = tt; unrefused = λ x e. let z : ◌≡◌ {A = ℕ} 0 1 = cc in omega arith }

-- this holds of each end
pub end_ending : (g : FrameGrid) (settings : PlanConfig) (e : PlanEnd) (out : Output) → AnswerEnds out (handed_by g settings e out)
end_ending g settings (along cs path) out = along_ending (length path - 1) (plan_pieces g settings cs path) (plan_cuts g cs path) out
end_ending g settings short_parent out = record { untouched = λ never. refl; numbered = tt; unrefused = λ x e. let z : ◌≡◌ {A = ℕ} 0 1 = cc in omega arith }

-- ---- which end it was

-- the end is a path over some candidates, and its plan of k pieces was handed out
pub record AlongSome (g : FrameGrid) (settings : PlanConfig) (e : PlanEnd) (k : ℕ) (before after : Output) : Type 0 where
  pub candidates : List Candidate
  pub path : List ℕ
  pub is : e ≡ along candidates path
  pub handed : HandedAlong g settings candidates path k before after

-- a plan was made: along a path
pub made_end : (g : FrameGrid) (settings : PlanConfig) (e : PlanEnd) (k : ℕ) (out : Output) → (handed_by g settings e out).answer ≡ Ok k → AlongSome g settings e k out (handed_by g settings e out).out
made_end g settings (along cs path) k out q = record { candidates = cs; path = path; is = refl; handed = handed-along g settings cs path out k q }
made_end g settings short_parent k out q = let z : ◌≡◌ {A = ℕ} 0 1 = cc in absurd (omega arith)

-- along a path, nothing but 12 refuses
along-answer : (n : ℕ) (pieces cuts : List ℕ) (out : Output) → (handed_out_of n pieces cuts out).answer ≡ Err ShortParent → ⊥
unfolding handed_out_of
along-answer n pieces cuts out = go (has_room n (length out.pieces) (length out.cuts))
  where
    answered : Bool → Handed
    answered b = pick b (handed_of (Ok n) (output_of (onto pieces out.pieces) (onto cuts out.cuts))) (handed_of (Err ShortOutput) out)

    go : (b : Bool) → (answered b).answer ≡ Err ShortParent → ⊥
    go true e = let z : ◌≡◌ {A = ℕ} 0 1 = cc in omega arith
    go false e = let z : ◌≡◌ {A = ℕ} 0 1 = cc in omega arith

-- 14 is answered only where a parent list is too short
pub parent-end : (g : FrameGrid) (settings : PlanConfig) (e : PlanEnd) (out : Output) → (handed_by g settings e out).answer ≡ Err ShortParent → e ≡ short_parent
parent-end g settings (along cs path) out q = absurd (along-answer (length path - 1) (plan_pieces g settings cs path) (plan_cuts g cs path) out q)
parent-end g settings short_parent out q = refl

-- 12: the output has no room for so many pieces, and any that has gets them
pub room-end : (g : FrameGrid) (settings : PlanConfig) (e : PlanEnd) (out : Output) → (handed_by g settings e out).answer ≡ Err ShortOutput
    → (k : ℕ) × (HasRoom k out → ⊥) × ((room : Output) → HasRoom k room → (handed_by g settings e room).answer ≡ Ok k)
room-end g settings (along cs path) out q = (length path - 1, along-short g settings cs path out q, along_made g settings cs path)
room-end g settings short_parent out q = let z : ◌≡◌ {A = ℕ} 0 1 = cc in absurd (omega arith)

-- ---- the parent list

-- a list that has fewer entries than the path wants fails the test
pub too_few : (count candidates parents : ℕ) → parents < min count (candidates - 1) * candidates → has_parents count candidates parents ≡ false
unfolding has_parents
too_few count candidates parents h = lt-leb (min count (candidates - 1) * candidates) parents h

-- and none but such a list fails it
pub few_parents : (count candidates parents : ℕ) → has_parents count candidates parents ≡ false → parents < min count (candidates - 1) * candidates
unfolding has_parents
few_parents count candidates parents e = leb-false (min count (candidates - 1) * candidates) parents e
