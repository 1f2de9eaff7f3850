-- The theorems of the operation Plan, in the words of Made.
--   plan-made    of every answer `Ok`, with no hypothesis but the answer and, for a span that is not empty, what the types of the lists say (`Fitting`):
--                demand 2, where the candidates lie, demand 3 by count and by length, pieces plus what lies between them, no more of them than frames, flags, the empty span
--   plan-ended   of every call: what is untouched, what is zeroed, that an empty span has the empty plan, that 14 and 12 come under their conditions only and wherever they hold,
--                12 never where there is room for a piece at each frame, 14 never where there are (frames + 1) × min(N, frames) parents,
--                and that the number is 0 exactly where a plan was made
--   plan-tested  that where parents and output have those lengths nothing refuses but the tests; so a plan is made wherever the tests up to 13 pass: plan-sure
--   plan-reach   of every recording and settings that pass the tests up to 13, whose span is not empty: there is a reach, at most the longer of the span and the maximum
-- Of the reach and the greedy division which they name, division has
--   reach-one (division/specs/ReachLaws)       two limits that are the reach are one
--   greedy_ahead (division/proofs/AheadLaws)   cut by cut the greedy division is nowhere behind any division that keeps its limit; by greedy-one there is only one
use Rattle.std.specs.Prelude.{◌≡◌, refl, ◌⊎◌, Bool, true, false, List, ℕ, ◌+◌, ◌*◌, ◌≤◌, ◌<◌, min, Float, length, replicate, Ok, Err, Result}
use Rattle.std.proofs.Common.{sym, subst, ◌∙◌, inl, inr, arith}
use Rattle.std.proofs.Math.Path.{ap}
use Rattle.std.proofs.lemmas.List.{length-replicate}
use Rattle.base_code.specs.FrontLaws.{onto_nil}
use Rattle.base_laws.specs.Tests.{tested, unmet}
use Rattle.base_terms.specs.Work.{Work}
use Rattle.grid.specs.Validate.{grid_of}
use Rattle.grid.specs.declared.boundary.FrameGrid.{FrameGrid}
use Rattle.grid.specs.declared.validate.Recording.{Recording}
use Rattle.silence_list.specs.declared.config.SegmentConfig.{SegmentConfig}
use Rattle.path_pieces.specs.declared.mode.Mode.{Mode}
use Rattle.path_pieces.specs.declared.mode.Mode.TheVariants.{ByLength, ByCount}
use Rattle.plan_settings.specs.declared.config.PlanConfig.{PlanConfig}
use Rattle.candidate_span.specs.Gaps.{Cut}
use Rattle.candidate_span.specs.Span.{Span, span_of}
use Rattle.silence_list.specs.Silences.{silences_in}
use Rattle.division.specs.Division.{Division}
use Rattle.division.specs.Pieces.{pieces_of}
use Rattle.candidates.specs.declared.candidate.Candidate.{Candidate}
use Rattle.plan_tests.specs.Fitting.{Fitting}
use Rattle.plan_tests.specs.PlanReady.{PlanReady, fine_ready}
use Rattle.plan_tests.specs.Refusal as tests
use Rattle.plan_tests.specs.RefusalLaws.{fails_some}
use Rattle.plan_tests.specs.declared.refusal.Refusal.{Refusal}
use Rattle.candidate_finder.specs.SpanIn.{empty_in, padding_in}
use Rattle.plan_pieces.specs.Answer.{number_of}
use Rattle.plan_pieces.specs.AnswerLaws.{Numbered, number_zero}
use Rattle.plan_pieces.specs.Output.{Output, output_of, Handed, handed_of, pick}
use Rattle.plan_pieces.specs.Answer.{Answer}
use Rattle.plan_pieces.specs.declared.answer.Error.TheVariants.{Refused, ShortParent, ShortOutput}
use Rattle.plan_modes.specs.Plan.{plan_by}
use Rattle.planner.specs.Operation.{End, end_after, candidates_with, planned_of, plan_of}
use Rattle.plan_theorems.specs.Made.{HasRoom, PlanWritten, ReachExists, MadeOfSpan, Made, FewParents, Ended}
use Rattle.plan_theorems.specs.EndsLaws.{HandedAlong, along_refused, PlanEnd, along, short_parent, handed_by, EndReached, ModeEnd, by_length, by_count, mode_end, AnswerEnds, end_ending, AlongSome, made_end, parent-end, room-end}
use Rattle.plan_theorems.specs.FollowsLaws.{along-written}
use Rattle.plan_theorems.proofs.MadeLaws.{divided_few, reach_there, few_made, short_given, parents_sure, SpanFilled, MadeByLength, made_by_length, MadeByCount, made_by_count}

-- nothing is written for no piece
none_written : (out : Output) → PlanWritten 0 out out
none_written out = record { fits = (omega arith, omega arith); pieces = sym (onto_nil out.pieces); cuts = sym (onto_nil out.cuts) }

-- the count of a mode
counted : {a b : ℕ} → ByCount a ≡ ByCount b → a ≡ b
counted e = cc

-- 14 and 12
abbrev is_later : Answer → Bool
is_later (Ok k) = false
is_later (Err (Refused v)) = false
is_later (Err ShortParent) = true
is_later (Err ShortOutput) = true

module _ (r : Recording) (segment : SegmentConfig) (settings : PlanConfig) (values : List Float) (flags : List ℕ) (levels : List Float) (work : Work) (parent : List ℕ) where
  -- the first test that fails
  abbrev verdict : Result Unit Refusal
  verdict = tests.first_refusal_of r segment settings values flags levels (length work.u32s) (length work.u64s) (length work.f64s)

  -- the span is empty
  abbrev is_empty : Bool
  is_empty = empty_in r segment settings values flags

  abbrev g : FrameGrid
  g = grid_of r (length values)

  abbrev s : Span
  s = span_of settings.gap (padding_in r segment settings (length values)) (silences_in r segment values flags)

  abbrev with : List Cut → List Candidate
  with added = candidates_with r segment settings values flags levels added

  -- what the operation leaves, for each output
  abbrev call : Output → End
  call o = plan_of r segment settings values flags levels o work parent

  abbrev planned : Output → Handed
  planned o = planned_of r segment settings values flags levels (length parent) o

  abbrev call_by : Result Unit Refusal → Output → End
  call_by v o = end_after v (planned o) o work parent

  is_call : (v : Result Unit Refusal) → verdict ≡ v → (o : Output) → call o ≡ call_by v o
  unfolding plan_of
  is_call v e o = rw e

  -- in a span that is not empty, the end that is reached
  abbrev sought : Output → Handed
  sought o = plan_by g settings s with settings.mode (length parent) o

  reached : EndReached (ModeEnd g settings s with (length parent) settings.mode) g settings sought
  reached = mode_end g settings s with (length parent) settings.mode

  abbrev handed : Output → Handed
  handed o = handed_by g settings reached.end o

  abbrev planned_by : Bool → Output → Handed
  planned_by b o = pick b (handed_of (Ok 0) o) (handed o)

  is_planned : (b : Bool) → is_empty ≡ b → (o : Output) → planned o ≡ planned_by b o
  unfolding planned_of
  is_planned b e o = rw (e, reached.is o)

  -- ---- every end

  planned_ending : (b : Bool) (o : Output) → AnswerEnds o (planned_by b o)
  planned_ending true o = record { untouched = λ never. refl; numbered = tt; unrefused = λ v e. let z : ◌≡◌ {A = ℕ} 0 1 = cc in omega arith }
  planned_ending false o = end_ending g settings reached.end o

  ending : (o : Output) → AnswerEnds o (planned o)
  ending o = subst (AnswerEnds o) (sym (is_planned is_empty refl o)) (planned_ending is_empty o)

  numbered : (v : Result Unit Refusal) → verdict ≡ v → (o : Output) → Numbered (call_by v o).answer
  numbered (Ok u) e o = (ending o).numbered
  numbered (Err x) e o = fails_some r segment settings values flags levels (length work.u32s) (length work.u64s) (length work.f64s) x e

  left_alone : (v : Result Unit Refusal) (o : Output) → ((k : ℕ) → (call_by v o).answer ≡ Ok k → ⊥) → (call_by v o).out ≡ o
  left_alone (Ok u) o never = (ending o).untouched never
  left_alone (Err x) o never = refl

  -- a refusal before 14 is that of the first test which fails
  refused_first : (v : Result Unit Refusal) (o : Output) (x : Refusal) → (call_by v o).answer ≡ Err (Refused x) → v ≡ Err x
  refused_first (Ok u) o x e = absurd ((ending o).unrefused x e)
  refused_first (Err y) o x e = let same : y ≡ x = cc in ap (λ (t : Refusal). Err t) same

  -- a plan is made, or refused later, where the tests pass
  made_passed : (v : Result Unit Refusal) (o : Output) (k : ℕ) → (call_by v o).answer ≡ Ok k → v ≡ Ok tt
  made_passed (Ok u) o k e = refl
  made_passed (Err x) o k e = let z : ◌≡◌ {A = ℕ} 0 1 = cc in absurd (omega arith)

  later-passed : (v : Result Unit Refusal) (o : Output) → is_later (call_by v o).answer ≡ true → v ≡ Ok tt
  later-passed (Ok u) o e = refl
  later-passed (Err x) o e = unmet e

  -- and refused later where the span is not empty
  later_full : (b : Bool) (o : Output) → is_later (planned_by b o).answer ≡ true → b ≡ false
  later_full true o e = unmet e
  later_full false o e = refl

  -- a later refusal: that of the end which is reached
  record Later (o : Output) : Type 0 where
    fine : verdict ≡ Ok tt
    full : is_empty ≡ false
    is : (room : Output) → (call room).answer ≡ (handed room).answer

  later : (o : Output) → is_later (call o).answer ≡ true → Later o
  later o e = record { fine = fine; full = full; is = λ room. answer room ∙ ap (λ (h : Handed). h.answer) (is_planned false full room) }
    where
      fine : verdict ≡ Ok tt
      fine = later-passed verdict o (sym (ap (λ (x : End). is_later x.answer) (is_call verdict refl o)) ∙ e)

      answer : (room : Output) → (call room).answer ≡ (planned room).answer
      answer room = ap (λ (x : End). x.answer) (is_call (Ok tt) fine room)

      full : is_empty ≡ false
      full =
          later_full is_empty o
          (sym (ap is_later (answer o) ∙ ap (λ (h : Handed). is_later h.answer) (is_planned is_empty refl o)) ∙ e)

  ready : verdict ≡ Ok tt → PlanReady r segment settings values flags levels (length work.u32s) (length work.u64s) (length work.f64s)
  ready fine = fine_ready r segment settings values flags levels (length work.u32s) (length work.u64s) (length work.f64s) fine

  -- 14
  few : (fine : verdict ≡ Ok tt) (full : is_empty ≡ false) (m : Mode) → settings.mode ≡ m → ModeEnd g settings s with (length parent) m short_parent
      → FewParents r segment settings values flags levels (length parent)
  few fine full ByLength e made = elim made [ ]
  few fine full (ByCount count) e (by_count c) =
      few_made r segment settings values flags levels (length work.u32s) (length work.u64s) (length work.f64s) (ready fine) full count e (length parent) c

  -- where the tests pass and the span is not empty, the call is that of the mode
  mode_call : verdict ≡ Ok tt → is_empty ≡ false → (m : Mode) → settings.mode ≡ m → (o : Output) → (call o).answer ≡ (plan_by g settings s with m (length parent) o).answer
  unfolding planned_of
  mode_call fine full m e o = ap (λ (x : End). x.answer) (is_call (Ok tt) fine o) ∙ rw (full, e)

  -- 14 where its condition holds
  gives_short : verdict ≡ Ok tt → is_empty ≡ false → Fitting values levels → FewParents r segment settings values flags levels (length parent) → (o : Output) → (call o).answer ≡ Err ShortParent
  unfolding plan_by
  gives_short fine full f t o =
      mode_call fine full (ByCount t.count) t.asked o
      ∙ ap (λ (h : Handed). h.answer)
      (short_given r segment settings values flags levels (length work.u32s) (length work.u64s) (length work.f64s) (ready fine) full t.count t.asked (length parent) f
      t.candidates t.sought t.few o)

  -- ---- every plan

  module _ (out : Output) (k : ℕ) (made : (call out).answer ≡ Ok k) where
    made_fine : verdict ≡ Ok tt
    made_fine = made_passed verdict out k (sym (ap (λ (x : End). x.answer) (is_call verdict refl out)) ∙ made)

    -- answer and output, where the span is empty or not
    made_answer : (b : Bool) → is_empty ≡ b → (planned_by b out).answer ≡ Ok k
    made_answer b e = sym (ap (λ (x : End). x.answer) (is_call (Ok tt) made_fine out) ∙ ap (λ (h : Handed). h.answer) (is_planned b e out)) ∙ made

    made_out : (b : Bool) → is_empty ≡ b → (call out).out ≡ (planned_by b out).out
    made_out b e = ap (λ (x : End). x.out) (is_call (Ok tt) made_fine out) ∙ ap (λ (h : Handed). h.out) (is_planned b e out)

    empty_made : is_empty ≡ true → (k ≡ 0) × ((call out).out ≡ out)
    empty_made e =
        let q = made_answer true e in
        let n : k ≡ 0 = cc in
        (n, made_out true e)

    module _ (full : is_empty ≡ false) where
      -- the path along which it was made
      along_some : AlongSome g settings reached.end k out (handed out).out
      along_some = made_end g settings reached.end k out (made_answer false full)

      abbrev cs : List Candidate
      cs = along_some.candidates

      abbrev path : List ℕ
      path = along_some.path

      along-handed : HandedAlong g settings cs path k out (call out).out
      along-handed = rw (made_out false full) along_some.handed

      along_kind : ModeEnd g settings s with (length parent) settings.mode (along cs path)
      along_kind = subst (ModeEnd g settings s with (length parent) settings.mode) along_some.is reached.kind

      -- the division that it shows has no more pieces than frames
      shown_few : (cuts : List Cut) → length (pieces_of s cuts) ≡ k → Division s cuts → k ≤ length values
      shown_few cuts e d =
          subst (λ (n : ℕ). n ≤ length values) e
          (divided_few r segment settings values flags levels (length work.u32s) (length work.u64s) (length work.f64s) (ready made_fine) full cuts d)

      module _ (f : Fitting values levels) where
        abbrev WayByLength : Type 0
        WayByLength =
            MadeByLength r segment settings values flags levels (length work.u32s) (length work.u64s) (length work.f64s) (ready made_fine) full f k (call out).out

        abbrev WayByCount : (count : ℕ) → settings.mode ≡ ByCount count → Type 0
        WayByCount count e =
            MadeByCount r segment settings values flags levels (length work.u32s) (length work.u64s) (length work.f64s) (ready made_fine) full f count e k (call out).out

        way_by_length : settings.mode ≡ ByLength → WayByLength
        way_by_length e = go cs path along-handed (subst (λ (m : Mode). ModeEnd g settings s with (length parent) m (along cs path)) e along_kind)
          where
            go : (cs : List Candidate) (path : List ℕ) → HandedAlong g settings cs path k out (call out).out → ModeEnd g settings s with (length parent) ByLength (along cs path) → WayByLength
            go cs path h by_length =
                made_by_length r segment settings values flags levels (length work.u32s) (length work.u64s) (length work.f64s) (ready made_fine) full f k out (call out).out h

        way_by_count : (count : ℕ) (e : settings.mode ≡ ByCount count) → WayByCount count e
        way_by_count count e = go (subst (λ (m : Mode). ModeEnd g settings s with (length parent) m (along cs path)) e along_kind)
          where
            go : ModeEnd g settings s with (length parent) (ByCount count) (along cs path) → WayByCount count e
            go (by_count c) =
                made_by_count r segment settings values flags levels (length work.u32s) (length work.u64s) (length work.f64s) (ready made_fine) full f count e (length parent) cs path k out
                (call out).out c along-handed

        laid : (m : Mode) → settings.mode ≡ m
            → SpanFilled r segment settings values flags levels (length work.u32s) (length work.u64s) (length work.f64s) (ready made_fine) full f k (call out).out
        laid ByLength e = (way_by_length e).laid
        laid (ByCount count) e = (way_by_count count e).laid

        few_pieces : (m : Mode) → settings.mode ≡ m → k ≤ length values
        few_pieces ByLength e = let d = (way_by_length e).demand in shown_few d.0 d.1.number d.2.divides
        few_pieces (ByCount count) e = let d = (way_by_count count e).demand in shown_few d.0 d.1.number d.2.divides

        full_made : MadeOfSpan r segment settings values flags levels k (call out).out
        full_made = record {
          best_by_length = λ e. (way_by_length e).best;
          best_by_count = λ count e. (way_by_count count e).best;
          demand_by_length = λ e. (way_by_length e).demand;
          demand_by_count = λ count e. (way_by_count count e).demand;
          few = few_pieces settings.mode refl;
          fills = (laid settings.mode refl).fills;
          flagged = (laid settings.mode refl).flagged;
          reasoned = (laid settings.mode refl).reasoned;
        }

    written : (b : Bool) → is_empty ≡ b → PlanWritten k out (call out).out
    written true e = rw ((empty_made e).0, (empty_made e).1) (none_written out)
    written false e = along-written g settings (cs e) (path e) k out (call out).out (along-handed e)

  -- ---- every call

  module _ (out : Output) where
    said_short : (call out).answer ≡ Err ShortParent → FewParents r segment settings values flags levels (length parent)
    said_short e =
        let l = later out (ap is_later e) in
        few l.fine l.full settings.mode refl
        (subst (ModeEnd g settings s with (length parent) settings.mode) (parent-end g settings reached.end out (sym (l.is out) ∙ e)) reached.kind)

    said_room : (call out).answer ≡ Err ShortOutput → (k : ℕ) × (HasRoom k out → ⊥) × ((room : Output) → HasRoom k room → (call room).answer ≡ Ok k)
    said_room e =
        let l = later out (ap is_later e) in
        let q = room-end g settings reached.end out (sym (l.is out) ∙ e) in
        (q.0, q.1, λ room h. l.is room ∙ q.2 room h)

    said_roomy : Fitting values levels → HasRoom (length values) out → (call out).answer ≡ Err ShortOutput → ⊥
    said_roomy f (p, c) e =
        let q = said_room e in
        let k = q.0 in
        let size = length-replicate {A = ℕ} (3 * k) 0 in
        let room = output_of (replicate (3 * k) 0) (replicate (3 * k) 0) in
        let few = few_pieces room k (q.2 room (omega (arith, size), omega (arith, size))) (later out (ap is_later e)).full f settings.mode refl in
        q.1 (omega (arith, few, p), omega (arith, few, c))

    -- 12 where another output, that has room, gets a plan of more pieces than this one has room for
    gives_room : (k : ℕ) (room : Output) → (call room).answer ≡ Ok k → (HasRoom k out → ⊥) → (call out).answer ≡ Err ShortOutput
    gives_room k room e never = elim (tested is_empty) [
      | inl t ↦ absurd (never (let n = (empty_made room k e t).0 in (omega (arith, n), omega (arith, n))))
      | inr t ↦
          let a = along_some room k e t in
          ap (λ (x : End). x.answer) (is_call (Ok tt) (made_fine room k e) out) ∙ ap (λ (h : Handed). h.answer) (is_planned false t out ∙ ap (λ (q : PlanEnd). handed_by g settings q out) a.is)
          ∙ along_refused g settings a.candidates a.path out (subst (λ (n : ℕ). HasRoom n out → ⊥) (sym a.handed.number) never)
    ]

    -- 14 never comes with so many parents
    said_enough : (count : ℕ) → settings.mode ≡ ByCount count → (length values + 1) * min count (length values) ≤ length parent → (call out).answer ≡ Err ShortParent → ⊥
    said_enough count asked enough e =
        let l = later out (ap is_later e) in
        let t = said_short e in
        let n : t.count ≡ count = counted (sym t.asked ∙ asked) in
        parents_sure r segment settings values flags levels (length work.u32s) (length work.u64s) (length work.f64s) (ready l.fine) l.full t.count t.asked (length parent)
        t.candidates t.sought (subst (λ (c : ℕ). (length values + 1) * min c (length values) ≤ length parent) (sym n) enough) t.few

    whole : call out ≡ call_by verdict out
    whole = is_call verdict refl out

    zero_made : number_of (call out).answer ≡ 0 → (k : ℕ) × ((call out).answer ≡ Ok k)
    zero_made e =
        let f = ap (λ (x : End). x.answer) whole in
        let m = number_zero (call_by verdict out).answer (numbered verdict refl out) (ap number_of (sym f) ∙ e) in
        (m.pieces, f ∙ m.is)

    ended : Ended r segment settings values flags levels out work parent
    ended = record {
      refused = λ x e. is_call (Err x) e out;
      first_failed = λ x e. refused_first verdict out x (sym (ap (λ (x : End). x.answer) whole) ∙ e);
      zeroed = λ e. (ap (λ (x : End). x.work) (is_call (Ok tt) e out), ap (λ (x : End). x.parent) (is_call (Ok tt) e out));
      untouched = λ never. ap (λ (x : End). x.out) whole ∙ left_alone verdict out (λ k e. never k (ap (λ (x : End). x.answer) whole ∙ e));
      empty = λ e none. (
        ap (λ (x : End). x.answer) (is_call (Ok tt) e out) ∙ ap (λ (h : Handed). h.answer) (is_planned true none out),
        ap (λ (x : End). x.out) (is_call (Ok tt) e out) ∙ ap (λ (h : Handed). h.out) (is_planned true none out),
      );
      short_parent = said_short;
      short_output = said_room;
      gives_short_parent = λ fine full f t. gives_short fine full f t out;
      gives_short_output = gives_room;
      roomy = said_roomy;
      parents_enough = said_enough;
      accepted = made_fine out;
      number = (zero_made, λ (k, e). ap number_of e);
    }

-- ---- the theorems

module _ (r : Recording) (segment : SegmentConfig) (settings : PlanConfig) (values : List Float) (flags : List ℕ) (levels : List Float) (out : Output) (work : Work) (parent : List ℕ) where
  -- of every answer `Ok`
  pub plan_made : (k : ℕ) → (plan_of r segment settings values flags levels out work parent).answer ≡ Ok k
      → Made r segment settings values flags levels k out (plan_of r segment settings values flags levels out work parent).out
  plan_made k e = record {
    written = written r segment settings values flags levels work parent out k e (empty_in r segment settings values flags) refl;
    empty = empty_made r segment settings values flags levels work parent out k e;
    full = full_made r segment settings values flags levels work parent out k e;
  }

  -- of every call
  pub plan_ended : Ended r segment settings values flags levels out work parent
  plan_ended = ended r segment settings values flags levels work parent out

  module _ (f : Fitting values levels) (parents : (count : ℕ) → settings.mode ≡ ByCount count → (length values + 1) * min count (length values) ≤ length parent)
      (room : HasRoom (length values) out) where
    -- where parents and output are never too few for so many frames, nothing refuses but the tests
    pub plan_tested : ((k : ℕ) × ((plan_of r segment settings values flags levels out work parent).answer ≡ Ok k))
        ⊎ ((x : Refusal) × ((plan_of r segment settings values flags levels out work parent).answer ≡ Err (Refused x)))
    plan_tested = go (plan_of r segment settings values flags levels out work parent).answer refl
      where
        go : (a : Answer) → (plan_of r segment settings values flags levels out work parent).answer ≡ a
            → ((k : ℕ) × ((plan_of r segment settings values flags levels out work parent).answer ≡ Ok k))
            ⊎ ((x : Refusal) × ((plan_of r segment settings values flags levels out work parent).answer ≡ Err (Refused x)))
        go (Ok k) e = inl (k, e)
        go (Err (Refused x)) e = inr (x, e)
        go (Err ShortParent) e = let t = plan_ended.short_parent e in absurd (plan_ended.parents_enough t.count t.asked (parents t.count t.asked) e)
        go (Err ShortOutput) e = absurd (plan_ended.roomy f room e)

    -- so where the tests up to 13 pass a plan is made
    pub plan_sure : verdict r segment settings values flags levels work parent ≡ Ok tt → (k : ℕ) × ((plan_of r segment settings values flags levels out work parent).answer ≡ Ok k)
    plan_sure fine = elim plan_tested [
      | inl p ↦ p
      | inr p ↦ let clash = sym (plan_ended.first_failed p.0 p.1) ∙ fine in let z : ◌≡◌ {A = ℕ} 0 1 = cc in absurd (omega arith)
    ]

-- of every recording and settings, gaps kept or dropped: where the tests up to 13 pass and the span is not empty, there is a reach for any number of pieces
pub plan_reach : (r : Recording) (segment : SegmentConfig) (settings : PlanConfig) (values : List Float) (flags : List ℕ) (levels : List Float) (n32 n64 nf : ℕ)
    → tests.first_refusal_of r segment settings values flags levels n32 n64 nf ≡ Ok tt → empty_in r segment settings values flags ≡ false
    → (count : ℕ) → 0 < count → ReachExists r segment settings values flags levels count
plan_reach r segment settings values flags levels n32 n64 nf fine full =
    reach_there r segment settings values flags levels n32 n64 nf (fine_ready r segment settings values flags levels n32 n64 nf fine) full

-- a plan that has a piece is that of a span
pub made_of_span : (r : Recording) (segment : SegmentConfig) (settings : PlanConfig) (values : List Float) (flags : List ℕ) (levels : List Float) (k : ℕ) (before after : Output)
    → Made r segment settings values flags levels k before after → Fitting values levels → 0 < k → MadeOfSpan r segment settings values flags levels k after
made_of_span r segment settings values flags levels k before after made f pieces = elim (tested (empty_in r segment settings values flags)) [
  | inl e ↦ absurd (omega (arith, pieces, (made.empty e).0))
  | inr e ↦ made.full e f
]
