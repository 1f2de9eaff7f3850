-- From candidates that stand in work memory to the plan along the best path over them: the search may be asked, and what it leaves can be handed out.
use Rattle.std.specs.Prelude.{◌≡◌, ℕ, ◌-◌, ◌*◌, ◌≤◌, ◌<◌, Float, length, drop}
use Rattle.std.proofs.Math.Path.{sym, ap}
use Rattle.std.proofs.Common.{subst, ◌∙◌, arith}
use mathlib.Core.List.{List, ◌++◌, Memᴰ}
use Rattle.std.proofs.Math.ListN.{take}
use Rattle.std.proofs.lemmas.List.{length-map}
use Rattle.base_terms.specs.Layout.{side, entries_at, search_at}
use Rattle.grid.specs.declared.boundary.FrameGrid.{FrameGrid}
use Rattle.path_pieces.specs.Domain.{Preferred}
use Rattle.path_pieces.specs.declared.lengths.Lengths.{Lengths}
use Rattle.path_rules.specs.Paths.{Path, last_candidate}
use Rattle.path_rules.specs.PathsLaws.{path_few}
use Rattle.path_rules.specs.declared.solved.Solved.{Solved}
use Rattle.plan_settings.specs.declared.config.PlanConfig.{PlanConfig}
use Rattle.candidate_span.specs.Gaps.{Cut}
use Rattle.candidate_span.specs.Span.{Span, span_in}
use Rattle.candidate_span.specs.declared.held.HeldSpan.{HeldSpan}
use Rattle.division.specs.Division.{Place}
use Rattle.candidates.specs.declared.candidate.Candidate.{Candidate}
use Rattle.candidates.specs.declared.context.Context.{Context}
use Rattle.candidates.specs.Entries.{entries_of}
use Rattle.candidates.specs.Order.{candidates_some, candidates_few}
use Rattle.candidates.specs.Samples.{left_sample, lefts_of, rights_of}
use Rattle.candidates.specs.Sources.{Planned}
use Rattle.candidate_walk.specs.Held.{silences_held, runs_held}
use Rattle.candidate_finder.specs.FinderLaws.{Stands}
use Rattle.completion_reach.specs.Cuts.{points_in}
use Rattle.plan_lengths.specs.PlanLengths.{minimum_in, maximum_in}
use Rattle.plan_pieces.specs.Along.{reasons_in, pieces_along_numbers, cuts_along_numbers}
use Rattle.plan_pieces.specs.DrawnLaws.{path_drawn}
use Rattle.plan_pieces.specs.Output.{Output, Handed, handed_out_of}
use Rattle.plan_pieces.specs.PlanAlong.{reasons_of, plan_pieces, plan_cuts}
use Rattle.plan_pieces.specs.PlanAlongLaws.{reasons_entries}
use Rattle.plan_path.specs.Asked.{CandidatesHeld}
use Rattle.plan_lists.specs.Positions.{entries_in}
use Rattle.plan_path.specs.Search.{lefts_in, rights_in}
use Rattle.plan_path.specs.SearchLaws.{part_of}
use Rattle.plan_division.specs.AddedLaws.{planned-completed}
use Rattle.plan_division.proofs.PlanTheorems.{plan_searchable}
use Rattle.plan_division.specs.Ready.{SearchableOver}
use Rattle.plan_steps.specs.Hand.{path_in, HandRoom}
use Rattle.plan_steps.specs.Held.{points_held, held_with, SpanHeld, SpanRoom}
use Rattle.plan_steps.specs.HeldLaws.{span_order, span_same}
use Rattle.plan_steps.specs.Steps.{plan_along}
use Rattle.plan_steps.specs.Search.{AskedOver, PathOver}

-- ---- the candidates of a span that is held, with points added at places

module _ (x : Context) (g : FrameGrid) (span : HeldSpan) (front : List ℕ) (levels : List Float) (h : SpanHeld x g span front levels) (added : List Cut)
    (placed : (k : Cut) → Memᴰ k added → Place (span_in x.gap x.padding span (silences_held span.silences front)) k)
  where
    abbrev cs : List Candidate
    cs = held_with x span front levels added

    abbrev ss : List ℕ
    ss = silences_held span.silences front

    abbrev runs : List ℕ
    runs = runs_held x.padding.frames front

    abbrev ks : List ℕ
    ks = points_held x.padding.frames span front

    completed : Planned x ss levels (ks ++ points_in added) span.first span.last
    completed =
        planned-completed x ss runs levels ks added span.first span.last h.planned
        (subst (λ (s : Span). (k : Cut) → Memᴰ k added → Place s k) (span_same x g span front levels h) placed)

    -- they may be searched
    pub with_searchable : (l : Lengths) → Preferred l → SearchableOver g l cs
    with_searchable l p =
        plan_searchable x ss runs levels (ks ++ points_in added) span.first span.last g l completed (record { sampled = h.sampled; costed = h.costed; preferred = p })

    -- there are some, and no more than boundaries
    pub with_few : (0 < length cs) × (length cs ≤ side g.frames)
    with_few =
        let o = span_order x g span front levels h in
        let e = candidates_few x ss runs levels (ks ++ points_in added) span.first span.last o.0 in
        (omega (arith, candidates_some x ss runs levels (ks ++ points_in added) span.first span.last), omega (arith, e, o.1, h.sampled.same))

    module _ (k : ℕ) (work positions : List ℕ) (costs : List Float) (stands : Stands x.padding.frames k cs work costs)
        (room : SpanRoom x.padding.frames (length work) (length positions) (length costs)) where
      -- where they stand in work memory
      pub with-held : CandidatesHeld g cs work positions costs
      with-held = record {
        entries = rw (h.sampled.same, ← stands.number) stands.entries;
        priced = rw (h.sampled.same, ← stands.number) stands.costs;
        few = with_few.1;
        u32s = omega (arith, room.u32s, h.sampled.same);
        u64s = omega (arith, room.u64s, h.sampled.same);
        f64s = omega (arith, room.f64s, h.sampled.same);
      }

      -- the search may be asked
      pub with_asked : (l : Lengths) → Preferred l → AskedOver g k l work positions costs
      with_asked l p = record {
        cs = cs;
        number = stands.number;
        held = with-held;
        searchable = with_searchable l p;
        bounded = h.sampled.accepted.bounded;
      }

      -- ---- once a path over them stands there too

      module _ (rule : ℕ → ℕ → Type 0) (rising : (i j : ℕ) → rule i j → i < j) (l : Lengths) (p : Preferred l) (path : List ℕ)
          (allowed : Path rule path (last_candidate (lefts_of g cs))) (work' positions' : List ℕ) (costs' : List Float) (answer : Solved)
          (over : PathOver g cs path work work' positions' costs costs' answer) (same : length work' ≡ length work) (same64 : length positions' ≡ length positions)
        where
          lefts : lefts_in k positions' ≡ lefts_of g cs
          lefts = rw stands.number over.lefts

          rights : rights_in g.frames k positions' ≡ rights_of g cs
          rights = rw stands.number over.rights

          many : length (lefts_of g cs) ≡ length cs
          many = length-map cs (left_sample g)

          -- its plan can be handed out
          pub along-room : HandRoom g.frames k answer.len work' positions'
          along-room =
              let f = path_few rule rising (last_candidate (lefts_of g cs)) path allowed in
              record {
                drawn = rw (lefts, rights, over.path_in_lem) (path_drawn (with_searchable l p).candidates rule rising path allowed);
                some = rw over.len f.0;
                short = rw over.len (omega (arith, f.1, many, with_few.0, stands.number));
                few = rw stands.number with_few.1;
                bounded = h.sampled.accepted.bounded.frames;
                u32s = omega (arith, room.u32s, h.sampled.same, same);
                u64s = omega (arith, room.u64s, h.sampled.same, same64);
              }

          -- what is handed out is the plan along it
          pub along-handed : (settings : PlanConfig) (least : Float) (most : ℕ) (out : Output) (now : Handed) → least ≡ minimum_in g settings → most ≡ maximum_in g settings
              → now ≡ handed_out_of (answer.len - 1)
              (pieces_along_numbers (lefts_in k positions') (rights_in g.frames k positions') least most (path_in g.frames answer.len work'))
              (cuts_along_numbers (lefts_in k positions') (rights_in g.frames k positions') (reasons_in (entries_in g.frames k work'))
              (path_in g.frames answer.len work')) out
              → now ≡ plan_along g settings cs path out
          along-handed settings least most out now e f d = unfold plan_pieces in unfold plan_cuts in (rw (lefts, rights, over.path_in_lem, over.len, e, f, reasons) at d)
            where
              entries : entries_in g.frames k work' ≡ entries_of cs
              entries =
                  sym (part_of (entries_at g.frames) (3 * k) (search_at g.frames) work' (omega (arith, stands.number, with_few.1)) (omega (arith, same, room.u32s, h.sampled.same)))
                  ∙ ap (λ (xs : List ℕ). take (3 * k) (drop (entries_at g.frames) xs)) over.before
                  ∙ part_of (entries_at g.frames) (3 * k) (search_at g.frames) work (omega (arith, stands.number, with_few.1)) (omega (arith, room.u32s, h.sampled.same))
                  ∙ rw h.sampled.same stands.entries

              reasons : reasons_in (entries_in g.frames k work') ≡ reasons_of cs
              reasons = ap reasons_in entries ∙ reasons_entries cs
