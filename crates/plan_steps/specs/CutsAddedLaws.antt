-- The cuts that completion by count adds: marked one list after the other, which leaves the silences as they are.
use Rattle.std.specs.Prelude.{◌≡◌, List, ◌++◌, ℕ, ◌*◌, ◌≤◌, min, length, take}
use Rattle.std.proofs.Common.{sym, ap, subst, ◌∙◌, arith}
use Rattle.base_terms.specs.Layout.{marks_at}
use Rattle.grid.specs.Limits.{max_frames}
use Rattle.candidate_span.specs.Span.{Span, span_in}
use Rattle.division.specs.Division.{kept_in}
use Rattle.division.specs.Shares.{shares_of}
use Rattle.completion_reach.specs.declared.ground.Ground.{Ground}
use Rattle.completion_reach.specs.GroundLaws.{Founded, asked_pieces}
use Rattle.completion_reach.specs.Cuts.{cuts_of, marking}
use Rattle.completion.specs.CutsLaws.{MarkRoom}
use Rattle.completion.specs.MarkingLaws.{marking-length, marking_stays}
use Rattle.completion.specs.Shares.{Sharable}
use Rattle.completion.specs.MarkingLaws.{marking-append}
use Rattle.plan_steps.specs.Steps.{cuts_added}

module _ (x : Ground) (count limit : ℕ) (work : List ℕ) (room : MarkRoom x (marks_at x.grid.frames) work) (base : ℕ) (at : base ≡ marks_at x.grid.frames) where
  abbrev number : ℕ
  number = 2 * x.span.silences

  abbrev spanned : List ℕ → Span
  spanned ss = span_in x.gap x.padding x.span ss

  abbrev s : Span
  s = spanned (take number work)

  -- the first cuts can be marked
  pub far-room : MarkRoom x base work
  far-room = rw at room

  module _ (last-few : x.span.last ≤ max_frames) (frames pieces : ℕ) (kept : frames ≡ kept_in s) (lesser : pieces ≡ min count frames)
      (work' : List ℕ) (far : work' ≡ marking base (cuts_of x.grid s limit pieces) work)
    where
      same : take number work' ≡ take number work
      same = ap (take number) far ∙ marking_stays base number (cuts_of x.grid s limit pieces) work far-room.apart

      long : length work' ≡ length work
      long = ap length far ∙ marking-length base (cuts_of x.grid s limit pieces) work

      -- the shares can be marked
      pub shares-room : MarkRoom x base work'
      shares-room = record {
        founded = subst (Founded x) (sym same) room.founded;
        held = omega (arith, room.held, long);
        apart = far-room.apart;
        room = omega (arith, far-room.room, long);
      }

      -- the kept frames can be shared out among so many pieces
      pub sharable : Sharable x frames pieces (take number work')
      sharable = record { kept = rw same kept; fit = omega (arith, lesser); few = last-few }

      -- both lists of cuts are marked then
      pub all-marked : (work'' : List ℕ) → work'' ≡ marking base (shares_of (spanned (take number work')) pieces) work'
          → work'' ≡ marking (marks_at x.grid.frames) (cuts_added x.grid s count limit) work
      all-marked work'' e =
          e ∙ ap (λ (ss : List ℕ). marking base (shares_of (spanned ss) pieces) work') same ∙ ap (marking base (shares_of s pieces)) far
          ∙ sym (marking-append base (cuts_of x.grid s limit pieces) (shares_of s pieces) work)
          ∙ ap (λ (m : ℕ). marking base (cuts_of x.grid s limit m ++ shares_of s m) work) (asked_pieces s count frames pieces kept lesser)
          ∙ ap (λ (b : ℕ). marking b (cuts_added x.grid s count limit) work) at
