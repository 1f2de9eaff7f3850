-- A plan that is handed out along a path: its numbers are those of the path's pieces and cuts, which are the pieces and cuts of the division along it.
use Rattle.std.specs.Prelude.{◌≡◌, refl, List, [], ◌∷◌, ℕ, zero, suc, ◌+◌, ◌-◌, ◌*◌, ◌≤◌, ◌<◌, length, get_or, take}
use Rattle.std.proofs.Common.{sym, ap, subst, ◌∙◌, arith}
use Rattle.base_code.specs.FrontLaws.{onto-at, onto-take}
use Rattle.base_terms.specs.Lists.{onto}
use Rattle.grid.specs.Boundary.{boundary_of}
use Rattle.grid.specs.Durations.{InSamples}
use Rattle.grid.specs.DurationsLaws.{samples_small}
use Rattle.grid.specs.declared.boundary.FrameGrid.{FrameGrid}
use Rattle.path_pieces.specs.Pieces.{piece_length}
use Rattle.path_rules.specs.Paths.{Onward}
use Rattle.plan_settings.specs.declared.config.PlanConfig.{PlanConfig}
use Rattle.candidate_span.specs.Gaps.{Cut}
use Rattle.candidate_span.specs.Span.{Span}
use Rattle.division.specs.Pieces.{Piece, piece_from, pieces_of}
use Rattle.division.specs.Places.{cut_at}
use Rattle.candidates.specs.Samples.{lefts_of, rights_of}
use Rattle.candidates.specs.declared.candidate.Candidate.{Candidate}
use Rattle.plan_division.specs.Along.{ends_at, cuts_at, cuts_along, piece_between, pieces_through, pieces_along, RisingPath}
use Rattle.plan_division.specs.AlongLaws.{onward-last, left_sample_lem, right_sample_lem}
use Rattle.plan_division.proofs.PiecesLaws.{pieces_along_lem, count_along}
use Rattle.plan_division.specs.Across.{Across}
use Rattle.plan_lengths.specs.PlanLengths.{minimum_in, maximum_in}
use Rattle.plan_pieces.specs.Flags.{is_tail, flags_of}
use Rattle.plan_pieces.specs.FlagsLaws.{long_stands, short-stands, flags-one}
use Rattle.plan_pieces.specs.NumbersLaws.{Numbers, piece_numbers_lem, cut_numbers_lem}
use Rattle.plan_pieces.specs.PlanAlong.{reasons_of, plan_pieces, plan_cuts}
use Rattle.plan_pieces.specs.PlanAlongLaws.{reasons_few, plan_lengths}
use Rattle.plan_pieces.specs.Output.{Output}
use Rattle.plan_theorems.specs.EndsLaws.{HandedAlong}
use Rattle.plan_theorems.specs.Made.{piece_start, piece_end, flags_at, length_at, reason_at, PlanWritten, Flagged, Shows, Follows}

-- ---- a path by its numbers

path_below : (i : ℕ) (rest : List ℕ) (last n : ℕ) → Onward (λ (a b : ℕ). a < b) i rest last → n ≤ length rest → get_or (i ∷ rest) n 0 ≤ last
path_below i rest last zero o h = onward-last i rest last o
path_below i [] last (suc n) o h = absurd (omega arith)
path_below i (j ∷ rest) last (suc n) o h = path_below j rest last n o.1 (omega arith)

module _ (cs : List Candidate) where
  path_named : (path : List ℕ) (n : ℕ) → 0 < length cs → RisingPath cs path → n < length path → get_or path n 0 < length cs
  path_named [] n some r h = absurd r
  path_named (i ∷ rest) n some r h = omega (arith, some, path_below i rest (length cs - 1) n r.1 (omega arith))

  through-at : (i : ℕ) (rest : List ℕ) (n : ℕ) → n < length rest → get_or (pieces_through cs i rest) n (piece_from 0 0) ≡ piece_between cs (get_or (i ∷ rest) n 0) (get_or rest n 0)
  through-at i [] n h = absurd (omega arith)
  through-at i (j ∷ rest) zero h = refl
  through-at i (j ∷ rest) (suc n) h = through-at j rest n (omega arith)

  along-at : (path : List ℕ) (n : ℕ) → suc n < length path → get_or (pieces_along cs path) n (piece_from 0 0) ≡ piece_between cs (get_or path n 0) (get_or path (suc n) 0)
  along-at [] n h = absurd (omega arith)
  along-at (i ∷ rest) n h = through-at i rest n (omega arith)

  from_at : (rest : List ℕ) (n : ℕ) → suc n < length rest → get_or (cuts_at cs rest) n (cut_at 0) ≡ ends_at cs (get_or rest n 0)
  from_at [] n h = absurd (omega arith)
  from_at (i ∷ []) n h = absurd (omega arith)
  from_at (i ∷ (j ∷ rest)) zero h = refl
  from_at (i ∷ (j ∷ rest)) (suc n) h = from_at (j ∷ rest) n (omega arith)

  cut_at_lem : (path : List ℕ) (n : ℕ) → suc (suc n) < length path → get_or (cuts_along cs path) n (cut_at 0) ≡ ends_at cs (get_or path (suc n) 0)
  cut_at_lem [] n h = absurd (omega arith)
  cut_at_lem (i ∷ rest) n h = from_at rest n (omega arith)

-- ---- the output's front

module _ (g : FrameGrid) (settings : PlanConfig) (cs : List Candidate) (path : List ℕ) (k : ℕ) (before after : Output) (h : HandedAlong g settings cs path k before after) where
  pieces_long : length (plan_pieces g settings cs path) ≡ 3 * k
  pieces_long = rw (← h.number) (plan_lengths g settings cs path).0

  cuts_long : length (plan_cuts g cs path) ≡ 3 * (k - 1)
  cuts_long = rw (← h.number) (plan_lengths g settings cs path).1

  pieces_front : take (3 * k) after.pieces ≡ plan_pieces g settings cs path
  pieces_front =
      ap (λ (o : Output). take (3 * k) o.pieces) h.is ∙ ap (λ (n : ℕ). take n (onto (plan_pieces g settings cs path) before.pieces)) (sym pieces_long)
      ∙ onto-take (plan_pieces g settings cs path) before.pieces

  cuts-front : take (3 * (k - 1)) after.cuts ≡ plan_cuts g cs path
  cuts-front =
      ap (λ (o : Output). take (3 * (k - 1)) o.cuts) h.is ∙ ap (λ (n : ℕ). take n (onto (plan_cuts g cs path) before.cuts)) (sym cuts_long)
      ∙ onto-take (plan_cuts g cs path) before.cuts

  -- nothing beyond it has changed
  pub along-written : PlanWritten k before after
  along-written = record {
    fits = h.fits;
    pieces = ap (λ (o : Output). o.pieces) h.is ∙ ap (λ (p : List ℕ). onto p before.pieces) (sym pieces_front);
    cuts = ap (λ (o : Output). o.cuts) h.is ∙ ap (λ (p : List ℕ). onto p before.cuts) (sym cuts-front);
  }

  piece_at_lem : (j : ℕ) → j < 3 * k → get_or after.pieces j 0 ≡ get_or (plan_pieces g settings cs path) j 0
  piece_at_lem j l = ap (λ (o : Output). get_or o.pieces j 0) h.is ∙ onto-at (plan_pieces g settings cs path) before.pieces j 0 (omega (arith, l, pieces_long))

  cut-number_at : (j : ℕ) → j < 3 * (k - 1) → get_or after.cuts j 0 ≡ get_or (plan_cuts g cs path) j 0
  cut-number_at j l = ap (λ (o : Output). get_or o.cuts j 0) h.is ∙ onto-at (plan_cuts g cs path) before.cuts j 0 (omega (arith, l, cuts_long))

-- ---- number by number

module _ (g : FrameGrid) (settings : PlanConfig) (s : Span) (cs : List Candidate) (path : List ℕ) (k : ℕ) (before after : Output)
    (across : Across s cs) (rising : RisingPath cs path) (h : HandedAlong g settings cs path k before after) where
  -- one piece fewer than candidates on the path
  count : length path ≡ suc k
  count = omega (arith, h.number, count_along s cs across path rising)

  -- the output follows the path
  pub along_follows : Follows g settings cs path k after
  along_follows = record { number = count; pieces = pieces_front g settings cs path k before after h; cuts = cuts-front g settings cs path k before after h }

  numbers : (i : ℕ) → i < k → Numbers (plan_pieces g settings cs path) i (get_or (rights_of g cs) (get_or path i 0) 0) (get_or (lefts_of g cs) (get_or path (suc i) 0) 0)
      (flags_of (is_tail k i) (minimum_in g settings) (maximum_in g settings) (piece_length (lefts_of g cs) (rights_of g cs) (get_or path i 0) (get_or path (suc i) 0)))
  unfolding plan_pieces
  numbers i l = rw (← h.number) (piece_numbers_lem (lefts_of g cs) (rights_of g cs) (minimum_in g settings) (maximum_in g settings) path i (omega (arith, l, count)))

  cut-three : (i : ℕ) → suc i < k → Numbers (plan_cuts g cs path) i (get_or (lefts_of g cs) (get_or path (suc i) 0) 0) (get_or (rights_of g cs) (get_or path (suc i) 0) 0)
      (get_or (reasons_of cs) (get_or path (suc i) 0) 0)
  unfolding plan_cuts
  cut-three i l = cut_numbers_lem (lefts_of g cs) (rights_of g cs) (reasons_of cs) path i (omega (arith, l, count))

  named : (n : ℕ) → n ≤ k → get_or path n 0 < length cs
  named n l = path_named cs path n (omega (arith, across.some)) rising (omega (arith, l, count))

  start_is : (i : ℕ) → i < k → piece_start after i ≡ get_or (rights_of g cs) (get_or path i 0) 0
  start_is i l = piece_at_lem g settings cs path k before after h (3 * i) (omega arith) ∙ (numbers i l).one

  end_is : (i : ℕ) → i < k → piece_end after i ≡ get_or (lefts_of g cs) (get_or path (suc i) 0) 0
  end_is i l = piece_at_lem g settings cs path k before after h (3 * i + 1) (omega arith) ∙ (numbers i l).two

  -- the piece of the division
  piece_is : (i : ℕ) → i < k → get_or (pieces_of s (cuts_along cs path)) i (piece_from 0 0) ≡ piece_between cs (get_or path i 0) (get_or path (suc i) 0)
  piece_is i l = ap (λ (ps : List Piece). get_or ps i (piece_from 0 0)) (pieces_along_lem s cs across path rising) ∙ along-at cs path i (omega (arith, l, count))

  -- and shows the division along it
  pub along_shows : Shows g s (cuts_along cs path) k after
  along_shows = record {
    number = omega (arith, h.number, count_along s cs across path rising);
    piece_start_lem = λ i l. start_is i l ∙ right_sample_lem cs g (get_or path i 0) (named i (omega (arith, l))) ∙ ap (λ (p : Piece). boundary_of g p.start) (sym (piece_is i l));
    piece_end_lem = λ i l. end_is i l ∙ left_sample_lem cs g (get_or path (suc i) 0) (named (suc i) (omega (arith, l))) ∙ ap (λ (p : Piece). boundary_of g p.end) (sym (piece_is i l));
    cut_start = λ i l. cut-number_at g settings cs path k before after h (3 * i) (omega (arith, l)) ∙ (cut-three i l).one ∙ left_sample_lem cs g (get_or path (suc i) 0) (named (suc i) (omega (arith, l)))
        ∙ ap (λ (c : Cut). boundary_of g c.left) (sym (cut_at_lem cs path i (omega (arith, l, count))));
    cut_end = λ i l. cut-number_at g settings cs path k before after h (3 * i + 1) (omega (arith, l)) ∙ (cut-three i l).two ∙ right_sample_lem cs g (get_or path (suc i) 0) (named (suc i) (omega (arith, l)))
        ∙ ap (λ (c : Cut). boundary_of g c.right) (sym (cut_at_lem cs path i (omega (arith, l, count))));
  }

  -- the flags are those of a piece's length and place
  flags_are : (i : ℕ) → i < k → flags_at after i ≡ flags_of (is_tail k i) (minimum_in g settings) (maximum_in g settings) (length_at after i)
  unfolding piece_length
  flags_are i l = piece_at_lem g settings cs path k before after h (3 * i + 2) (omega arith) ∙ (numbers i l).three ∙ rw (start_is i l, end_is i l)

  -- minimum and maximum are within their limits, so that no length is below the one and above the other
  pub along_flagged : settings.min ≤ settings.max → InSamples g.sample_rate settings.max → Flagged (minimum_in g settings) (maximum_in g settings) k after
  along_flagged order timed = record {
    long = λ i l. rw (flags_are i l) (long_stands (is_tail k i) (minimum_in g settings) (maximum_in g settings) (length_at after i));
    short = λ i l. rw (flags_are i l) (short-stands (is_tail k i) (minimum_in g settings) (maximum_in g settings) (length_at after i));
    one = λ i l. rw (flags_are i l) (flags-one (is_tail k i) g.sample_rate settings.min settings.max (length_at after i) order (samples_small g.sample_rate settings.max timed));
  }

  -- the reasons are those of candidates
  pub along_reasoned : (i : ℕ) → suc i < k → reason_at after i ≤ 2
  along_reasoned i l =
      subst (λ (n : ℕ). n ≤ 2) (sym (cut-number_at g settings cs path k before after h (3 * i + 2) (omega (arith, l)) ∙ (cut-three i l).three)) (reasons_few cs (get_or path (suc i) 0))
