-- What is claimed of the records of a plan: record i is piece or cut i of its path, with each flag and reason as the plan sets it, and nothing is lost.
use Rattle.std.specs.Prelude.{◌≡◌, List, [], ◌∷◌, take}
use Rattle.std.proofs.Common.{sym, subst, ◌∙◌, arith}
use Rattle.std.proofs.Math.Path.{ap}
use Prim.Native.Nat.{ℕ, suc, ◌+◌, ◌-◌, ◌*◌, ◌/◌, ◌≤◌, ◌<◌}
use Rattle.std.proofs.Math.ListN.{length, get_or}
use Rattle.base_terms.specs.Lists.{onto}
use Rattle.base_code.specs.FrontLaws.{onto-take}
use Rattle.grid.specs.declared.boundary.FrameGrid.{FrameGrid}
use Rattle.plan_settings.specs.declared.config.PlanConfig.{PlanConfig}
use Rattle.candidates.specs.Samples.{lefts_of, rights_of}
use Rattle.candidates.specs.declared.candidate.Candidate.{Candidate}
use Rattle.plan_lengths.specs.PlanLengths.{minimum_in, maximum_in}
use Rattle.plan_pieces.specs.Flags.{is_tail}
use Rattle.plan_pieces.specs.FlagsLaws.{flags_most}
use Rattle.plan_pieces.specs.NumbersLaws.{Numbers, piece_numbers_lem, cut_numbers_lem}
use Rattle.plan_pieces.specs.PlanAlong.{reasons_of, plan_pieces, plan_cuts}
use Rattle.plan_pieces.specs.PlanAlongLaws.{reasons_few, plan_lengths}
use Rattle.plan_records.specs.Records.{record_at, records_of, record_numbers, RecordsEnd, records_end_of}
use Rattle.plan_records.specs.RecordsLaws.{record_of, records_written, records_at, numbers_back}
use Rattle.plan_records.specs.Pieces.{piece_of, numbers_of_piece, piece_record}
use Rattle.plan_records.specs.PiecesLaws.{piece_flagged, piece_back}
use Rattle.plan_records.specs.Cuts.{cut_of, numbers_of_cut, cut_record}
use Rattle.plan_records.specs.CutsLaws.{reason_kept, cut_back}
use Rattle.plan_records.specs.declared.pieces.Piece.{Piece}
use Rattle.plan_records.specs.declared.cuts.Cut.{Cut}

-- the three numbers at i are what they are known to be
threes : (ns : List ℕ) (i a b c : ℕ) → Numbers ns i a b c → a ∷ (b ∷ (c ∷ [])) ≡ get_or ns (3 * i) 0 ∷ (get_or ns (3 * i + 1) 0 ∷ (get_or ns (3 * i + 2) 0 ∷ []))
threes ns i a b c n = rw (n.one, n.two, n.three)

module _ (g : FrameGrid) (settings : PlanConfig) (cs : List Candidate) (path : List ℕ) where
  -- ---- pieces

  -- what the operation wrote to the front of its output is handed on whole
  pub front_of_pieces : (out : List ℕ) → take (3 * (length path - 1)) (onto (plan_pieces g settings cs path) out) ≡ plan_pieces g settings cs path
  front_of_pieces out =
      subst (λ (n : ℕ). take n (onto (plan_pieces g settings cs path) out) ≡ plan_pieces g settings cs path) (plan_lengths g settings cs path).0 (onto-take (plan_pieces g settings cs path) out)

  numbers_of_piece_lem : (i : ℕ) → suc i < length path → record_at piece_of (plan_pieces g settings cs path) i
      ≡ piece_record (lefts_of g cs) (rights_of g cs) (minimum_in g settings) (maximum_in g settings) (is_tail (length path - 1) i) (get_or path i 0) (get_or path (suc i) 0)
  unfolding plan_pieces
  numbers_of_piece_lem i h =
      record_of piece_of _ (piece_numbers_lem (lefts_of g cs) (rights_of g cs) (minimum_in g settings) (maximum_in g settings) path i h)
      ∙ piece_flagged (lefts_of g cs) (rights_of g cs) (minimum_in g settings) (maximum_in g settings) (is_tail (length path - 1) i) (get_or path i 0) (get_or path (suc i) 0)

  -- a list with room for the pieces gets each of them
  pub records_of_plan : (records : List Piece) → length path - 1 ≤ length records
      → ((records_end_of piece_of (plan_pieces g settings cs path) records).answer ≡ 0)
      × ((i : ℕ) (z : Piece) → suc i < length path → get_or (records_end_of piece_of (plan_pieces g settings cs path) records).records i z
      ≡ piece_record (lefts_of g cs) (rights_of g cs) (minimum_in g settings) (maximum_in g settings) (is_tail (length path - 1) i) (get_or path i 0) (get_or path (suc i) 0))
  records_of_plan records room =
      let l = (plan_lengths g settings cs path).0 in
      let r : length (plan_pieces g settings cs path) / 3 ≤ length records = omega (arith, l, room) in (
        sym (ap (λ (e : RecordsEnd Piece). e.answer) (records_written piece_of (plan_pieces g settings cs path) records r)),
        λ i z h. records_at piece_of (plan_pieces g settings cs path) records i z r (omega (arith, l, h)) ∙ numbers_of_piece_lem i h,
      )

  -- the records have every number of the plan
  pub pieces_kept : record_numbers numbers_of_piece (records_of piece_of (plan_pieces g settings cs path)) ≡ plan_pieces g settings cs path
  unfolding plan_pieces
  pieces_kept =
      let l = (plan_lengths g settings cs path).0 in
      numbers_back numbers_of_piece piece_of _ (λ i h. each i (omega (arith, l, h))) (omega (arith, l))
    where
      each : (i : ℕ) → suc i < length path → numbers_of_piece (record_at piece_of (plan_pieces g settings cs path) i)
          ≡ get_or (plan_pieces g settings cs path) (3 * i) 0 ∷ (get_or (plan_pieces g settings cs path) (3 * i + 1) 0 ∷ (get_or (plan_pieces g settings cs path) (3 * i + 2) 0 ∷ []))
      each i h =
          let n = piece_numbers_lem (lefts_of g cs) (rights_of g cs) (minimum_in g settings) (maximum_in g settings) path i h in
          ap numbers_of_piece (record_of piece_of _ n) ∙ piece_back _ _ _ (flags_most (is_tail (length path - 1) i) (minimum_in g settings) (maximum_in g settings) _) ∙ threes _ i _ _ _ n

  -- ---- cuts

  -- what the operation wrote to the front of its output is handed on whole
  pub front_of-cuts : (out : List ℕ) → take (3 * (length path - 1 - 1)) (onto (plan_cuts g cs path) out) ≡ plan_cuts g cs path
  front_of-cuts out = subst (λ (n : ℕ). take n (onto (plan_cuts g cs path) out) ≡ plan_cuts g cs path) (plan_lengths g settings cs path).1 (onto-take (plan_cuts g cs path) out)

  numbers_of_cut_lem : (i : ℕ) → suc (suc i) < length path
      → record_at cut_of (plan_cuts g cs path) i ≡ cut_record (lefts_of g cs) (rights_of g cs) (reasons_of cs) (get_or path (suc i) 0)
  unfolding plan_cuts
  numbers_of_cut_lem i h =
      record_of cut_of _ (cut_numbers_lem (lefts_of g cs) (rights_of g cs) (reasons_of cs) path i h)
      ∙ rw (reason_kept (get_or (reasons_of cs) (get_or path (suc i) 0) 0) (reasons_few cs (get_or path (suc i) 0)))

  -- a list with room for the cuts gets each of them
  pub cut-records_of_plan : (records : List Cut) → length path - 1 - 1 ≤ length records
      → ((records_end_of cut_of (plan_cuts g cs path) records).answer ≡ 0)
      × ((i : ℕ) (z : Cut) → suc (suc i) < length path
      → get_or (records_end_of cut_of (plan_cuts g cs path) records).records i z ≡ cut_record (lefts_of g cs) (rights_of g cs) (reasons_of cs) (get_or path (suc i) 0))
  cut-records_of_plan records room =
      let l = (plan_lengths g settings cs path).1 in
      let r : length (plan_cuts g cs path) / 3 ≤ length records = omega (arith, l, room) in (
        sym (ap (λ (e : RecordsEnd Cut). e.answer) (records_written cut_of (plan_cuts g cs path) records r)),
        λ i z h. records_at cut_of (plan_cuts g cs path) records i z r (omega (arith, l, h)) ∙ numbers_of_cut_lem i h,
      )

  -- the records have every number of the plan
  pub cuts_kept : record_numbers numbers_of_cut (records_of cut_of (plan_cuts g cs path)) ≡ plan_cuts g cs path
  unfolding plan_cuts
  cuts_kept =
      let l = (plan_lengths g settings cs path).1 in
      numbers_back numbers_of_cut cut_of _ (λ i h. each i (omega (arith, l, h))) (omega (arith, l))
    where
      each : (i : ℕ) → suc (suc i) < length path → numbers_of_cut (record_at cut_of (plan_cuts g cs path) i)
          ≡ get_or (plan_cuts g cs path) (3 * i) 0 ∷ (get_or (plan_cuts g cs path) (3 * i + 1) 0 ∷ (get_or (plan_cuts g cs path) (3 * i + 2) 0 ∷ []))
      each i h =
          let n = cut_numbers_lem (lefts_of g cs) (rights_of g cs) (reasons_of cs) path i h in
          ap numbers_of_cut (record_of cut_of _ n) ∙ cut_back _ _ _ (reasons_few cs (get_or path (suc i) 0)) ∙ threes _ i _ _ _ n
