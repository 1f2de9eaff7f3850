-- A plan's pieces are as many as its path has steps, and entries have the candidates' reasons, of which there are three.
use Rattle.std.specs.Prelude.{◌≡◌, refl, List, [], ◌∷◌, ℕ, zero, suc, ◌-◌, ◌*◌, ◌≤◌, length, get_or}
use Rattle.std.proofs.Common.{ap, arith}
use Rattle.grid.specs.declared.boundary.FrameGrid.{FrameGrid}
use Rattle.plan_settings.specs.declared.config.PlanConfig.{PlanConfig}
use Rattle.candidates.specs.Candidates.{reason_number}
use Rattle.candidates.specs.Entries.{entries_of}
use Rattle.candidates.specs.Samples.{lefts_of, rights_of}
use Rattle.candidates.specs.declared.candidate.Candidate.{Candidate}
use Rattle.candidates.specs.declared.candidate.Reason.{Reason}
use Rattle.candidates.specs.declared.candidate.Reason.TheVariants.{Silence, Quiet, Forced}
use Rattle.plan_pieces.specs.Along.{reasons_in}
use Rattle.plan_pieces.specs.NumbersLaws.{pieces_length, cuts-length}
use Rattle.plan_lengths.specs.PlanLengths.{minimum_in, maximum_in}
use Rattle.plan_pieces.specs.PlanAlong.{reasons_of, plan_pieces, plan_cuts}

-- candidates as numbers have their reasons
pub reasons_entries : (cs : List Candidate) → reasons_in (entries_of cs) ≡ reasons_of cs
unfolding entries_of reasons_in
reasons_entries [] = refl
reasons_entries (c ∷ cs) = ap (λ (rs : List ℕ). reason_number c.reason ∷ rs) (reasons_entries cs)

reason_few : (reason : Reason) → reason_number reason ≤ 2
reason_few Silence = omega arith
reason_few Quiet = omega arith
reason_few Forced = omega arith

-- candidates have no other reasons
pub reasons_few : (cs : List Candidate) (j : ℕ) → get_or (reasons_of cs) j 0 ≤ 2
reasons_few [] j = omega arith
reasons_few (c ∷ cs) zero = reason_few c.reason
reasons_few (c ∷ cs) (suc j) = reasons_few cs j

module _ (g : FrameGrid) (settings : PlanConfig) (cs : List Candidate) (path : List ℕ) where
  -- three numbers for each piece, one piece fewer than candidates; and three for each cut, one cut fewer than pieces
  pub plan_lengths : (length (plan_pieces g settings cs path) ≡ 3 * (length path - 1)) × (length (plan_cuts g cs path) ≡ 3 * (length path - 1 - 1))
  unfolding plan_pieces plan_cuts
  plan_lengths =
      let pieces = pieces_length (lefts_of g cs) (rights_of g cs) (minimum_in g settings) (maximum_in g settings) path in
      (pieces, cuts-length (lefts_of g cs) (rights_of g cs) (reasons_of cs) path)
