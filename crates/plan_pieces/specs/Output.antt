-- Document 01's refusal 12 of the operation Plan, "output too short for the answer": the plan is handed out whole, or nothing is written.
use Rattle.std.specs.Prelude.{ℕ, ◌-◌, ◌*◌, Bool, ◌&&◌, cond, List, leb, length, Ok, Err}
use Rattle.base_terms.specs.Lists.{onto}
use Rattle.plan_pieces.specs.Answer.{Answer}
use Rattle.plan_pieces.specs.declared.answer.Error.TheVariants.{ShortOutput}

-- the output: three numbers for each piece, and three for each cut
pub record Output : Type 0 where
  pub pieces : List ℕ
  pub cuts : List ℕ

-- the output, from its two lists
abbrev pub output_of : List ℕ → List ℕ → Output
output_of pieces cuts = record { pieces = pieces; cuts = cuts }

-- an answer, and the output with it
pub record Handed : Type 0 where
  pub answer : Answer
  pub out : Output

-- an answer with its output, from the two
abbrev pub handed_of : Answer → Output → Handed
handed_of answer out = record { answer = answer; out = out }

-- one of two, by a test
abbrev pub pick : Bool → Handed → Handed → Handed
pick test a b = cond test a b

-- 12: outputs of these lengths have room for so many pieces, and for one cut fewer
unfoldable pub has_room : ℕ → ℕ → ℕ → Bool
has_room pieces piecesLength cutsLength = leb (3 * pieces) piecesLength && leb (3 * (pieces - 1)) cutsLength

-- so many pieces with these numbers, and the cuts with theirs, or 12; the output is untouched beyond the answer
unfoldable pub handed_out_of : ℕ → List ℕ → List ℕ → Output → Handed
handed_out_of pieces piece_numbers cut_numbers out =
    pick (has_room pieces (length out.pieces) (length out.cuts))
    (handed_of (Ok pieces) (output_of (onto piece_numbers out.pieces) (onto cut_numbers out.cuts)))
    (handed_of (Err ShortOutput) out)
