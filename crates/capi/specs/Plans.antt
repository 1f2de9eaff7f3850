-- What the exported operation Plan leaves: its number, and everything that was lent to be written.
use Rattle.std.specs.Prelude.{ℕ, List}
use Rattle.base_terms.specs.Work.{Work}
use Rattle.plan_pieces.specs.Answer.{number_of}
use Rattle.plan_pieces.specs.Output.{Output}
use Rattle.handed_back.specs.Plan.{pieces_after}
use Rattle.planner.specs.Operation.{End}

-- what a call leaves: its number, the number of pieces, and every list that was lent to be written
pub record PlanCalled : Type 0 where
  pub number : ℕ
  pub found : ℕ
  pub out : Output
  pub work : Work
  pub parent : List ℕ

-- what a call leaves, from its parts
abbrev pub plan_called : ℕ → ℕ → Output → Work → List ℕ → PlanCalled
plan_called number found out work parent = record { number = number; found = found; out = out; work = work; parent = parent }

-- the operation's end, as C sees it; `before` is what stood at the place of the count
unfoldable pub plan_called_of : End → ℕ → PlanCalled
plan_called_of e before = plan_called (number_of e.answer) (pieces_after e.answer before) e.out e.work e.parent
