-- What the exported operation "path over lent candidates" leaves: its number, and everything that was lent to be written.
use Rattle.std.specs.Prelude.{ℕ, List, Float}
use Rattle.base_terms.specs.Work.{Work}
use Rattle.path_pieces.specs.Pieces.{length_weights}
use Rattle.path_pieces.specs.declared.lengths.Lengths.{Lengths}
use Rattle.path_list.specs.Operation.{End, number_of}
use Rattle.handed_back.specs.Path.{length_after, over_after, cost_after}

-- C hands the length preferences over as five numbers
abbrev pub lengths_of : Float → Float → ℕ → Float → Float → Lengths
lengths_of min target limit targetWeight shortWeight =
    record { min = min; target = target; limit = limit; weights = length_weights targetWeight shortWeight }

-- what a call leaves: its number, the path's length and score, and every list that was lent to be written
pub record PathCalled : Type 0 where
  pub number : ℕ
  pub length : ℕ
  pub over : ℕ
  pub cost : Float
  pub path : List ℕ
  pub work : Work
  pub parent : List ℕ

-- what a call leaves, from its parts
abbrev pub path_called : ℕ → ℕ → ℕ → Float → List ℕ → Work → List ℕ → PathCalled
path_called number length over cost path work parent =
    record { number = number; length = length; over = over; cost = cost; path = path; work = work; parent = parent }

-- the operation's end, as C sees it; length, over and cost are what stood there before
unfoldable pub path_called_of : End → ℕ → ℕ → Float → PathCalled
path_called_of e length over cost =
    path_called (number_of e.answer) (length_after e.answer length) (over_after e.answer over) (cost_after e.answer cost) e.path e.work e.parent
