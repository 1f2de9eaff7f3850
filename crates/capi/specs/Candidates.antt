-- What the exported operation "candidate list" leaves: its number, and everything that was lent to be written.
use Rattle.std.specs.Prelude.{ℕ}
use Rattle.base_terms.specs.Work.{Work}
use Rattle.candidate_list.specs.CandidateList.{Output, End, number_of}
use Rattle.handed_back.specs.Candidates.{found_after}

-- what a call leaves: its number, the number of candidates, and every list that was lent to be written
pub record ListCalled : Type 0 where
  pub number : ℕ
  pub found : ℕ
  pub out : Output
  pub work : Work

-- what a call leaves, from its parts
abbrev pub list_called : ℕ → ℕ → Output → Work → ListCalled
list_called number found out work = record { number = number; found = found; out = out; work = work }

-- the operation's end, as C sees it; `before` is what stood at the place of the count
unfoldable pub list_called_of : End → ℕ → ListCalled
list_called_of e before = list_called (number_of e.answer) (found_after e.answer before) e.out e.work
