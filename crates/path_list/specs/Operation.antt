-- Document 01's operation "path over lent candidates": what a call leaves, on all input.
use Rattle.std.specs.Prelude.{cond, List, Result, Ok, Err, ℕ, ◌*◌, leb, Float, length}
use Rattle.base_terms.specs.Lists.{filled, onto}
use Rattle.base_terms.specs.Work.{Work, cleared}
use Rattle.path_pieces.specs.declared.lengths.Lengths.{Lengths}
use Rattle.path_pieces.specs.declared.mode.Mode.{Mode}
use Rattle.path_pieces.specs.declared.mode.Mode.TheVariants.{ByLength, ByCount}
use Rattle.path_pieces.specs.declared.score.Score.{Score}
use Rattle.path_rules.specs.Paths.{last_candidate, piece_count}
use Rattle.path_by_length.specs.Table.{best_score, best_path}
use Rattle.path_by_count.specs.Table.{best_path_by_count, best_score_by_count}
use Rattle.path_tests.specs.Refusal.{first_refusal_of}
use Rattle.path_tests.specs.Refusal as tests
use Rattle.path_tests.specs.declared.refusal.Refusal.{Refusal}
use Rattle.path_list.specs.Answer.{Answer}
use Rattle.path_list.specs.declared.search.Error.{Error}
use Rattle.path_list.specs.declared.search.Error.TheVariants.{Refused, ShortParent, ShortPath}

-- document 01's number for each case that gives no path
abbrev pub error_number : Error → ℕ
error_number (Refused r) = tests.number_of r
error_number ShortParent = 14
error_number ShortPath = 12

-- document 01's number for each case of the answer; 0 where a path was found
abbrev pub number_of : Answer → ℕ
number_of (Ok s) = 0
number_of (Err e) = error_number e

-- ---- the search

-- the answer and the output list
pub record Outcome : Type 0 where
  pub answer : Answer
  pub path : List ℕ

-- the outcome, from its two parts
abbrev pub outcome_of : Answer → List ℕ → Outcome
outcome_of answer path = record { answer = answer; path = path }

-- 12 or the path at the front of the output, which is untouched beyond it
unfoldable pub handed_out_of : List ℕ → Score → List ℕ → Outcome
handed_out_of way score path =
    cond (leb (length way) (length path))
    (outcome_of (Ok (record { score = score; len = length way })) (onto way path))
    (outcome_of (Err ShortPath) path)

-- by length, document 01's best path
abbrev pub handed_by_length : Lengths → List ℕ → List ℕ → List Float → List ℕ → Outcome
handed_by_length l left right cost path = handed_out_of (best_path l left right cost) (best_score l left right cost (last_candidate left)) path

-- by count, the best path of min(count, last index) pieces
abbrev pub handed_by_count : Lengths → List ℕ → List ℕ → List Float → ℕ → List ℕ → Outcome
handed_by_count l left right cost count path = handed_out_of (best_path_by_count l left right cost count) (best_score_by_count l left right cost count) path

-- by count 14 first: with `parents` the length of the parent list
unfoldable pub sought_of : Lengths → List ℕ → List ℕ → List Float → Mode → ℕ → List ℕ → Outcome
sought_of l left right cost ByLength parents path = handed_by_length l left right cost path
sought_of l left right cost (ByCount count) parents path =
    cond (leb (piece_count left count * length left) parents) (handed_by_count l left right cost count path) (outcome_of (Err ShortParent) path)

-- ---- the operation

-- what a call leaves: its answer, and every list that was lent to be written
pub record End : Type 0 where
  pub answer : Answer
  pub path : List ℕ
  pub work : Work
  pub parent : List ℕ

-- what a call leaves, from its parts
abbrev pub end_of : Answer → List ℕ → Work → List ℕ → End
end_of answer path work parent = record { answer = answer; path = path; work = work; parent = parent }

-- a refusal up to 13 leaves every list as it was; else work memory is zeroed whole, whatever the search gave
abbrev pub end_after : Result Unit Refusal → Outcome → List ℕ → Work → List ℕ → End
end_after (Ok tt) sought path work parent = end_of sought.answer sought.path (cleared work) (filled 0 parent)
end_after (Err r) sought path work parent = end_of (Err (Refused r)) path work parent

-- document 01's operation "path over lent candidates": its tests, and then the search
unfoldable pub path_of : Lengths → List ℕ → List ℕ → List Float → Mode → List ℕ → Work → List ℕ → End
path_of l left right cost mode path work parent =
    end_after
    (first_refusal_of left right cost l mode (length work.u32s) (length work.u64s) (length work.f64s))
    (sought_of l left right cost mode (length parent) path)
    path work parent
