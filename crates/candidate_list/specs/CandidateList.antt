-- The operation "candidate list": the candidates of a plan, before completion adds to them, for the comparison with the Rust.
-- `candidate_list_of` is what the contract cites: the answer, and every list that was lent to be written, afterwards.
use Rattle.std.specs.Prelude.{ℕ, ◌*◌, Bool, ◌&&◌, cond, List, Result, Ok, Err, leb, Float, length}
use Rattle.base_terms.specs.Lists.{onto}
use Rattle.base_terms.specs.Work.{Work, cleared}
use Rattle.grid.specs.declared.validate.Recording.{Recording}
use Rattle.silence_list.specs.declared.config.SegmentConfig.{SegmentConfig}
use Rattle.plan_settings.specs.declared.config.PlanConfig.{PlanConfig}
use Rattle.plan_tests.specs.Refusal as tests
use Rattle.plan_tests.specs.declared.refusal.Refusal.{Refusal}
use Rattle.candidates.specs.Entries.{entries_of, costs_of}
use Rattle.candidates.specs.declared.candidate.Candidate.{Candidate}
use Rattle.candidate_finder.specs.CandidatesIn.{candidates_in}
use Rattle.candidate_list.specs.declared.list.Error.{Error}
use Rattle.candidate_list.specs.declared.list.Error.TheVariants.{Refused, ShortOutput}

-- how many candidates were written, or why none was
abbrev pub Answer : Type 0
Answer = Result ℕ Error

-- document 01's number for each case that makes no list
abbrev pub error_number : Error → ℕ
error_number (Refused r) = tests.number_of r
error_number ShortOutput = 12

-- document 01's number for each case; 0 where the list was made
abbrev pub number_of : Answer → ℕ
number_of (Ok n) = 0
number_of (Err e) = error_number e

-- the output: three numbers for each candidate, its left boundary, its right boundary and its reason, and a cost for each
pub record Output : Type 0 where
  pub ends : List ℕ
  pub costs : List Float

-- the output, from its two lists
abbrev pub output_of : List ℕ → List Float → Output
output_of ends costs = record { ends = ends; costs = costs }

-- what a call leaves
pub record End : Type 0 where
  pub answer : Answer
  pub out : Output
  pub work : Work

-- what a call leaves, from its parts
abbrev pub end_of : Answer → Output → Work → End
end_of answer out work = record { answer = answer; out = out; work = work }

-- one of two, by a test
abbrev pub pick : Bool → End → End → End
pick test a b = cond test a b

-- 12: outputs of these lengths have room for a cost and three numbers of each candidate
unfoldable pub has_room : ℕ → ℕ → ℕ → Bool
has_room candidates ends costs = leb candidates costs && leb (3 * candidates) ends

-- 12, or so many candidates with these entries and costs: either way work memory is zeroed whole, and the output is untouched beyond the answer
unfoldable pub handed_out_of : ℕ → List ℕ → List Float → Output → Work → End
handed_out_of candidates entries costs out work =
    pick (has_room candidates (length out.ends) (length out.costs))
    (end_of (Ok candidates) (output_of (onto entries out.ends) (onto costs out.costs)) (cleared work))
    (end_of (Err ShortOutput) out (cleared work))

-- a refusal before 12 leaves every list as it was; else the candidates are handed out
abbrev pub end_after : Result Unit Refusal → List Candidate → Output → Work → End
end_after (Ok tt) cs out work = handed_out_of (length cs) (entries_of cs) (costs_of cs) out work
end_after (Err r) cs out work = end_of (Err (Refused r)) out work

-- the operation "candidate list": the first test that fails, or the candidates
unfoldable pub candidate_list_of : Recording → SegmentConfig → PlanConfig → List Float → List ℕ → List Float → Output → Work → End
candidate_list_of r segment settings values flags levels out work =
    end_after
    (tests.first_refusal_of r segment settings values flags levels (length work.u32s) (length work.u64s) (length work.f64s))
    (candidates_in r segment settings values flags levels) out work
