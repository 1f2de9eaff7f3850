-- From the number that C gets to what was handed out: 0 says that a list was found, and the theorems on candidates hold of it.
use Rattle.std.specs.Prelude.{◌≡◌, List, ℕ, Float}
use Rattle.std.proofs.Common.{sym, ap}
use Rattle.std.proofs.Math.Path.{subst}
use Rattle.base_terms.specs.Work.{Work}
use Rattle.grid.specs.declared.validate.Recording.{Recording}
use Rattle.silence_list.specs.declared.config.SegmentConfig.{SegmentConfig}
use Rattle.plan_settings.specs.declared.config.PlanConfig.{PlanConfig}
use Rattle.candidate_list.specs.CandidateList.{Answer, Output, candidate_list_of}
use Rattle.candidate_list.specs.Theorems.{IsFound, CandidatesHanded, found-handed, number_zero}
use Rattle.handed_back.specs.Candidates.{found_after}
use Rattle.capi.specs.Candidates.{ListCalled, list_called_of}

module _ (r : Recording) (segment : SegmentConfig) (settings : PlanConfig) (values : List Float) (flags : List ℕ) (levels : List Float) (out : Output) (work : Work) (before : ℕ) where
  -- what the call leaves
  abbrev called : ListCalled
  called = list_called_of (candidate_list_of r segment settings values flags levels out work) before

  -- the number is 0 where a list was found, and nowhere else
  pub called_zero : (called.number ≡ 0 → IsFound (candidate_list_of r segment settings values flags levels out work).answer)
      × (IsFound (candidate_list_of r segment settings values flags levels out work).answer → called.number ≡ 0)
  unfolding list_called_of
  called_zero = number_zero r segment settings values flags levels out work

  -- then `found` holds how many there are, and the output's front is the list of the theorems
  pub called-handed : called.number ≡ 0 → CandidatesHanded r segment settings values flags levels out work called.found
  unfolding list_called_of
  called-handed e =
      let f = called_zero.0 e in
      subst (CandidatesHanded r segment settings values flags levels out work) (sym (ap (λ (a : Answer). found_after a before) f.is)) (found-handed r segment settings values flags levels out work f.count f.is)
