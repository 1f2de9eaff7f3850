-- From the answer to what is handed out: a list was found exactly where the number is 0, and then it is document 01's, of which every theorem on candidates holds.
use Rattle.std.proofs.Math.Path.{◌≡◌, refl}
use Rattle.std.proofs.Common.{sym, ap, ◌∙◌, arith}
use Rattle.std.specs.Prelude.{Bool, true, false, List, Result, Ok, Err, ℕ, ◌*◌, Float, length, take}
use Rattle.base_terms.specs.Lists.{onto}
use Rattle.base_terms.specs.Work.{Work, cleared}
use Rattle.base_code.specs.FrontLaws.{onto-take}
use Rattle.grid.specs.declared.validate.Recording.{Recording}
use Rattle.silence_list.specs.declared.config.SegmentConfig.{SegmentConfig}
use Rattle.plan_settings.specs.declared.config.PlanConfig.{PlanConfig}
use Rattle.plan_tests.specs.Refusal as tests
use Rattle.plan_tests.specs.RefusalLaws.{fails_some}
use Rattle.plan_tests.specs.Fitting.{Fitting}
use Rattle.plan_tests.specs.PlanReady.{PlanReady, fine_ready}
use Rattle.plan_tests.specs.declared.refusal.Refusal.{Refusal}
use Rattle.candidates.specs.Entries.{entries_of, costs_of}
use Rattle.candidates.specs.EntriesLaws.{entries_length, costs_length}
use Rattle.candidates.specs.declared.candidate.Candidate.{Candidate}
use Rattle.candidate_finder.specs.CandidatesIn.{candidates_in}
use Rattle.candidate_finder.specs.SpanIn.{empty_in}
use Rattle.candidate_finder.specs.PlanCandidates.{PlanCandidates, PlanCosts}
use Rattle.candidate_finder.specs.Theorems.{plan_empty, plan_candidates, plan_costs}
use Rattle.candidate_list.specs.CandidateList.{Answer, number_of, Output, output_of, End, end_of, pick, has_room, handed_out_of, end_after, candidate_list_of}
use Rattle.candidate_list.specs.declared.list.Error.TheVariants.{ShortOutput}

-- a list was found, of so many candidates
pub record IsFound (a : Answer) : Type 0 where
  pub count : ℕ
  pub is : a ≡ Ok count

-- what "found" says: no test failed, and the entries and costs of so many candidates stand in front of both outputs
record FoundOf (v : Result Unit Refusal) (cs : List Candidate) (out after : Output) (k : ℕ) : Type 0 where
  fine : v ≡ Ok tt
  number : k ≡ length cs
  ends : after.ends ≡ onto (entries_of cs) out.ends
  costs : after.costs ≡ onto (costs_of cs) out.costs

-- ---- the three ends

module _ (cs : List Candidate) (out : Output) (work : Work) where
  -- test 12, and what is left after it
  abbrev room : Bool
  room = has_room (length cs) (length out.ends) (length out.costs)

  abbrev handed_by : Bool → End
  handed_by b =
      pick b (end_of (Ok (length cs)) (output_of (onto (entries_of cs) out.ends) (onto (costs_of cs) out.costs)) (cleared work)) (end_of (Err ShortOutput) out (cleared work))

  handed-found : (b : Bool) (k : ℕ) → (handed_by b).answer ≡ Ok k → FoundOf (Ok tt) cs out (handed_by b).out k
  handed-found true k e = record { fine = refl; number = cc; ends = refl; costs = refl }
  handed-found false k e = let z : ◌≡◌ {A = ℕ} 0 1 = cc in absurd (omega arith)

  found_by : (v : Result Unit Refusal) (k : ℕ) → (end_after v cs out work).answer ≡ Ok k → FoundOf v cs out (end_after v cs out work).out k
  unfolding handed_out_of
  found_by (Ok tt) k e = handed-found room k e
  found_by (Err x) k e = let z : ◌≡◌ {A = ℕ} 0 1 = cc in absurd (omega arith)

  handed_zero : (b : Bool) → number_of (handed_by b).answer ≡ 0 → IsFound (handed_by b).answer
  handed_zero true z = record { count = length cs; is = refl }
  handed_zero false z = absurd (omega (arith, z))

  -- a list was found where the number is 0, if no refusal's is
  zero_by : (v : Result Unit Refusal) → ((x : Refusal) → v ≡ Err x → tests.number_of x ≡ 0 → ⊥) → number_of (end_after v cs out work).answer ≡ 0 → IsFound (end_after v cs out work).answer
  unfolding handed_out_of
  zero_by (Ok tt) f z = handed_zero room z
  zero_by (Err x) f z = absurd (f x refl z)

-- what was written in front stands there
front : {A : Type 0} (p xs : List A) (n : ℕ) → n ≡ length p → take n (onto p xs) ≡ p
front p xs n e = rw e (onto-take p xs)

module _ (r : Recording) (segment : SegmentConfig) (settings : PlanConfig) (values : List Float) (flags : List ℕ) (levels : List Float) (out : Output) (work : Work) where
  -- what the operation leaves
  abbrev end : End
  end = candidate_list_of r segment settings values flags levels out work

  -- document 01's candidates
  abbrev cs : List Candidate
  cs = candidates_in r segment settings values flags levels

  -- the first test that fails
  abbrev verdict : Result Unit Refusal
  verdict = tests.first_refusal_of r segment settings values flags levels (length work.u32s) (length work.u64s) (length work.f64s)

  -- ---- the statements

  -- where k candidates were found: the output's front is document 01's list, and all that the papers say of one holds of it
  pub record CandidatesHanded (k : ℕ) : Type 0 where
    -- no test before 12 fails
    pub accepted : verdict ≡ Ok tt
    -- three numbers and a cost for each candidate, in front of what stood in the output before
    pub number : k ≡ length cs
    pub ends : take (3 * k) end.out.ends ≡ entries_of cs
    pub costs : take k end.out.costs ≡ costs_of cs
    -- an empty span has no candidates
    pub empty : empty_in r segment settings values flags ≡ true → k ≡ 0
    -- in any other they lie as document 01 says, and cost what it says; the levels of decibels are f64, and the values f32, as their types have it
    pub placed : empty_in r segment settings values flags ≡ false → PlanCandidates r segment settings values flags levels cs
    pub priced : empty_in r segment settings values flags ≡ false → Fitting values levels → PlanCosts r segment settings values flags levels cs

  -- ---- what an answer tells

  found_of : (k : ℕ) → end.answer ≡ Ok k → FoundOf verdict cs out end.out k
  unfolding candidate_list_of
  found_of k e = found_by cs out work verdict k e

  module _ (k : ℕ) (found : end.answer ≡ Ok k) where
    ready : PlanReady r segment settings values flags levels (length work.u32s) (length work.u64s) (length work.f64s)
    ready = fine_ready r segment settings values flags levels (length work.u32s) (length work.u64s) (length work.f64s) (found_of k found).fine

    -- the theorem: with no hypothesis but the answer
    pub found-handed : CandidatesHanded k
    found-handed =
        let f = found_of k found in
        record {
          accepted = f.fine;
          number = f.number;
          ends = rw f.ends (front (entries_of cs) out.ends (3 * k) (omega (arith, f.number, entries_length cs)));
          costs = rw f.costs (front (costs_of cs) out.costs k (f.number ∙ sym (costs_length cs)));
          empty = λ e. f.number ∙ ap length (plan_empty r segment settings values flags levels e);
          placed = λ e. plan_candidates r segment settings values flags levels (length work.u32s) (length work.u64s) (length work.f64s) ready e;
          priced = λ e f. plan_costs r segment settings values flags levels (length work.u32s) (length work.u64s) (length work.f64s) ready e f;
        }

  -- ---- the number

  zero_found : number_of end.answer ≡ 0 → IsFound end.answer
  unfolding candidate_list_of
  zero_found = zero_by cs out work verdict (fails_some r segment settings values flags levels (length work.u32s) (length work.u64s) (length work.f64s))

  -- it is 0 where a list was found, and nowhere else
  pub number_zero : (number_of end.answer ≡ 0 → IsFound end.answer) × (IsFound end.answer → number_of end.answer ≡ 0)
  number_zero = (zero_found, λ f. ap number_of f.is)
