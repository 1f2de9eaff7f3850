-- `list::candidate_list`: a refusal touches nothing; else the candidates stand in work memory, whose lists keep their lengths, and are handed out.
use Rattle.std.proofs.Common.{arith, rules}
use mathlib.Core.Path.{◌≡◌, sym, ◌∙◌}
use Rattle.std.specs.Prelude.{Result, Ok, Err, IsErrAnd}
use Rattle.candidate_list.specs.declared.list.Error.TheVariants.{Refused}
use lib.ListN.{length}
use Rattle.plan_tests.specs.PlanReady.{fine_ready}
use Rattle.base_terms.specs.Work.{work_of}
use Rattle.candidate_finder.specs.CandidatesIn.{candidates_in}
use Rattle.candidate_finder.specs.PrepareLaws.{ready_plannable}
use Rattle.candidate_list.specs.CandidateList.{output_of}
use Rattle.candidate_list.specs.CandidateListLaws.{stands_copyable, ends_refused, ends-listed}
use Rattle.candidate_list.proofs.list.candidate_list.Goals as goal

-- an error that can only be e is e
err_is : {A E : Type 0} (r : Result A E) (e : E) → IsErrAnd r (λ x. x ≡ e) → r ≡ Err e
err_is (Ok a) e h = absurd h
err_is (Err x) e h = rw h

pub returns-in_err-first_refusal : goal.returns-in_err-first_refusal
returns-in_err-first_refusal c = record {
  answer = rw (err_is c.from_residual.result (Refused c.in_err-first_refusal.field-0.0) c.from_residual.ensures.1)
      (ends_refused c.args.r c.args.segment c.args.settings c.args.readings.now.values.now c.args.readings.now.flags.now c.args.readings.now.levels.now (output_of c.args.ends.now c.args.costs.now) (work_of c.args.work_u32.now c.args.work_u64.now c.args.work_f64.now) _ c.in_err-first_refusal.ensures);
  fitting = record { values_fit = c.args.readings.now.values_fit; levels_fit = c.args.readings.now.levels_fit };
}

pub find_candidates-candidates-requires : goal.find_candidates-candidates-requires
find_candidates-candidates-requires c =
    let n32 = length c.args.work_u32.now in
    let n64 = length c.args.work_u64.now in
    let nf = length c.args.work_f64.now in
    ready_plannable c.args.r c.args.segment c.args.settings c.args.readings.now.values.now c.args.readings.now.flags.now c.args.readings.now.levels.now n32 n64 nf
    (fine_ready c.args.r c.args.segment c.args.settings c.args.readings.now.values.now c.args.readings.now.flags.now c.args.readings.now.levels.now n32 n64 nf (sym c.first_refusal.ensures ∙ c.in_ok-first_refusal.was))

pub hand_out-requires : goal.hand_out-requires
hand_out-requires c =
    let n32 = length c.args.work_u32.now in
    let n64 = length c.args.work_u64.now in
    let nf = length c.args.work_f64.now in
    let p = c.find_candidates-candidates.ensures in
    let ready = fine_ready c.args.r c.args.segment c.args.settings c.args.readings.now.values.now c.args.readings.now.flags.now c.args.readings.now.levels.now n32 n64 nf (sym c.first_refusal.ensures ∙ c.in_ok-first_refusal.was) in
    let same : length c.find_candidates-candidates.new.work_u32 ≡ length c.args.work_u32.now = search rules in
    let samef : length c.find_candidates-candidates.new.work_f64 ≡ length c.args.work_f64.now = search rules in
    stands_copyable (length c.args.readings.now.values.now) c.find_candidates-candidates.result (candidates_in c.args.r c.args.segment c.args.settings c.args.readings.now.values.now c.args.readings.now.flags.now c.args.readings.now.levels.now) c.find_candidates-candidates.new.work_u32 c.find_candidates-candidates.new.work_f64
    (omega (arith, same, ready.work.enough32)) (omega (arith, samef, ready.work.enoughf)) ready.few p

pub returns : goal.returns
returns c = let p = c.find_candidates-candidates.ensures in
    let same : length c.find_candidates-candidates.new.work_u32 ≡ length c.args.work_u32.now = search rules in
    let samef : length c.find_candidates-candidates.new.work_f64 ≡ length c.args.work_f64.now = search rules in
    record {
      answer = c.hand_out.ensures
          ∙ ends-listed c.args.r c.args.segment c.args.settings c.args.readings.now.values.now c.args.readings.now.flags.now c.args.readings.now.levels.now (output_of c.args.ends.now c.args.costs.now) (work_of c.args.work_u32.now c.args.work_u64.now c.args.work_f64.now) c.find_candidates-candidates.result _ _ _ _ (sym c.in_ok-first_refusal.was ∙ c.first_refusal.ensures) p.number p.entries p.costs same samef;
      fitting = record { values_fit = c.args.readings.now.values_fit; levels_fit = c.args.readings.now.levels_fit };
    }
