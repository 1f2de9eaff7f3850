-- `operation::best_path` refuses before it writes, or searches and then clears every work list whole: one law for each of the two ends.
use Rattle.base_terms.specs.Work.{work_of}
use Rattle.path_tests.specs.RefusalLaws.{accepted_lists}
use Rattle.path_list.specs.SearchLaws.{workable}
use Rattle.base_code.specs.WorkLaws.{filled_same, cleared_same}
use Rattle.path_list.specs.OperationLaws.{path_refused, path-sought}
use Rattle.std.proofs.Common.{rules}
use Rattle.std.specs.Prelude.{◌≡◌, Result, Ok, Err, IsErrAnd}
use Rattle.base_terms.specs.Lists.{filled}
use Rattle.path_list.specs.declared.search.Error.TheVariants.{Refused}
use mathlib.Core.Path.{refl, sym, ◌∙◌}
use Rattle.path_list.proofs.operation.best_path.Goals as goal

-- an error that can only be e is e
err_is : {A E : Type 0} (r : Result A E) (e : E) → IsErrAnd r (λ x. x ≡ e) → r ≡ Err e
err_is (Ok a) e h = absurd h
err_is (Err x) e h = rw h

pub returns-in_err-first_refusal : goal.returns-in_err-first_refusal
returns-in_err-first_refusal c =
    rw (err_is c.from_residual.result (Refused c.in_err-first_refusal.field-0.0) c.from_residual.ensures.1)
    (path_refused c.args.lengths c.args.ends.now.left.now c.args.ends.now.right.now c.args.cost.now c.args.mode c.args.path.now
    (work_of c.args.u32s.now c.args.u64s.now c.args.f64s.now) c.args.parent.now _ c.in_err-first_refusal.ensures)

pub search-answer-requires : goal.search-answer-requires
search-answer-requires c =
    let fine = c.in_ok-first_refusal.was in
    workable (accepted_lists _ _ _ _ _ _ _ _ (sym c.first_refusal.ensures ∙ fine))

pub returns : goal.returns
unfolding filled
returns c =
    path-sought c.args.lengths c.args.ends.now.left.now c.args.ends.now.right.now c.args.cost.now c.args.mode c.args.path.now
    (work_of c.args.u32s.now c.args.u64s.now c.args.f64s.now) c.args.parent.now
    (sym c.in_ok-first_refusal.was ∙ c.first_refusal.ensures) c.search-answer.result _ _ _ c.search-answer.ensures
    (c.clear_work.ensures ∙ cleared_same _ _ (search rules) refl (search rules))
    (c.fill.ensures.after (λ y h. h) ∙ filled_same 0 c.search-answer.new.parent c.args.parent.now (search rules))
