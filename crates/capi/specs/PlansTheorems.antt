-- From the number that C gets to what was handed out: 0 says that a plan was made, and the theorems on plans hold of it.
-- The lengths that the header's functions name are enough: 14 and 12 do not come then.
use Rattle.std.specs.Prelude.{◌≡◌, ◌↔◌, true, List, Ok, ℕ, ◌+◌, ◌*◌, ◌≤◌, min, Float, length}
use Rattle.std.proofs.Common.{sym, ap, arith}
use Rattle.std.proofs.Math.Path.{subst}
use Rattle.std.proofs.Math.Logic.{inl, inr}
use Rattle.base_laws.specs.Tests.{lt_or_le}
use Rattle.base_terms.specs.Work.{Work, work_ok}
use Rattle.grid.specs.declared.validate.Recording.{Recording}
use Rattle.silence_list.specs.declared.config.SegmentConfig.{SegmentConfig}
use Rattle.path_pieces.specs.declared.mode.Mode.TheVariants.{ByCount}
use Rattle.plan_settings.specs.declared.config.PlanConfig.{PlanConfig}
use Rattle.plan_tests.specs.Fitting.{Fitting}
use Rattle.plan_tests.specs.Refusal as tests
use Rattle.plan_tests.specs.RefusalLaws.{never_work, never_output, number_most}
use Rattle.plan_pieces.specs.AnswerLaws.{number-parent, number-output, answer_most}
use Rattle.plan_pieces.specs.Output.{Output}
use Rattle.plan_pieces.specs.Answer.{Answer}
use Rattle.planner.specs.Operation.{plan_of}
use Rattle.handed_back.specs.Plan.{pieces_after}
use Rattle.plan_theorems.specs.Made.{HasRoom, Made}
use Rattle.plan_theorems.proofs.Theorems.{plan_made, plan_ended, plan_tested, plan_sure}
use Rattle.capi.specs.Plans.{PlanCalled, plan_called_of}

-- what is at most 13 and neither 12 nor 13
below_twelve : {n : ℕ} → n ≤ 13 → (n ≡ 12 → ⊥) → (n ≡ 13 → ⊥) → n ≤ 11
below_twelve {n} most a b = elim (lt_or_le n 12) [
  | inl h ↦ omega arith
  | inr h ↦ elim (lt_or_le n 13) [ inl k ↦ absurd (a (omega arith)) | inr k ↦ absurd (b (omega arith)) ]
]

module _ (r : Recording) (segment : SegmentConfig) (settings : PlanConfig) (values : List Float) (flags : List ℕ) (levels : List Float) (out : Output) (work : Work) (parent : List ℕ)
    (before : ℕ)
  where
    -- what the call leaves
    abbrev called : PlanCalled
    called = plan_called_of (plan_of r segment settings values flags levels out work parent) before

    -- the number is 0 where a plan was made, and nowhere else
    pub plan_called_zero : (called.number ≡ 0) ↔ ((k : ℕ) × ((plan_of r segment settings values flags levels out work parent).answer ≡ Ok k))
    unfolding plan_called_of
    plan_called_zero = (plan_ended r segment settings values flags levels out work parent).number

    -- no number is above 14: 18, "no reach exists", is none of them
    pub plan_called_most : called.number ≤ 14
    unfolding plan_called_of
    plan_called_most = answer_most (plan_of r segment settings values flags levels out work parent).answer

    -- then `found` holds how many pieces it has, and the output's fronts are the plan of the theorems
    pub plan_called_lem : called.number ≡ 0 → Made r segment settings values flags levels called.found out called.out
    unfolding plan_called_of
    plan_called_lem e =
        let f = plan_called_zero.0 e in
        subst (λ (k : ℕ). Made r segment settings values flags levels k out (plan_of r segment settings values flags levels out work parent).out)
        (sym (ap (λ (a : Answer). pieces_after a before) f.1)) (plan_made r segment settings values flags levels out work parent f.0 f.1)

    -- 14 never comes where the parent list has (frames + 1) × min(N, frames) entries
    pub plan_parents : (count : ℕ) → settings.mode ≡ ByCount count → (length values + 1) * min count (length values) ≤ length parent → called.number ≡ 14 → ⊥
    unfolding plan_called_of
    plan_parents count asked enough e =
        (plan_ended r segment settings values flags levels out work parent).parents_enough count asked enough
        (number-parent (plan_of r segment settings values flags levels out work parent).answer e)

    -- 12 never comes where each output has 3 × frames entries
    pub plan_room : Fitting values levels → 3 * length values ≤ length out.pieces → 3 * length values ≤ length out.cuts → called.number ≡ 12 → ⊥
    unfolding plan_called_of
    plan_room f p c e =
        (plan_ended r segment settings values flags levels out work parent).roomy f (p, omega (arith, c))
        (number-output (plan_of r segment settings values flags levels out work parent).answer e)

    -- with lists of these lengths
    module _ (f : Fitting values levels) (parents : (count : ℕ) → settings.mode ≡ ByCount count → (length values + 1) * min count (length values) ≤ length parent)
        (pieces : 3 * length values ≤ length out.pieces) (cuts : 3 * length values ≤ length out.cuts)
      where
        room : HasRoom (length values) out
        room = (pieces, omega (arith, cuts))

        -- a recording and settings that pass the tests up to 13 have a plan
        pub plan_called_sure : tests.first_refusal_of r segment settings values flags levels (length work.u32s) (length work.u64s) (length work.f64s) ≡ Ok tt → called.number ≡ 0
        unfolding plan_called_of
        plan_called_sure fine = plan_called_zero.1 (plan_sure r segment settings values flags levels out work parent f parents room fine)

        -- and with work lists that are long enough, what is refused is so by a test of the recording or the settings, 1 to 11
        pub plan_called_lists : work_ok (length values + 1) (length work.u32s) (length work.u64s) (length work.f64s) ≡ true → called.number ≤ 11
        unfolding plan_called_of
        plan_called_lists enough = elim (plan_tested r segment settings values flags levels out work parent f parents room) [
          | inl p ↦ omega (arith, plan_called_zero.1 p)
          | inr p ↦
              rw p.1
              (below_twelve (number_most p.0) (never_output p.0)
              (never_work r segment settings values flags levels (length work.u32s) (length work.u64s) (length work.f64s) p.0 enough
              ((plan_ended r segment settings values flags levels out work parent).first_failed p.0 p.1)))
        ]
