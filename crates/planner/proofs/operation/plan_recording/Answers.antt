-- `operation::plan_recording`: an empty span has the empty plan; else the span that is held is planned.
use Rattle.candidate_finder.specs.Prepare.{PreparedIs}
use Rattle.candidate_finder.specs.PrepareLaws.{ready_plannable}
use Rattle.planner.specs.OperationLaws.{ready_held, ready_room, ready_asked, planned_empty, planned_ready}
use mathlib.Core.Path.{subst}
use lib.ListN.{length}
use Rattle.planner.proofs.operation.plan_recording.Goals as goal

pub prepare-prepared-requires : goal.prepare-prepared-requires
prepare-prepared-requires c = ready_plannable c.args.r c.args.segment c.args.settings c.args.readings.now.values.now c.args.readings.now.flags.now c.args.readings.now.levels.now (length c.args.work_u32.now) (length c.args.work_u64.now) (length c.args.work_f64.now) c.requires

pub plan_span-requires : goal.plan_span-requires
plan_span-requires c = let q = (subst (PreparedIs c.args.r c.args.segment c.args.settings c.args.readings.now.values.now c.args.readings.now.flags.now c.args.readings.now.levels.now _ _) c.in-Some.is c.prepare-prepared.ensures).says in
    record { span_held = ready_held c.args.r c.args.segment c.args.settings c.args.readings.now.values.now c.args.readings.now.flags.now c.args.readings.now.levels.now (length c.args.work_u32.now) (length c.args.work_u64.now) (length c.args.work_f64.now) c.requires (record { values_fit = c.args.readings.now.values_fit; levels_fit = c.args.readings.now.levels_fit }) _ _ _ _ _ q c.work_u32-1.given c.work_f64-1.given; span_room = ready_room c.args.r c.args.segment c.args.settings c.args.readings.now.values.now c.args.readings.now.flags.now c.args.readings.now.levels.now (length c.args.work_u32.now) (length c.args.work_u64.now) (length c.args.work_f64.now) c.requires (record { values_fit = c.args.readings.now.values_fit; levels_fit = c.args.readings.now.levels_fit }) _ _ _ _ _ q c.work_u32-1.given c.work_f64-1.given; asked_for = ready_asked c.args.r c.args.segment c.args.settings c.args.readings.now.values.now c.args.readings.now.flags.now c.args.readings.now.levels.now (length c.args.work_u32.now) (length c.args.work_u64.now) (length c.args.work_f64.now) c.requires (record { values_fit = c.args.readings.now.values_fit; levels_fit = c.args.readings.now.levels_fit }) _ _ _ _ _ q c.work_u32-1.given c.work_f64-1.given }

pub returns-in-None : goal.returns-in-None
returns-in-None c =
    let e = (subst (PreparedIs c.args.r c.args.segment c.args.settings c.args.readings.now.values.now c.args.readings.now.flags.now c.args.readings.now.levels.now _ _) c.in-None.is c.prepare-prepared.ensures).says in
    planned_empty c.args.r c.args.segment c.args.settings c.args.readings.now.values.now c.args.readings.now.flags.now c.args.readings.now.levels.now e _ _

pub returns-in-Some : goal.returns-in-Some
returns-in-Some c =
    let q = (subst (PreparedIs c.args.r c.args.segment c.args.settings c.args.readings.now.values.now c.args.readings.now.flags.now c.args.readings.now.levels.now _ _) c.in-Some.is c.prepare-prepared.ensures).says in
    planned_ready c.args.r c.args.segment c.args.settings c.args.readings.now.values.now c.args.readings.now.flags.now c.args.readings.now.levels.now (length c.args.work_u32.now) (length c.args.work_u64.now) (length c.args.work_f64.now) c.requires (record { values_fit = c.args.readings.now.values_fit; levels_fit = c.args.readings.now.levels_fit }) _ _ _ _ _ q c.work_u32-1.given c.work_f64-1.given _ _ _ c.plan_span.ensures
