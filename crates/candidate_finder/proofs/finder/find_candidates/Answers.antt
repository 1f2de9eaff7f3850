-- `finder::find_candidates`: an empty span has none; else the walk over the span that is held finds them.
use Rattle.candidate_finder.specs.Prepare.{PreparedIs}
use Rattle.candidate_finder.specs.FinderLaws.{found_none, found_collectable, found-stands}
use mathlib.Core.Path.{subst}
use lib.ListN.{length}
use Rattle.candidate_finder.proofs.finder.find_candidates.Goals as goal

pub collect-requires : goal.collect-requires
collect-requires c =
    let q = (subst (PreparedIs c.args.r c.args.segment c.args.settings c.args.readings.now.values.now c.args.readings.now.flags.now c.args.readings.now.levels.now _ _) c.in-Some.is c.prepare-prepared.ensures).says in
    found_collectable c.args.r c.args.segment c.args.settings c.args.readings.now.values.now c.args.readings.now.flags.now c.args.readings.now.levels.now (length c.args.work_u32.now) (length c.args.work_f64.now) c.requires _ _ _ _ _ q c.work_u32-1.given c.work_f64-1.given

pub returns-in-None : goal.returns-in-None
returns-in-None c =
    let e = (subst (PreparedIs c.args.r c.args.segment c.args.settings c.args.readings.now.values.now c.args.readings.now.flags.now c.args.readings.now.levels.now _ _) c.in-None.is c.prepare-prepared.ensures).says in
    found_none c.args.r c.args.segment c.args.settings c.args.readings.now.values.now c.args.readings.now.flags.now c.args.readings.now.levels.now _ _ e

pub returns-in-Some : goal.returns-in-Some
returns-in-Some c =
    let q = (subst (PreparedIs c.args.r c.args.segment c.args.settings c.args.readings.now.values.now c.args.readings.now.flags.now c.args.readings.now.levels.now _ _) c.in-Some.is c.prepare-prepared.ensures).says in
    found-stands c.args.r c.args.segment c.args.settings c.args.readings.now.values.now c.args.readings.now.flags.now c.args.readings.now.levels.now (length c.args.work_u32.now) (length c.args.work_f64.now) c.requires _ _ _ _ _ q c.work_u32-1.given c.work_f64-1.given _ _ _ c.collect.ensures.value c.collect.ensures.work_u32_after c.collect.ensures.work_f64_after c.work_u32-in-Some-1.given c.work_f64-in-Some-1.given
