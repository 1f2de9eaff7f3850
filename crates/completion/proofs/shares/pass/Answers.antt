-- `shares::pass`: one law for each setting.
use mathlib.Core.Path.{◌≡◌}
use Rattle.plan_settings.specs.declared.config.Gap.{Gap}
use Rattle.plan_settings.specs.declared.config.Gap.TheVariants.{Keep, Drop}
use Rattle.completion.specs.CountedLaws.{counted_keep}
use Rattle.completion.proofs.shares.pass.Goals as goal

pub pass_gaps-requires : goal.pass_gaps-requires
pass_gaps-requires c = let e : ◌≡◌ {A = Gap} c.args.gap Drop = cc in
    rw e at c.requires

pub returns-in-Keep : goal.returns-in-Keep
returns-in-Keep c =
    let e : ◌≡◌ {A = Gap} c.args.gap Keep = cc in
    rw e (counted_keep c.args.p c.args.silences.now c.args.at c.args.passed (rw e at c.requires.counting))

pub returns-in-Drop : goal.returns-in-Drop
returns-in-Drop c =
    let e : ◌≡◌ {A = Gap} c.args.gap Drop = cc in
    rw e c.pass_gaps.ensures
