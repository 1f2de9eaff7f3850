-- `place::place_at`: one law for each setting.
use mathlib.Core.Path.{◌≡◌, sym, ap}
use Rattle.plan_settings.specs.declared.config.Gap.{Gap}
use Rattle.plan_settings.specs.declared.config.Gap.TheVariants.{Keep, Drop}
use Rattle.completion_reach.specs.Place.{held_cut}
use Rattle.completion_reach.specs.PlaceLaws.{place_keep}
use Rattle.completion_reach.proofs.place.place_at.Goals as goal

pub returns-in-Keep : goal.returns-in-Keep
returns-in-Keep c =
    let e : ◌≡◌ {A = Gap} c.args.x.gap Keep = cc in
    rw e (ap held_cut (sym (place_keep c.args.x.padding c.args.silences.now c.args.k)))

pub returns-in-Drop : goal.returns-in-Drop
returns-in-Drop c =
    let e : ◌≡◌ {A = Gap} c.args.x.gap Drop = cc in
    rw e c.dropped_place.ensures
