-- `own::own` puts the parts of `own_at` together.
use Rattle.candidates.specs.PointLaws.{own_is}
use Rattle.candidates.proofs.own.own.Goals as goal

pub returns : goal.returns
returns c =
    own_is c.args.x c.args.silences.now c.args.levels.now c.args.i c.start_at-start.result c.end_at-end.result c.silence_cut-c.result c.secs_of-secs.result c.cut_cost.result c.start_at-start.ensures c.end_at-end.ensures c.silence_cut-c.ensures c.secs_of-secs.ensures c.cut_cost.ensures
