-- `point::point` puts the parts of `point_at` together.
use Rattle.candidates.specs.PointLaws.{point_is}
use Rattle.candidates.proofs.point.point.Goals as goal

pub returns : goal.returns
returns c =
    point_is c.args.x c.args.silences.now c.args.levels.now c.args.runs.now c.args.k c.stretch_at.result c.secs_of-secs.result c.cut_cost.result c.point_reason.result c.stretch_at.ensures c.secs_of-secs.ensures c.cut_cost.ensures c.point_reason.ensures
