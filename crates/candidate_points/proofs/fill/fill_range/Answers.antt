-- `fill::fill_range` fills the part that was lent.
use Rattle.std.proofs.Common.{rules}
use Rattle.base_terms.specs.Lists.{filled}
use Rattle.silence_runs.specs.RunsWalk.{put_part}
use Rattle.candidate_points.proofs.fill.fill_range.Goals as goal

pub returns : goal.returns
unfolding filled
returns c = put_part _ _ _ _ _ (search rules) (search rules) (search rules)
