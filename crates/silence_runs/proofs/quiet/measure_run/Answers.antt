-- `quiet::measure_run` fills the part that was lent with its length.
use Rattle.std.proofs.Common.{rules, ◌≡◌, ◌-◌, take, drop}
use Rattle.base_terms.specs.Lists.{filled}
use Rattle.silence_runs.specs.RunsWalk.{put_part}
use Rattle.silence_runs.proofs.quiet.measure_run.Goals as goal

pub returns : goal.returns
unfolding filled
returns c =
    let n = c.args.end - c.args.start in
    let e : c.fill.new.self ≡ filled n (take n (drop c.args.start c.args.below.now)) = search rules in
    put_part _ _ _ _ _ (search rules) (search rules) e
