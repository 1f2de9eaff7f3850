-- `over_keys`: without a key there is no value; else the two percentiles are resolved.
use lib.ListN.{length, length-map}
use Rattle.silence_levels.specs.Keys.{value_of}
use Rattle.silence_levels.specs.LevelsLaws.{over_none, over_some}
use Rattle.std.proofs.Common.{rules, arith, ◌≡◌, ◌∙◌, ◌<◌}
use Rattle.silence_levels.proofs.over_keys.Goals as goal

pub returns-then-is_empty : goal.returns-then-is_empty
returns-then-is_empty c =
    let none : length c.args.keys.now ≡ 0 = search rules in
    rw c.no_signal.ensures (over_none _ _ _ (length-map c.args.keys.now value_of ∙ none))

pub returns : goal.returns
returns c =
    let some : 0 < length c.args.keys.now = search rules in
    rw (c.resolve.ensures, c.percentile-floor.ensures, c.percentile-reference.ensures)
    (over_some _ _ _ (omega (arith, some, length-map c.args.keys.now value_of)))
