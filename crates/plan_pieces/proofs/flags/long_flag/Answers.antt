-- `flags::long_flag` tests as the definition does.
use Rattle.plan_pieces.specs.FlagsLaws.{long_told}
use Rattle.plan_pieces.proofs.flags.long_flag.Goals as goal

pub returns : goal.returns
returns c = long_told c.args.max c.args.len c.from.result c.from.ensures
