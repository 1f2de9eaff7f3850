-- `shares::share_cut`: the gaps that were passed moved the boundary on, and its place is the cut.
use Rattle.std.proofs.Common.{arith}
use Rattle.completion.specs.CountedLaws.{counting_less}
use Rattle.completion.specs.SharesLaws.{parted}
use Rattle.completion.proofs.shares.share_cut.Goals as goal

pub pass-now-requires : goal.pass-now-requires
pass-now-requires c = record { counting = c.requires.counting; silences_bound = c.requires.room }

pub overflow_add-at : goal.overflow_add-at
overflow_add-at c =
    omega (arith, c.requires.room, counting_less c.args.x.gap c.args.x.padding c.args.silences.now c.args.at c.pass-now.result c.pass-now.ensures.counting)

pub place_at-requires : goal.place_at-requires
place_at-requires c = c.requires.listed

pub returns : goal.returns
returns c =
    parted c.args.x c.args.silences.now c.args.at c.pass-now.result c.pass-now.ensures c.place_at.result c.place_at.ensures
