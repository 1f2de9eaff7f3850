-- `narrow::narrower` chooses by the tests of the definition.
use Rattle.path_by_count_search.specs.NarrowLaws.{narrower_lower, narrower_upper, narrower_same}
use Rattle.std.proofs.Common.{◌≡◌, arith}
use Rattle.path_by_count_search.specs.Narrow.{middle_of}
use Rattle.path_by_count_search.proofs.narrow.narrower.Goals as goal

pub returns-then-to-mid : goal.returns-then-to-mid
returns-then-to-mid c =
    let m : c.midpoint-mid.result ≡ middle_of c.args.place = omega (arith, c.midpoint-mid.ensures, c.requires.lo_le_hi) in
    rw m (narrower_lower c.args.place c.args.from c.args.to (omega (arith, m, c.if-to-mid.true)))

pub returns-then-mid-from : goal.returns-then-mid-from
returns-then-mid-from c =
    let m : c.midpoint-mid.result ≡ middle_of c.args.place = omega (arith, c.midpoint-mid.ensures, c.requires.lo_le_hi) in
    rw m (narrower_upper c.args.place c.args.from c.args.to (omega (arith, m, c.if-to-mid.false)) (omega (arith, m, c.if-mid-from.true)))

pub returns-else-mid-from : goal.returns-else-mid-from
returns-else-mid-from c =
    let m : c.midpoint-mid.result ≡ middle_of c.args.place = omega (arith, c.midpoint-mid.ensures, c.requires.lo_le_hi) in
    narrower_same c.args.place c.args.from c.args.to (omega (arith, m, c.if-to-mid.false)) (omega (arith, m, c.if-mid-from.false))
