-- The room that is asked for holds the first line of every listing, and the line stands at the list's front.
use Rattle.std.proofs.Common.{arith}
use mathlib.Core.Path.{refl}
use lib.ListN.{length}
use Rattle.listing.specs.Listing.{plan_line}
use Rattle.listing.specs.Written.{Room}
use Rattle.listing.proofs.FitsLaws.{plan_fits}
use Rattle.listing.specs.WrittenLaws.{written-front}
use Rattle.cutplan.proofs.answer.write_empty.Goals as goal

pub put_plan-requires : goal.put_plan-requires
put_plan-requires c = record { enough = omega (arith, plan_fits 0 0 (omega arith) (omega arith)) }

pub returns : goal.returns
returns c = let written = c.put_plan.ensures in
    let room : Room (length (plan_line 0 0)) c.args.out.now 0 = record { enough = omega (arith, plan_fits 0 0 (omega arith) (omega arith)) } in
    record { size_value = omega (arith, written.behind); refused_value = refl; out_after = written-front room written }
