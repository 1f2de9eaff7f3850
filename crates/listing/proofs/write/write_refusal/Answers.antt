-- `write::write_refusal`: the room that is asked for holds the line of every number of 32 bits.
use Rattle.std.proofs.Common.{arith}
use lib.ListN.{length}
use Rattle.listing.specs.Listing.{refusal_line}
use Rattle.listing.specs.Written.{Room}
use Rattle.listing.proofs.FitsLaws.{refusal_fits}
use Rattle.listing.specs.WrittenLaws.{written-front, written_counts}
use Rattle.listing.proofs.write.write_refusal.Goals as goal

pub put_refusal-requires : goal.put_refusal-requires
put_refusal-requires c = record { enough = omega (arith, refusal_fits c.args.number (omega arith)) }

pub returns : goal.returns
returns c = let w = c.put_refusal.ensures in
    let room : Room (length (refusal_line c.args.number)) c.args.out.now 0 = record { enough = omega (arith, refusal_fits c.args.number (omega arith)) } in
    record { value = omega (arith, w.behind); out_after = written-front room w; prefix_len = written_counts room w }
