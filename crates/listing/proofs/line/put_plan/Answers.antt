-- `line::put_plan` writes one text of the line after another.
use Rattle.listing.specs.Listing.{plan_line}
use Rattle.listing.specs.LineLaws.{plan_rooms}
use Rattle.listing.specs.WrittenLaws.{room-first, room_then, wrote_none, wrote_then}
use Rattle.listing.proofs.line.put_plan.Goals as goal

pub put_numbers-at-requires : goal.put_numbers-at-requires
put_numbers-at-requires c =
    let all = plan_rooms c.args.pieces c.args.cuts c.requires in
    room-first all

pub put_text-requires : goal.put_text-requires
put_text-requires c =
    let all = plan_rooms c.args.pieces c.args.cuts c.requires in
    room-first (room_then all c.put_numbers-at.ensures)

pub returns : goal.returns
unfolding plan_line
returns c =
    let last = wrote_then c.put_text.ensures wrote_none in
    (wrote_then c.put_numbers-at.ensures last).all
