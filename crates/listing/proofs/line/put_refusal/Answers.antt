-- `line::put_refusal` writes one text of the line after another.
use Rattle.listing.specs.Listing.{refusal_line}
use Rattle.listing.specs.LineLaws.{refusal_rooms}
use Rattle.listing.specs.WrittenLaws.{room-first, room_then, wrote_none, wrote_then}
use Rattle.listing.proofs.line.put_refusal.Goals as goal

pub put_text-at-requires : goal.put_text-at-requires
put_text-at-requires c =
    let all = refusal_rooms c.args.number c.requires in
    room-first all

pub put_number-at-requires : goal.put_number-at-requires
put_number-at-requires c =
    let all = refusal_rooms c.args.number c.requires in
    room-first (room_then all c.put_text-at.ensures)

pub put_text-requires : goal.put_text-requires
put_text-requires c =
    let all = refusal_rooms c.args.number c.requires in
    let after_first = room_then all c.put_text-at.ensures in
    room-first (room_then after_first c.put_number-at.ensures)

pub returns : goal.returns
unfolding refusal_line
returns c =
    let last = wrote_then c.put_text.ensures wrote_none in
    let from_Second = wrote_then c.put_number-at.ensures last in
    (wrote_then c.put_text-at.ensures from_Second).all
