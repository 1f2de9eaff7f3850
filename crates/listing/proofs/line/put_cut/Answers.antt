-- `line::put_cut` writes one text of the line after another.
use Rattle.listing.specs.Listing.{cut_line}
use Rattle.listing.specs.LineLaws.{cut_rooms}
use Rattle.listing.specs.WrittenLaws.{room-first, room_then, wrote_none, wrote_then}
use Rattle.listing.proofs.line.put_cut.Goals as goal

pub put_numbers-at-requires : goal.put_numbers-at-requires
put_numbers-at-requires c =
    let all = cut_rooms c.args.end c.args.start c.args.reason c.requires in
    room-first all

pub put_text-at-requires : goal.put_text-at-requires
put_text-at-requires c =
    let all = cut_rooms c.args.end c.args.start c.args.reason c.requires in
    room-first (room_then all c.put_numbers-at.ensures)

pub put_reason-at-requires : goal.put_reason-at-requires
put_reason-at-requires c =
    let all = cut_rooms c.args.end c.args.start c.args.reason c.requires in
    let after_first = room_then all c.put_numbers-at.ensures in
    room-first (room_then after_first c.put_text-at.ensures)

pub put_text-requires : goal.put_text-requires
put_text-requires c =
    let all = cut_rooms c.args.end c.args.start c.args.reason c.requires in
    let after_first = room_then all c.put_numbers-at.ensures in
    let after-second = room_then after_first c.put_text-at.ensures in
    room-first (room_then after-second c.put_reason-at.ensures)

pub returns : goal.returns
unfolding cut_line
returns c =
    let last = wrote_then c.put_text.ensures wrote_none in
    let from_third = wrote_then c.put_reason-at.ensures last in
    let from_Second = wrote_then c.put_text-at.ensures from_third in
    (wrote_then c.put_numbers-at.ensures from_Second).all
