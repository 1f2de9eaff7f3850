-- `line::put_numbers` writes one text of the line after another.
use Rattle.listing.specs.Listing.{numbers_line}
use Rattle.listing.specs.LineLaws.{numbers_rooms}
use Rattle.listing.specs.WrittenLaws.{room-first, room_then, wrote_none, wrote_then}
use Rattle.listing.proofs.line.put_numbers.Goals as goal

pub put_text-at-requires : goal.put_text-at-requires
put_text-at-requires c =
    let all = numbers_rooms c.args.word.now c.args.a c.args.b c.requires in
    room-first all

pub put_number-at-requires : goal.put_number-at-requires
put_number-at-requires c =
    let all = numbers_rooms c.args.word.now c.args.a c.args.b c.requires in
    room-first (room_then all c.put_text-at.ensures)

pub put_text-at-requires-2 : goal.put_text-at-requires-2
put_text-at-requires-2 c =
    let all = numbers_rooms c.args.word.now c.args.a c.args.b c.requires in
    let after_first = room_then all c.put_text-at.ensures in
    room-first (room_then after_first c.put_number-at.ensures)

pub put_number-requires : goal.put_number-requires
put_number-requires c =
    let all = numbers_rooms c.args.word.now c.args.a c.args.b c.requires in
    let after_first = room_then all c.put_text-at.ensures in
    let after-second = room_then after_first c.put_number-at.ensures in
    room-first (room_then after-second c.put_text-at-2.ensures)

pub returns : goal.returns
unfolding numbers_line
returns c =
    let last = wrote_then c.put_number.ensures wrote_none in
    let from_third = wrote_then c.put_text-at-2.ensures last in
    let from_Second = wrote_then c.put_number-at.ensures from_third in
    (wrote_then c.put_text-at.ensures from_Second).all
