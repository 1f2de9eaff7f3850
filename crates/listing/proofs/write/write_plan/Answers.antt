-- `write::write_plan`: the room that is asked for holds the whole listing, whose three parts are written one behind another.
use Rattle.std.proofs.Common.{◌≤◌, arith, [], ◌∷◌, length}
use Rattle.listing.specs.Rows.{rows_of}
use Rattle.listing.specs.Listing.{plan_line, piece_line, cut_line, lines_of, listing_of, room_for}
use Rattle.listing.specs.LineLaws.{listing_rooms, listing_wrote}
use Rattle.listing.proofs.FitsLaws.{listing_fits}
use Rattle.listing.specs.Written.{Room}
use Rattle.listing.specs.WrittenLaws.{Rooms, room-first, room_then, wrote_none, wrote_then, written-front, written_counts}
use Rattle.listing.proofs.write.write_plan.Goals as goal
use Rattle.listing.proofs.write.write_plan.Goals.{After-saturating_sub-m}

whole : (c : After-saturating_sub-m) → Room (length (listing_of c.args.n c.args.pieces.now c.args.cuts.now)) c.args.out.now 0
whole c =
    let fits : length (listing_of c.args.n c.args.pieces.now c.args.cuts.now) ≤ room_for c.args.n =
    listing_fits c.args.n c.args.pieces.now c.args.cuts.now (omega arith) (record { at = λ i. omega (arith, c.type_inv.pieces i) }) (record { at = λ i. omega (arith, c.type_inv.cuts i) }) in
    record { enough = omega (arith, c.requires.out_in_bounds) }

parts : (c : After-saturating_sub-m)
    → Rooms (plan_line c.args.n c.saturating_sub-m.result ∷ lines_of piece_line (rows_of c.args.n c.args.pieces.now)
    ∷ lines_of cut_line (rows_of c.saturating_sub-m.result c.args.cuts.now) ∷ []) c.args.out.now 0
parts c = listing_rooms c.args.n c.saturating_sub-m.result c.args.pieces.now c.args.cuts.now c.saturating_sub-m.ensures (whole c)

pub put_plan-at-requires : goal.put_plan-at-requires
put_plan-at-requires c = room-first (parts (goal.at.put_plan-at-requires c).After-saturating_sub-m)

pub put_rows-at-requires : goal.put_rows-at-requires
put_rows-at-requires c =
    let rooms = parts (goal.at.put_rows-at-requires c).After-saturating_sub-m in
    record { n_in_bounds = c.requires.pieces_in_bounds; room = room-first (room_then rooms c.put_plan-at.ensures) }

pub put_rows-requires : goal.put_rows-requires
put_rows-requires c =
    let rooms = parts (goal.at.put_rows-requires c).After-saturating_sub-m in
    record {
      n_in_bounds = rw c.saturating_sub-m.ensures c.requires.cuts_in_bounds;
      room = room-first (room_then (room_then rooms c.put_plan-at.ensures) c.put_rows-at.ensures);
    }

pub returns : goal.returns
returns c =
    let w = listing_wrote c.args.n c.saturating_sub-m.result c.args.pieces.now c.args.cuts.now c.saturating_sub-m.ensures
    (wrote_then c.put_plan-at.ensures (wrote_then c.put_rows-at.ensures (wrote_then c.put_rows.ensures wrote_none))) in
    let room = whole (goal.at.returns c).After-saturating_sub-m in
    record { value = omega (arith, w.behind); out_after = written-front room w; prefix_len = written_counts room w }
