-- `output::hand_out`: where test 12 passes both outputs have room, and else neither is touched.
use Rattle.std.proofs.Common.{arith}
use mathlib.Core.Path.{sym, ◌∙◌}
use Prim.Native.Nat.{◌-◌}
use lib.ListN.{length}
use Rattle.plan_pieces.specs.Output.{output_of}
use Rattle.plan_pieces.specs.OutputLaws.{room_parts, out-short, out-planned}
use Rattle.plan_pieces.proofs.output.hand_out.Goals as goal

pub returns-then-not-has_room : goal.returns-then-not-has_room
returns-then-not-has_room c =
    out-short _ _ _ (output_of c.args.pieces.now c.args.cuts.now) (sym c.has_room.ensures ∙ c.if-not-has_room.true)

pub write_pieces-requires : goal.write_pieces-requires
write_pieces-requires c = let r = room_parts (length c.args.path.now - 1) (length c.args.pieces.now) (length c.args.cuts.now) (sym c.has_room.ensures ∙ c.if-not-has_room.false) in
    record { drawn = c.requires.drawn; path_in_bounds = r.0 }

pub write_cuts-requires : goal.write_cuts-requires
write_cuts-requires c = let r = room_parts (length c.args.path.now - 1) (length c.args.pieces.now) (length c.args.cuts.now) (sym c.has_room.ensures ∙ c.if-not-has_room.false) in
    record { drawn = c.requires.drawn; left_in_bounds = c.requires.left_in_bounds; path_in_bounds = omega (arith, r.1) }

pub returns : goal.returns
returns c =
    out-planned _ _ _ (output_of c.args.pieces.now c.args.cuts.now) _ _ (sym c.has_room.ensures ∙ c.if-not-has_room.false)
    c.write_pieces.ensures c.write_cuts.ensures
