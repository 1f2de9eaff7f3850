-- `output::has_room`: a third of each length is compared, so that nothing overflows.
use Rattle.std.proofs.Common.{◌/◌, arith}
use Rattle.std.proofs.lemmas.Bool.{lt-leb}
use Rattle.plan_pieces.specs.OutputLaws.{room-short, room-cuts}
use Rattle.plan_pieces.proofs.output.has_room.Goals as goal

pub returns-then-pieces-pieces_len : goal.returns-then-pieces-pieces_len
returns-then-pieces-pieces_len c = room-cuts c.args.pieces c.args.pieces_len c.args.cuts_len (omega (arith, c.if-pieces-pieces_len.true))

pub returns-else-pieces-pieces_len : goal.returns-else-pieces-pieces_len
returns-else-pieces-pieces_len c =
    rw (lt-leb c.args.pieces (c.args.pieces_len / 3) c.if-pieces-pieces_len.false)
    (room-short c.args.pieces c.args.pieces_len c.args.cuts_len c.if-pieces-pieces_len.false)
