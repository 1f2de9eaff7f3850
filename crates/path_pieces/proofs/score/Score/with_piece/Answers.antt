-- `Score::with_piece` adds what its two callees give; the number of pieces is far below 2 ^ 32.
use Rattle.std.proofs.Common.{arith}
use Rattle.path_pieces.specs.Pieces.{with_piece}
use Rattle.path_pieces.specs.PiecesLaws.{over-one}
use Rattle.path_pieces.proofs.score.Score.with_piece.Goals as goal

pub overflow_add-result : goal.overflow_add-result
overflow_add-result c = omega (arith, over-one c.args.lengths.limit c.args.len)

pub returns : goal.returns
unfolding with_piece
returns c = rw (c.over.ensures, c.cost.ensures)
