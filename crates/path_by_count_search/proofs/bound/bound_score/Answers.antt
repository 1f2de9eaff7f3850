-- `bound::bound_score` adds what its two callees give; the number of pieces is far below 2 ^ 32.
use Rattle.path_pieces.specs.PiecesLaws.{over-one}
use Rattle.path_by_count_search.specs.Bound.{with_bound}
use Rattle.std.proofs.Common.{arith}
use Rattle.path_by_count_search.proofs.bound.bound_score.Goals as goal

pub overflow_add-result : goal.overflow_add-result
overflow_add-result c = omega (arith, c.over.ensures, over-one c.args.lengths.limit c.args.shortest)

pub returns : goal.returns
unfolding with_bound
returns c = rw (c.over.ensures, c.length_bound.ensures)
