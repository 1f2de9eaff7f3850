-- `Score::with_cut_at` adds the cut at every candidate but the last.
use Rattle.std.proofs.Common.{arith}
use mathlib.Core.Path.{sym, ◌∙◌}
use Rattle.path_pieces.specs.PiecesLaws.{cut_at-inner, cut_at-last}
use Rattle.path_pieces.proofs.score.Score.with_cut_at.Goals as goal

pub returns-then-j-cut : goal.returns-then-j-cut
returns-then-j-cut c = c.with_cut.ensures ∙ sym (cut_at-inner c.args.cut.now c.args.j c.args.self (omega arith))

pub returns-else-j-cut : goal.returns-else-j-cut
returns-else-j-cut c = sym (cut_at-last c.args.cut.now c.args.j c.args.self (omega arith))
