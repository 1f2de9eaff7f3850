-- `Score::with_cut` adds as the definition does.
use mathlib.Core.Path.{refl}
use Rattle.path_pieces.specs.Pieces.{with_cut}
use Rattle.path_pieces.proofs.score.Score.with_cut.Goals as goal

pub returns : goal.returns
unfolding with_cut
returns c = refl
