-- The operation over what C handed over; its answer gives the number, the length and the score.
use Rattle.capi.specs.Paths.{path_called_of}
use Rattle.capi.proofs.best_path.buchawzer_path.Goals as goal

pub returns-in-Ok : goal.returns-in-Ok
unfolding path_called_of
returns-in-Ok c = rw (← c.length_weights.ensures, ← c.mode_of.ensures, ← c.in-Ok.ensures)

pub returns-in-Err : goal.returns-in-Err
unfolding path_called_of
returns-in-Err c = rw (← c.length_weights.ensures, ← c.mode_of.ensures, ← c.in-Err.ensures, c.from.ensures)
