-- The chain of the tests over the recording as it was handed over, and its number.
use Rattle.grid.specs.Validate.{refusal_of}
use Rattle.capi.proofs.recording.buchawzer_validate.Goals as goal

pub returns-in-Ok : goal.returns-in-Ok
returns-in-Ok c = rw (← c.recording_of-r.ensures, ← c.in-Ok.ensures)

pub returns-in-Err : goal.returns-in-Err
returns-in-Err c = rw (← c.recording_of-r.ensures, ← c.in-Err.ensures, c.from.ensures)
