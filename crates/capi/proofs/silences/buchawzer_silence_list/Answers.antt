-- The operation over what C handed over; its answer gives the number and the count.
use Rattle.capi.specs.Silences.{silences_called_of}
use Rattle.capi.proofs.silences.buchawzer_silence_list.Goals as goal

pub returns-in-Ok : goal.returns-in-Ok
unfolding silences_called_of
returns-in-Ok c = rw (← c.recording_of-r.ensures, ← c.segment_of-c.ensures, ← c.in-Ok.ensures)

pub returns-in-Err : goal.returns-in-Err
unfolding silences_called_of
returns-in-Err c = rw (← c.recording_of-r.ensures, ← c.segment_of-c.ensures, ← c.in-Err.ensures, c.from.ensures)
