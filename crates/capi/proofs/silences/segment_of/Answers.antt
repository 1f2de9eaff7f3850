-- The threshold from what C handed over.
use Rattle.capi.proofs.silences.segment_of.Goals as goal

pub returns : goal.returns
returns c = rw (← c.threshold_of.ensures)
