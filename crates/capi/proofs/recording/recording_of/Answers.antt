-- The domain from what C handed over.
use Rattle.capi.proofs.recording.recording_of.Goals as goal

pub returns : goal.returns
returns c = rw (← c.domain_of.ensures)
