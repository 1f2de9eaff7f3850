-- The mode, the gap and the placement from what C handed over.
use Rattle.capi.proofs.settings.plan_config.Goals as goal

pub returns : goal.returns
returns c = rw (← c.mode_of.ensures, ← c.gap_of.ensures, ← c.placement_of.ensures)
