-- The operation over what C handed over; its answer gives the number and the count.
use Rattle.base_laws.specs.Tests.{holds}
use Rattle.capi.specs.Candidates.{list_called_of}
use Rattle.capi.proofs.cut_candidates.buchawzer_candidates.Goals as goal

pub returns-in-Ok : goal.returns-in-Ok
unfolding list_called_of
returns-in-Ok c = record {
  answer = rw (
    ← c.recording_of-r.ensures,
    ← c.segment_of-segment.ensures,
    ← c.weights_of-weights.ensures,
    ← c.plan_config-plan.ensures,
    ← c.in-Ok.ensures.answer,
  );
  fitting = c.in-Ok.ensures.fitting;
  cut_fits = holds c.well_formed.1.1.1.1.1.1.1.1.1.1.1.1.1.1.1.1.1.1.1.1.1.1.1.0.1;
}

pub returns-in-Err : goal.returns-in-Err
unfolding list_called_of
returns-in-Err c = record {
  answer = rw (
    ← c.recording_of-r.ensures,
    ← c.segment_of-segment.ensures,
    ← c.weights_of-weights.ensures,
    ← c.plan_config-plan.ensures,
    ← c.in-Err.ensures.answer,
    c.from.ensures,
  );
  fitting = c.in-Err.ensures.fitting;
  cut_fits = holds c.well_formed.1.1.1.1.1.1.1.1.1.1.1.1.1.1.1.1.1.1.1.1.1.1.1.0.1;
}
