-- The operation over what C handed over; its answer gives the number and how many pieces there are.
use Rattle.capi.specs.Plans.{plan_called_of}
use Rattle.capi.proofs.plan.buchawzer_plan.Goals as goal

pub returns-in-Ok : goal.returns-in-Ok
unfolding plan_called_of
returns-in-Ok c = record {
  answer = rw (
    ← c.recording_of-r.ensures,
    ← c.segment_of-segment.ensures,
    ← c.weights_of-weights.ensures,
    ← c.plan_config-plan.ensures,
    ← c.in-Ok.ensures.answer,
  );
  fitting = c.in-Ok.ensures.fitting;
}

pub returns-in-Err : goal.returns-in-Err
unfolding plan_called_of
returns-in-Err c = record {
  answer = rw (
    ← c.recording_of-r.ensures,
    ← c.segment_of-segment.ensures,
    ← c.weights_of-weights.ensures,
    ← c.plan_config-plan.ensures,
    ← c.in-Err.ensures.answer,
    c.from.ensures,
  );
  fitting = c.in-Err.ensures.fitting;
}
