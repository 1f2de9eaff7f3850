-- `span::plan_span`: by length or by count, as the settings ask.
use Rattle.plan_modes.specs.Plan.{plan_by}
use Rattle.plan_modes.proofs.span.plan_span.Goals as goal

pub plan_by_length-requires : goal.plan_by_length-requires
plan_by_length-requires c = record { span_held = c.requires.span_held; span_room = c.requires.span_room; asked_by_length = c.requires.asked_for.by_length }

pub plan_by_count-requires : goal.plan_by_count-requires
plan_by_count-requires c = record { span_held = c.requires.span_held; span_room = c.requires.span_room; asked_by_count = c.requires.asked_for.by_count c.in-ByCount.count c.in-ByCount.is }

pub returns-in-ByLength : goal.returns-in-ByLength
unfolding plan_by
returns-in-ByLength c = rw c.in-ByLength.is c.plan_by_length.ensures

pub returns-in-ByCount : goal.returns-in-ByCount
unfolding plan_by
returns-in-ByCount c = rw c.in-ByCount.is c.plan_by_count.ensures
