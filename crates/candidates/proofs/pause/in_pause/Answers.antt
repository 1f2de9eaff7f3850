-- `pause::in_pause`: only the silence that was found can hold the boundary.
use mathlib.Core.Path.{sym}
use Rattle.candidate_span.specs.EndingLaws.{listed_rise}
use Rattle.candidates.specs.PauseLaws.{pause_none, pause_before, pause_from}
use Rattle.candidates.proofs.pause.in_pause.Goals as goal

pub first_ending-i-requires : goal.first_ending-i-requires
first_ending-i-requires c = listed_rise c.args.x.padding.frames c.args.silences.now c.requires

pub returns-then-silences-i : goal.returns-then-silences-i
returns-then-silences-i c = sym (pause_none c.args.x c.args.silences.now c.args.k c.first_ending-i.result c.first_ending-i.ensures c.if-silences-i.true)

pub returns-else-b-k : goal.returns-else-b-k
returns-else-b-k c =
    pause_before c.args.x c.args.silences.now c.args.k c.first_ending-i.result c.start_at-start.result c.end_at-end.result c.silence_bounds-b.result c.requires c.first_ending-i.ensures c.if-silences-i.false c.start_at-start.ensures c.end_at-end.ensures c.silence_bounds-b.ensures c.if-b-k.false

pub returns-then-b-k : goal.returns-then-b-k
returns-then-b-k c =
    pause_from c.args.x c.args.silences.now c.args.k c.first_ending-i.result c.start_at-start.result c.end_at-end.result c.silence_bounds-b.result c.requires c.first_ending-i.ensures c.if-silences-i.false c.start_at-start.ensures c.end_at-end.ensures c.silence_bounds-b.ensures c.if-b-k.true
