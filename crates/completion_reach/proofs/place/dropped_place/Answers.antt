-- `place::dropped_place`: only the silence that was found can hold the boundary in its gap.
use mathlib.Core.Path.{sym, ap}
use Rattle.candidate_span.specs.EndingLaws.{listed_rise}
use Rattle.completion_reach.specs.Place.{held_cut}
use Rattle.completion_reach.specs.PlaceLaws.{place_none, dropped-held, dropped_unheld}
use Rattle.completion_reach.proofs.place.dropped_place.Goals as goal

pub first_ending-i-requires : goal.first_ending-i-requires
first_ending-i-requires c = listed_rise c.args.p.frames c.args.silences.now c.requires

pub returns-then-silences-i : goal.returns-then-silences-i
returns-then-silences-i c =
    ap held_cut (sym (place_none c.args.p c.args.silences.now c.args.k c.first_ending-i.result c.requires c.first_ending-i.ensures c.if-silences-i.true))

pub returns-then-is_held : goal.returns-then-is_held
returns-then-is_held c =
    dropped-held c.args.p c.args.silences.now c.args.k c.first_ending-i.result c.requires c.first_ending-i.ensures
    c.start_at-start.result c.end_at-end.result c.start_at-start.ensures c.end_at-end.ensures c.is_held.result c.is_held.ensures
    c.if-silences-i.false c.if-is_held.true c.silence_bounds-b.result c.silence_bounds-b.ensures

pub returns : goal.returns
returns c =
    dropped_unheld c.args.p c.args.silences.now c.args.k c.first_ending-i.result c.requires c.first_ending-i.ensures
    c.start_at-start.result c.end_at-end.result c.start_at-start.ensures c.end_at-end.ensures c.is_held.result c.is_held.ensures c.if-is_held.false
