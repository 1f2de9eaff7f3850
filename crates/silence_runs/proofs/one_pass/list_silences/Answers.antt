-- `one_pass::list_silences`: at each turn some frames of silence and a run of sound are passed; what is written and what the frames ahead add make up the list.
use Rattle.std.proofs.Common.{arith}
use mathlib.Core.Path.{sym, ◌∙◌}
use Rattle.silence_runs.specs.OnePassWalk.{pass_start, sought-within, turn_of, turn_sound, turn_start, pass_less, pass_short, pass_room, pass_between, pass_long, pass_last-room, pass_done}
use Rattle.silence_runs.proofs.one_pass.list_silences.Goals as goal
use Rattle.silence_runs.proofs.one_pass.list_silences.Goals.{else-lasting, then-lasting}

pub loop-from-init : goal.loop-from-init
loop-from-init c = pass_start _ _ _ _ _ _ _ c.requires.0 c.requires.1

pub next_change-start-requires : goal.next_change-start-requires
next_change-start-requires c = record { flags_len = c.loop-from.invariant.flagged; from_in_bounds = c.loop-from.invariant.within }

pub next_change-end-requires : goal.next_change-end-requires
next_change-end-requires c = record { flags_len = c.loop-from.invariant.flagged; from_in_bounds = sought-within _ _ _ _ _ _ _ _ _ _ _ c.loop-from.invariant _ _ c.next_change-start.ensures c.next_frame.ensures }

pub overflow_sub-end : goal.overflow_sub-end
overflow_sub-end c = turn_sound _ _ _ _ _ _ _ _ _ _ _ c.loop-from.invariant _ _ (turn_of _ _ _ _ _ _ _ _ _ _ _ c.loop-from.invariant _ _ _ c.next_change-start.ensures c.next_frame.ensures c.next_change-end.ensures)

pub put_silence-at-requires : goal.put_silence-at-requires
put_silence-at-requires c = record { at_in_bounds = pass_room _ _ _ _ _ _ _ _ _ _ _ c.loop-from.invariant _ _ (turn_of _ _ _ _ _ _ _ _ _ _ _ c.loop-from.invariant _ _ _ c.next_change-start.ensures c.next_frame.ensures c.next_change-end.ensures); first_le_end = (pass_between _ _ _ _ _ _ _ _ _ _ _ c.loop-from.invariant _ _ (turn_of _ _ _ _ _ _ _ _ _ _ _ c.loop-from.invariant _ _ _ c.next_change-start.ensures c.next_frame.ensures c.next_change-end.ensures), omega (arith, turn_start _ _ _ _ _ _ _ _ _ _ _ c.loop-from.invariant _ _ (turn_of _ _ _ _ _ _ _ _ _ _ _ c.loop-from.invariant _ _ _ c.next_change-start.ensures c.next_frame.ensures c.next_change-end.ensures), c.requires.2)) }

pub loop-from-smaller : goal.loop-from-smaller
loop-from-smaller c = pass_less _ _ _ _ _ _ _ _ _ _ _ c.loop-from.invariant _ _ (turn_of _ _ _ _ _ _ _ _ _ _ _ c.loop-from.invariant _ _ _ c.next_change-start.ensures c.next_frame.ensures c.next_change-end.ensures) _ c.loop-from-test.true c.next_frame-from.ensures

pub loop-from-preserved : goal.loop-from-preserved
loop-from-preserved c =
    let turn = turn_of _ _ _ _ _ _ _ _ _ _ _ c.loop-from.invariant _ _ _ c.next_change-start.ensures c.next_frame.ensures c.next_change-end.ensures in
    elim c.if-lasting.branch [ then-lasting w ↦ rw (c.next_frame-from.ensures, w.out-is, w.last-is, w.at-is) (pass_long _ _ _ _ _ _ _ _ _ _ _ c.loop-from.invariant _ _ turn _ _ (sym c.lasting.ensures ∙ w.if-lasting.true) w.put_silence-at.ensures.out_after w.put_silence-at.ensures.value) | else-lasting w ↦ rw (c.next_frame-from.ensures, w.out-is, w.last-is, w.at-is) (pass_short _ _ _ _ _ _ _ _ _ _ _ c.loop-from.invariant _ _ turn (sym c.lasting.ensures ∙ w.if-lasting.false)) ]

pub put_last-requires : goal.put_last-requires
put_last-requires c = record { at_in_bounds = pass_last-room _ _ _ _ _ _ _ _ _ _ _ c.loop-from.invariant; last_le_frames = (omega (arith, c.loop-from.invariant.order, c.loop-from.invariant.within), c.requires.2) }

pub returns : goal.returns
returns c = let both = pass_done _ _ _ _ _ _ _ _ _ _ _ c.loop-from.invariant _ _ c.loop-from-test.false c.put_last.ensures.out_after c.put_last.ensures.value in record { value = both.0; out_after = both.1 }
