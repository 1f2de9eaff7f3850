-- A plan lies in its lists and has a listing of its own, every other answer the line of its number.
use Rattle.std.specs.Prelude.{Some}
use Rattle.std.proofs.Common.{arith, ◌∙◌}
use mathlib.Core.Path.{ap}
use Rattle.plan_pieces.specs.Output.{output_of}
use Rattle.cutplan.specs.LinesLaws.{planned_said, error_said}
use Rattle.cutplan.specs.RoomyLaws.{planned_roomy, planned_lines, error_lines}
use Rattle.cutplan.proofs.answer.write_answer.Goals as goal

pub write_plan-size-requires : goal.write_plan-size-requires
write_plan-size-requires c = let h = planned_roomy c.args.answer c.in-Ok.n _ _ c.in-Ok.is c.requires.roomy in
    record { pieces_in_bounds = h.0; cuts_in_bounds = h.1; out_in_bounds = omega (arith, h.2, c.requires.longest_listing_in_bounds) }

pub returns-in-Ok : goal.returns-in-Ok
returns-in-Ok c = let e = planned_lines c.args.answer _ (output_of c.args.pieces.now c.args.cuts.now) c.in-Ok.is in
    let said = planned_said c.args.answer _ c.in-Ok.is in
    rw (← e) (record { size_value = c.write_plan-size.ensures.value; refused_value = said; out_after = c.write_plan-size.ensures.out_after })

pub returns-in-Err : goal.returns-in-Err
returns-in-Err c = let e = error_lines c.args.answer c.in-Err.error (output_of c.args.pieces.now c.args.cuts.now) c.in-Err.is in
    let written = c.write_number.ensures in
    let said = error_said c.args.answer c.in-Err.error c.in-Err.is in
    rw (← e.0, ← c.from.ensures) (record { size_value = written.size_value; refused_value = written.refused_value ∙ ap Some c.from.ensures ∙ said; out_after = written.out_after })
