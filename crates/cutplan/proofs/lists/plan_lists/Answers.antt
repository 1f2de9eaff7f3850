-- The plan lies in the program's lists, and its lines are those of the definition.
use mathlib.Core.Path.{ap, ◌∙◌}
use Rattle.cutplan.specs.Lines.{refusal_said}
use Rattle.cutplan.specs.RoomyLaws.{roomy, handed_lines, handed-number}
use Rattle.cutplan.proofs.lists.plan_lists.Goals as goal

pub write_answer-requires : goal.write_answer-requires
write_answer-requires c = record {
  roomy = roomy c.args.r c.args.segment c.args.settings c.args.values.now c.args.flags.now c.args.levels.now _ _
      c.plan_within-answer.ensures c.pieces-2-1.given c.cuts-2-1.given;
  longest_listing_in_bounds = c.requires;
}

pub returns : goal.returns
returns c = let handed = c.plan_within-answer.ensures in
    let lines = handed_lines c.args.r c.args.segment c.args.settings c.args.values.now c.args.flags.now c.args.levels.now _ _ handed in
    let number = handed-number c.args.r c.args.segment c.args.settings c.args.values.now c.args.flags.now c.args.levels.now _ _ handed in
    rw (← lines) (record { size_value = c.write_answer.ensures.size_value; refused_value = c.write_answer.ensures.refused_value ∙ ap refusal_said number; out_after = c.write_answer.ensures.out_after })
