-- `one_pass::next_change`: the place of another flag behind `from`, or the end.
use Rattle.std.proofs.Common.{rules, arith, ◌<◌, ◌^◌, cond, length, sym, ◌∙◌}
use Rattle.silence_runs.specs.OnePassWalk.{found_other, found_none, stay-to}
use Rattle.silence_runs.proofs.one_pass.next_change.Goals as goal

pub overflow_add-result : goal.overflow_add-result
overflow_add-result c =
    let sound = cond c.args.sound 1 0 in
    let found = found_other c.args.threshold sound c.args.readings.now.values.now c.args.readings.now.flags.now c.args.from c.in-Some.passed (sym c.first_other.ensures ∙ c.in-Some.is) in
    let most = stay-to c.args.threshold sound c.args.readings.now.values.now c.args.readings.now.flags.now c.args.from c.requires.from_in_bounds in
    let few : length c.args.readings.now.values.now < 2 ^ 64 = search rules in
    omega (arith, found, most)

pub returns-in-Some : goal.returns-in-Some
returns-in-Some c =
    found_other c.args.threshold (cond c.args.sound 1 0) c.args.readings.now.values.now c.args.readings.now.flags.now c.args.from c.in-Some.passed (sym c.first_other.ensures ∙ c.in-Some.is)

pub returns-in-None : goal.returns-in-None
returns-in-None c =
    found_none c.args.threshold (cond c.args.sound 1 0) c.args.readings.now.values.now c.args.readings.now.flags.now c.args.from c.requires.flags_len c.requires.from_in_bounds
    (sym c.first_other.ensures ∙ c.in-None.is)
