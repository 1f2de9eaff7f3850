-- `keys::collect` keeps one frame after another; a finite value is no NaN, so it has a pattern.
use lib.Ieee.{nan}
use lib.ListN.{length, length-append}
use mathlib.Core.List.{[], ◌∷◌}
use Rattle.base_code.specs.Elements.{all-at}
use Rattle.grid.specs.Values.{is_finite}
use Rattle.grid.specs.ValuesLaws.{value_number}
use Rattle.silence_levels.specs.KeysLaws.{collecting_next, collecting_skip, collecting_done}
use Rattle.silence_levels.specs.Keys.{with_signal}
use Rattle.std.proofs.Common.{rules, arith, sym, ◌∙◌}
use Rattle.std.proofs.lemmas.Slice.Zip.{zip_turn, zip_end}
use Rattle.silence_levels.proofs.keys.collect.Goals as goal

pub loop-value-init : goal.loop-value-init
unfolding with_signal
loop-value-init c = search rules

pub key_of-requires : goal.key_of-requires
key_of-requires c =
    let turn = zip_turn c.args.readings.now.values.now c.args.readings.now.flags.now c.loop-value.yielded c.into_iter-value-iterator.result c.loop-value.value-iterator c.next.new.self c.next.result (search rules) (search rules) c.loop-value.yielded_by _ c.in-Some.is c.next.ensures.steps in
    rw (turn.2 nan) (value_number _ (all-at is_finite c.args.readings.now.values.now (length c.loop-value.yielded) nan turn.0 c.requires.values_finite))

pub loop-value-preserved-then-flag-eq0 : goal.loop-value-preserved-then-flag-eq0
loop-value-preserved-then-flag-eq0 c =
    let turn = zip_turn c.args.readings.now.values.now c.args.readings.now.flags.now c.loop-value.yielded c.into_iter-value-iterator.result c.loop-value.value-iterator c.next.new.self c.next.result (search rules) (search rules) c.loop-value.yielded_by _ c.in-Some.is c.next.ensures.steps in
    rw (length-append c.loop-value.yielded ((c.in-Some.value, c.in-Some.flag) ∷ []), c.key_of.ensures, turn.2 nan)
    (collecting_next c.args.readings.now.values.now c.args.readings.now.flags.now c.args.keys.now _ c.loop-value.keys c.loop-value.n (length c.loop-value.yielded) nan
    c.requires.values_in_bounds turn.0 (sym (turn.3 0) ∙ c.if-flag-eq0.true) c.loop-value.invariant)

pub loop-value-preserved : goal.loop-value-preserved
loop-value-preserved c =
    let turn = zip_turn c.args.readings.now.values.now c.args.readings.now.flags.now c.loop-value.yielded c.into_iter-value-iterator.result c.loop-value.value-iterator c.next.new.self c.next.result (search rules) (search rules) c.loop-value.yielded_by _ c.in-Some.is c.next.ensures.steps in
    rw (length-append c.loop-value.yielded ((c.in-Some.value, c.in-Some.flag) ∷ []))
    (collecting_skip c.args.readings.now.values.now c.args.readings.now.flags.now c.args.keys.now _ c.loop-value.keys c.loop-value.n (length c.loop-value.yielded)
    turn.0 (λ e. c.if-flag-eq0.false (turn.3 0 ∙ e)) c.loop-value.invariant)

pub returns : goal.returns
returns c =
    let all = zip_end c.args.readings.now.values.now c.args.readings.now.flags.now c.loop-value.yielded c.into_iter-value-iterator.result c.loop-value.value-iterator c.next.new.self c.next.result (search rules) (search rules) c.loop-value.yielded_by c.in-None.is c.next.ensures.steps in
    collecting_done _ _ _ _ _ _ _ (omega (arith, all, c.requires.flags_len)) c.loop-value.invariant
