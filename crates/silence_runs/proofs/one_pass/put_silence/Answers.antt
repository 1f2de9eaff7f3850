-- `one_pass::put_silence` writes the two numbers of a silence that lasts.
use Rattle.std.proofs.Common.{arith}
use native.Mathlib.Numerals.{add-one}
use mathlib.Core.Path.{refl, sym, ◌∙◌}
use lib.ListN.{length-set}
use Rattle.silence_runs.specs.OnePassLaws.{between_not, between_is}
use Rattle.silence_runs.proofs.one_pass.put_silence.Goals as goal

pub returns-then-not-lasting : goal.returns-then-not-lasting
returns-then-not-lasting c = rw (between_not c.args.min c.args.first c.args.end (sym c.lasting.ensures ∙ c.if-not-lasting.true)) (record { value = omega arith; out_after = refl })

pub bounds-out-at-2 : goal.bounds-out-at-2
bounds-out-at-2 c = omega (arith, c.requires.at_in_bounds, length-set c.args.out.now c.args.at c.args.first)

pub returns : goal.returns
returns c = rw (between_is c.args.min c.args.first c.args.end (sym c.lasting.ensures ∙ c.if-not-lasting.false), add-one) (record { value = refl; out_after = refl })
