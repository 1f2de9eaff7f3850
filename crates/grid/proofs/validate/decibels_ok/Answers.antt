-- The three tests of decibels, in order.
use Rattle.std.proofs.Common.{rules, ◌∙◌}
use Rattle.grid.specs.Validate.{values_ok}
use Rattle.grid.specs.Values.{is_finite}
use Rattle.grid.specs.ValuesLaws.{finite_is}
use Rattle.grid.proofs.validate.decibels_ok.Goals as goal
use Rattle.grid.proofs.validate.decibels_ok.Goals.{then-every, else-every}

pub returns-then-are_flags : goal.returns-then-are_flags
unfolding values_ok
returns-then-are_flags c =
    let values = c.every.ensures is_finite (λ x r k. k.0 ∙ finite_is x) in
    let levels = c.every-then-are_flags.ensures is_finite (λ x r k. k.0 ∙ finite_is x) in
    elim c.if-every.branch [ then-every w ↦ search rules | else-every w ↦ search rules ]

pub returns-else-are_flags : goal.returns-else-are_flags
unfolding values_ok
returns-else-are_flags c =
    let values = c.every.ensures is_finite (λ x r k. k.0 ∙ finite_is x) in
    elim c.if-every.branch [ then-every w ↦ search rules | else-every w ↦ search rules ]
