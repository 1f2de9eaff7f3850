-- `refusal::first_refusal`: the lists that pass test 15 are equally long, as test 16 asks.
use Rattle.std.proofs.Common.{sym, ◌∙◌}
use Rattle.path_tests.specs.EndsLaws.{lists_parts}
use Rattle.path_tests.proofs.refusal.first_refusal.Goals as goal

pub ends_ok-requires : goal.ends_ok-requires
ends_ok-requires c = (lists_parts _ _ _ (sym c.lists_ok.ensures ∙ c.if-not-lists_ok.false)).paired
