-- `costs::costs_ok`: what `all` answers is the test of every cost.
use borrow.Author.Tests.{tests}
use Rattle.std.proofs.Common.{rules, ◌≡◌, true, false}
use Rattle.std.proofs.lemmas.Iterator.{cases_from_all, YieldsList-from_slice}
use Rattle.path_tests.specs.Costs.{is_cost}
use Rattle.path_tests.proofs.Told.{told_all}
use Rattle.path_tests.proofs.costs.costs_ok.Goals as goal

pub returns : goal.returns
returns c =
    told_all is_cost _ _
    (cases_from_all _ _ _ (λ x. is_cost x ≡ true) (λ x. is_cost x ≡ false) c.all.ensures.ran (YieldsList-from_slice c.args.cost.now cc)
    (λ x q k. search (rules, tests)) (λ x q k. search (rules, tests)))
