-- `ends::ends_ok` tests one candidate after another, each with the right end before it, and stops at the first that fails.
use Rattle.std.proofs.Common.{rules, sym, ◌∙◌}
use Rattle.std.proofs.lemmas.Iterator.{empty_from_Zip}
use Rattle.std.specs.Iterator.Adapters.{zip_first, zip_second}
use Rattle.std.specs.Slice.Iter.{iter_rest}
use Rattle.path_tests.specs.EndsLaws.{ending_start, ending_limit, ending_next, ending_fails, ending_done}
use Rattle.path_tests.proofs.ends.ends_ok.Goals as goal

pub returns-then-limit-gt-MAX_END : goal.returns-then-limit-gt-MAX_END
returns-then-limit-gt-MAX_END c = ending_limit _ _ _ c.if-limit-gt-MAX_END.true

pub loop-start-init : goal.loop-start-init
loop-start-init c = ending_start c.args.ends.now.left.now c.args.ends.now.right.now c.args.limit _ _ (search rules) (search rules) c.if-limit-gt-MAX_END.false c.requires

pub returns-then-not-end_ok : goal.returns-then-not-end_ok
returns-then-not-end_ok c =
    ending_fails _ _ _ _ c.in-Some.field-0-0.now c.in-Some.field-0-1.now _ _
    (iter_rest (zip_first c.next.new.self)) (iter_rest (zip_second c.next.new.self)) (search rules) (search rules)
    (sym c.end_ok.ensures ∙ c.if-not-end_ok.true) c.loop-start.invariant

pub loop-start-preserved : goal.loop-start-preserved
loop-start-preserved c =
    ending_next _ _ _ _ c.in-Some.field-0-0.now c.in-Some.field-0-1.now _ _ _ _ (search rules) (search rules)
    (sym c.end_ok.ensures ∙ c.if-not-end_ok.false) c.loop-start.invariant

pub returns : goal.returns
returns c = ending_done _ _ _ _ _ _ (empty_from_Zip _ c.next.new.self _ c.in-None.is c.next.ensures.steps c.loop-start.invariant.0).0 c.loop-start.invariant
