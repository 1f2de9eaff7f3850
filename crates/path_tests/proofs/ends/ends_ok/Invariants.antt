use Rattle.std.specs.Iterator.Adapters.{zip_first, zip_second}
use Rattle.std.specs.Slice.Iter.{iter_rest}
use Rattle.path_tests.specs.EndsLaws.{EndsPassed}
use Rattle.path_tests.proofs.ends.ends_ok.Given as goal

-- the candidates that the loop still has before it
abbrev pub invariant-loop-start : goal.invariant-loop-start
invariant-loop-start l = EndsPassed l.ends.left.now l.ends.right.now l.limit l.last (iter_rest (zip_first l.start-iterator)) (iter_rest (zip_second l.start-iterator))
