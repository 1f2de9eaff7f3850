-- `first::first_starts` fills the list from the left. What is over the limit at one candidate is so at the next, so the search goes on from where it stopped.
use Rattle.path_by_count_rows.specs.FirstLaws.{starting, starting_next, starting_done, starting_found, first_start_high}
use Rattle.std.proofs.Common.{arith}
use mathlib.Core.Path.{refl}
use Rattle.path_by_count_rows.proofs.first.first_starts.Goals as goal

pub loop-j-init : goal.loop-j-init
loop-j-init c = (refl, starting c.requires.candidates c.args.first.now c.requires.first_len)

pub overflow_cast-first : goal.overflow_cast-first
overflow_cast-first c =
    let limit = c.args.limit in
    let found = starting_found {limit = limit} c.requires.candidates (omega arith) c.loop-j.invariant.1 in
    omega (arith, c.advance-p.ensures, found, first_start_high limit c.args.ends.now.left.now c.args.ends.now.right.now c.loop-j.j, c.requires.candidates.few)

pub loop-j-preserved : goal.loop-j-preserved
loop-j-preserved c =
    (refl, starting_next c.requires.candidates c.advance-p.result (omega arith) c.advance-p.ensures c.loop-j.invariant.1)

pub returns : goal.returns
returns c = starting_done c.requires.candidates (omega arith) c.loop-j.invariant.1
