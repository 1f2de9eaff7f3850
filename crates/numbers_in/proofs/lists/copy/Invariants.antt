use Rattle.std.proofs.Common.{◌≡◌, ◌+◌, ◌-◌, ◌*◌, length}
use Rattle.base_terms.specs.Lists.{onto, tabulate}
use Rattle.numbers_in.proofs.lists.copy.Given as goal

abbrev pub invariant-loop-i : goal.invariant-loop-i
invariant-loop-i g l =
    (l.i-end ≡ length l.initial.x-items) × (length l.x-items ≡ length l.initial.x-items) × (l.x-items ≡ onto (tabulate (λ i. g.T.Number.read l.s (l.at + g.T.Number.SIZE * i)) l.i) l.initial.x-items)

abbrev pub decreases-loop-i : goal.decreases-loop-i
decreases-loop-i g l = l.i-end - l.i
