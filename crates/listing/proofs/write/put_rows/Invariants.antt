use Prim.Native.Nat.{◌-◌}
use Rattle.listing.specs.Lines.{Lines}
use Rattle.listing.proofs.write.put_rows.Given as goal

abbrev pub invariant-loop-i : goal.invariant-loop-i
invariant-loop-i g l = Lines g.R.Row.line l.n l.rows l.initial.out l.at l.out l.next l.i

abbrev pub decreases-loop-i : goal.decreases-loop-i
decreases-loop-i g l = l.n - l.i
