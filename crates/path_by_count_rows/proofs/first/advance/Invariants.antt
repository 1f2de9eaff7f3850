use Rattle.path_by_count_rows.specs.First.{first_passing}
use Rattle.path_pieces.specs.Pieces.{is_within}
use mathlib.Core.Path.{◌≡◌}
use Prim.Native.Nat.{◌-◌, ◌≤◌}
use Rattle.path_by_count_rows.proofs.first.advance.Given as goal

abbrev pub invariant-loop-i : goal.invariant-loop-i
invariant-loop-i l =
    (l.i ≤ l.last) × (l.last ≡ l.j - 1) × (first_passing (is_within l.limit l.ends.left.now l.ends.right.now l.j) l.i (l.last - l.i) ≡ first_passing (is_within l.limit l.ends.left.now l.ends.right.now l.j) l.p (l.last - l.p))
