use Prim.Native.Nat.{ℕ}
use lib.ListN.{length, drop}
use Rattle.plan_pieces.specs.Along.{reasons_in, cuts_along_numbers}
use Rattle.plan_pieces.specs.AlongLaws.{Writing}
use Rattle.plan_pieces.proofs.pieces.write_cuts.Given as goal

abbrev pub invariant-loop-i : goal.invariant-loop-i
invariant-loop-i l = Writing (λ (n : ℕ). cuts_along_numbers l.ends.left.now l.ends.right.now (reasons_in l.entries) (drop n l.path)) (length l.path) l.initial.out l.out l.i
