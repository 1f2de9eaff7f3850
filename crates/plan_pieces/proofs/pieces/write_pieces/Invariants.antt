use Prim.Native.Nat.{ℕ, ◌-◌}
use lib.ListN.{length, drop}
use Rattle.plan_pieces.specs.Along.{piece_numbers_from}
use Rattle.plan_pieces.specs.AlongLaws.{Writing}
use Rattle.plan_pieces.proofs.pieces.write_pieces.Given as goal

abbrev pub invariant-loop-i : goal.invariant-loop-i
invariant-loop-i l =
    Writing (λ (n : ℕ). piece_numbers_from l.ends.left.now l.ends.right.now l.min l.max (length l.path - 1) n (drop n l.path)) (length l.path) l.initial.out l.out l.i
