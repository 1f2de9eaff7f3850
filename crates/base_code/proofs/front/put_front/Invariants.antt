use Rattle.base_code.specs.Copying.{Copying}
use Rattle.base_code.proofs.front.put_front.Given as goal

abbrev pub invariant-loop-i : goal.invariant-loop-i
invariant-loop-i g l = Copying l.list l.initial.out l.i-end l.out l.i
