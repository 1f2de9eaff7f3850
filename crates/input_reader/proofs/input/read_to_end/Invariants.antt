use Rattle.std.proofs.Common.{◌-◌, length}
use Rattle.input_reader.specs.InputLaws.{SoFar}
use Rattle.input_reader.proofs.input.read_to_end.Given as goal

abbrev pub invariant-loop-done : goal.invariant-loop-done
invariant-loop-done g l = SoFar l.initial.buf l.buf l.done

abbrev pub decreases-loop-done : goal.decreases-loop-done
decreases-loop-done g l = length l.buf - l.done
