-- `tree::leaves_for` asks std for the least power of two that is enough, whose half is not.
use Rattle.std.proofs.Common.{arith}
use Rattle.path_by_count_tree.specs.TreeLaws.{power_of}
use Rattle.path_by_count_tree.proofs.tree.leaves_for.Goals as goal

pub returns : goal.returns
returns c =
    let power = c.next_power_of_two.ensures.power in
    record {
      power = power_of power.0 power.1;
      enough = c.next_power_of_two.ensures.lower_bound;
      least = omega (arith, c.next_power_of_two.ensures.upper_bound);
    }
