-- `flags::flags_of`: of the tail what its first callee gives, and else the sum of both.
use Rattle.std.proofs.Common.{rules}
use Rattle.std.proofs.Common.{arith}
use mathlib.Core.Path.{◌∙◌}
use Rattle.plan_pieces.specs.Flags.{flags_of}
use Rattle.plan_pieces.specs.FlagsLaws.{tail_flags, flags_small}
use Rattle.plan_pieces.proofs.flags.flags_of.Goals as goal

pub returns-then-tail : goal.returns-then-tail
returns-then-tail c = rw c.if-tail.true (c.long_flag-long.ensures ∙ tail_flags _ _ _)

pub overflow_add-result : goal.overflow_add-result
overflow_add-result c =
    let small = flags_small _ _ _ _ _ _ c.short_flag.ensures c.long_flag-long.ensures in
    omega (arith, small)

pub returns : goal.returns
unfolding flags_of
returns c = rw c.if-tail.false (search rules)
