-- `by_count::is_enough`: both tests, in this order.
use Rattle.std.proofs.Common.{suc, ◌+◌, arith, eq-eqb, ne_eqb}
use Rattle.plan_modes.proofs.by_count.is_enough.Goals as goal

pub returns-then-solved-count : goal.returns-then-solved-count
returns-then-solved-count c =
    rw (eq-eqb c.args.solved.len (suc c.args.count) (omega (arith, c.if-solved-count.true)))

pub returns-else-solved-count : goal.returns-else-solved-count
returns-else-solved-count c =
    rw (ne_eqb c.args.solved.len (suc c.args.count) (λ e. c.if-solved-count.false (omega (arith, e))))
    (ne_eqb c.args.solved.len (c.args.count + 1) c.if-solved-count.false)
