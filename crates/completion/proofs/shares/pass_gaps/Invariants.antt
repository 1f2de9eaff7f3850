use Rattle.plan_settings.specs.declared.config.Gap.TheVariants.{Drop}
use Rattle.completion.specs.Counted.{Counting}
use Rattle.completion.proofs.shares.pass_gaps.Given as goal

abbrev pub invariant-loop-i : goal.invariant-loop-i
invariant-loop-i l = Counting Drop l.p l.silences l.at (record { silences = l.i; removed = l.removed })
