-- `flags::is_tail` tests as the definition does; of several pieces the last has a number.
use Rattle.std.proofs.Common.{sym, ◌∙◌, arith, le-ltb}
use Rattle.plan_pieces.specs.FlagsLaws.{tail_alone, tail_of_several}
use Rattle.plan_pieces.proofs.flags.is_tail.Goals as goal

pub returns-then-several : goal.returns-then-several
returns-then-several c = sym (tail_of_several c.args.pieces c.args.i c.if-several.true)

pub returns-else-several : goal.returns-else-several
returns-else-several c =
    le-ltb 1 c.args.pieces c.if-several.false ∙ sym (tail_alone c.args.pieces c.args.i (omega (arith, c.if-several.false)))
