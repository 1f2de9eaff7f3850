-- The bytes that std reads are those that stand at the place.
use Rattle.std.proofs.Common.{◌∙◌}
use Rattle.numbers_in.specs.NumbersLaws.{eight_read}
use Rattle.numbers_in.proofs.number.U64Number.at.Goals as goal

pub returns-in-Some : goal.returns-in-Some
returns-in-Some c =
    let first = c.in-Some.ensures.cases in
    c.from_le_bytes.ensures ∙ eight_read c.args.s.now (λ i. (c.type_inv.s i).fits) c.args.at c.in-Some.eight.now (rw c.ahead.ensures at first.enough) (rw c.ahead.ensures at first.same)
