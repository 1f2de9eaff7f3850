-- The bytes that std reads are those that stand at the place.
use Rattle.std.proofs.Common.{◌∙◌}
use Rattle.numbers_in.specs.NumbersLaws.{four_read}
use Rattle.numbers_in.proofs.number.U32Number.at.Goals as goal

pub returns-in-Some : goal.returns-in-Some
returns-in-Some c =
    let first = c.in-Some.ensures.cases in
    c.from_le_bytes.ensures ∙ four_read c.args.s.now (λ i. (c.type_inv.s i).fits) c.args.at c.in-Some.four.now (rw c.ahead.ensures at first.enough) (rw c.ahead.ensures at first.same)
