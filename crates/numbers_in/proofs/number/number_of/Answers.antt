-- The bytes are folded from the highest down.
use Rattle.std.proofs.Common.{rules, ◌≡◌, ◌∙◌, reverse}
use Rattle.std.specs.List.{fold}
use Rattle.numbers_in.specs.NumbersLaws.{with_byte, number_folded}
use Rattle.numbers_in.proofs.number.number_of.Goals as goal

pub returns : goal.returns
returns c = let e : c.fold.result ≡ fold with_byte 0 (reverse c.args.s.now) = search rules in e ∙ number_folded c.args.s.now
