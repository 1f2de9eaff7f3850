-- The word of each number, in order, and that of every other.
use Rattle.std.proofs.Common.{tests, rules}
use Rattle.listing.specs.Listing.{reason_word}
use Rattle.listing.proofs.put.reason_word.Goals as goal

pub returns-in-0 : goal.returns-in-0
unfolding reason_word
returns-in-0 c = rw c.in-0.is

pub returns-in-1 : goal.returns-in-1
unfolding reason_word
returns-in-1 c = rw c.in-1.is

pub returns-in_default : goal.returns-in_default
unfolding reason_word
returns-in_default c = search (tests, rules)
