-- The word of each number, in order, and that of every other.
use Rattle.std.proofs.Common.{tests, rules}
use Rattle.listing.specs.Listing.{flags_word}
use Rattle.listing.proofs.put.flags_word.Goals as goal

pub returns-in-0 : goal.returns-in-0
unfolding flags_word
returns-in-0 c = rw c.in-0.is

pub returns-in-1 : goal.returns-in-1
unfolding flags_word
returns-in-1 c = rw c.in-1.is

pub returns-in-2 : goal.returns-in-2
unfolding flags_word
returns-in-2 c = rw c.in-2.is

pub returns-in_default : goal.returns-in_default
unfolding flags_word
returns-in_default c = search (tests, rules)
