-- The first n places are filled.
use Rattle.std.proofs.Common.{rules}
use Rattle.base_terms.specs.Lists.{onto}
use Rattle.numbers_in.proofs.lists.put_zeros.Goals as goal

pub returns : goal.returns
unfolding onto
returns c = search rules
