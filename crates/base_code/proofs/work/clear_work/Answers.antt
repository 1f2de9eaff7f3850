-- Every element of each list is replaced.
use Rattle.std.proofs.Common.{rules}
use Rattle.base_terms.specs.Lists.{filled}
use Rattle.base_code.proofs.work.clear_work.Goals as goal

pub returns : goal.returns
unfolding filled
returns c = search rules
