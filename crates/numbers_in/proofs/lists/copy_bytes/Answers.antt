-- So many bytes from a place on, each as it stands there.
use Rattle.std.proofs.Common.{rules}
use Rattle.base_terms.specs.Lists.{onto}
use Rattle.numbers_in.specs.NumbersLaws.{bytes_copied}
use Rattle.numbers_in.proofs.lists.copy_bytes.Goals as goal

pub returns : goal.returns
unfolding onto
returns c = rw (bytes_copied c.args.s.now c.args.at c.args.n c.requires.s_in_bounds) (search rules)
