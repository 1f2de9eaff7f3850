-- What the operation "path over lent candidates" answers.
use Rattle.std.specs.Prelude.{Result}
use Rattle.path_rules.specs.declared.solved.Solved.{Solved}
use Rattle.path_list.specs.declared.search.Error.{Error}

-- the path's score and the number of its candidates, or why none was written
abbrev pub Answer : Type 0
Answer = Result Solved Error
