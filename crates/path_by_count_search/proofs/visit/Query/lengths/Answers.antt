-- `Query::lengths` puts the numbers of the query together.
use Rattle.path_by_count_search.proofs.visit.Query.lengths.Goals as goal

pub returns : goal.returns
returns c = rw c.length_weights.ensures
