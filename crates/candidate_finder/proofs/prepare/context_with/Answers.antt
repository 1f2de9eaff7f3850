-- `prepare::context_with`, part by part.
use Rattle.candidate_finder.specs.PrepareLaws.{context_is}
use Rattle.candidate_finder.proofs.prepare.context_with.Goals as goal

pub returns : goal.returns
returns c = context_is c.args.r c.args.settings c.args.padding c.frame_secs.result c.frame_secs.ensures
