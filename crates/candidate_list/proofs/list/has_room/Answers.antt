-- `list::has_room`: a third of the numbers is compared, so that nothing overflows.
use borrow.Author.Tests.{lt-leb}
use Rattle.candidate_list.specs.CandidateListLaws.{room_costs, room-ends}
use Rattle.candidate_list.proofs.list.has_room.Goals as goal

pub returns-else-candidates-costs : goal.returns-else-candidates-costs
returns-else-candidates-costs c =
    rw (lt-leb c.args.candidates c.args.costs c.if-candidates-costs.false)
    (room_costs c.args.candidates c.args.ends c.args.costs c.if-candidates-costs.false)

pub returns-then-candidates-costs : goal.returns-then-candidates-costs
returns-then-candidates-costs c = room-ends c.args.candidates c.args.ends c.args.costs c.if-candidates-costs.true
