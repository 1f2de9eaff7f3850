-- `blocked::mark_blocked` clears the flags behind the silences, and marks the silences over them.
use Rattle.candidate_points.specs.BlockedWalk.{marked_behind}
use Rattle.candidate_points.proofs.blocked.mark_blocked.Goals as goal

pub returns : goal.returns
returns c =
    marked_behind _ _ _ _ _ _ _ _ _ _ c.requires c.split_at_mut-list.ensures.front c.split_at_mut-list.ensures.back c.side.ensures c.mark_silences.ensures
