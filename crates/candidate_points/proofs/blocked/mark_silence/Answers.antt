-- `blocked::mark_silence` blocks the silence and opens what is inside its bounds where it gets grid points.
use Rattle.std.proofs.Common.{rules}
use Rattle.std.proofs.Common.{arith}
use mathlib.Core.Path.{sym, ◌∙◌}
use Rattle.candidate_points.specs.BlockedWalk.{shut_crossed, shut_whole, shut_inside, shut_room}
use Rattle.candidate_points.proofs.blocked.mark_silence.Goals as goal
use Rattle.candidate_points.proofs.blocked.mark_silence.Goals.{else-b-via-then-b+else-gets_grid, else-b-via-else-b}

pub overflow_add-b : goal.overflow_add-b
overflow_add-b c =
    omega (arith, shut_room c.args.gap c.args.g c.args.s c.args.start c.args.end c.args.flags.now _ c.silence_bounds-b.result c.silence_bounds-b.ensures c.fill_range.ensures c.requires (search rules), c.requires.size)

pub fill_range-requires-then-gets_grid : goal.fill_range-requires-then-gets_grid
fill_range-requires-then-gets_grid c =
    shut_room c.args.gap c.args.g c.args.s c.args.start c.args.end c.args.flags.now _ c.silence_bounds-b.result c.silence_bounds-b.ensures c.fill_range.ensures c.requires (search rules)

pub returns-then-gets_grid : goal.returns-then-gets_grid
returns-then-gets_grid c =
    shut_inside _ _ _ _ _ c.args.flags.now _ c.silence_bounds-b.result c.silence_bounds-b.ensures c.fill_range.ensures (search rules)
    (sym c.gets_grid.ensures ∙ c.if-gets_grid.true) _ c.fill_range-then-gets_grid.ensures

pub returns-else-b : goal.returns-else-b
returns-else-b c =
    elim c.else-b.branch [
      | else-b-via-then-b+else-gets_grid w ↦
          shut_whole _ _ _ _ _ c.args.flags.now _ c.silence_bounds-b.result c.silence_bounds-b.ensures c.fill_range.ensures w.if-b.true
          (sym w.gets_grid.ensures ∙ w.if-gets_grid.false)
      | else-b-via-else-b w ↦ shut_crossed _ _ _ _ _ c.args.flags.now _ c.silence_bounds-b.result c.silence_bounds-b.ensures c.fill_range.ensures w.if-b.false
    ]
