-- `search::search_by_count` copies the costs behind the place of the tree, and lends each part to the search.
use Rattle.std.proofs.Common.{Float, ◌+◌, arith}
use mathlib.Core.Path.{sym}
use Rattle.plan_lists.specs.CopyLaws.{copy_placed}
use Rattle.plan_path.specs.SearchLaws.{left_long, path_room, parent-room, count_lent, count_sought}
use Rattle.plan_path.proofs.search.search_by_count.Goals as goal

pub behind_tree-requires : goal.behind_tree-requires
behind_tree-requires c =
    omega (arith, c.requires.search_room.bounded, c.requires.search_room.domain.candidates.few, left_long c.args.frames c.args.n c.args.work_u32.now c.args.work_u64.now c.args.work_f64.now c.requires.search_room)

pub slice_bounds-ends-end : goal.slice_bounds-ends-end
slice_bounds-ends-end c = sym (left_long c.args.frames c.args.n c.args.work_u32.now c.args.work_u64.now c.args.work_f64.now c.requires.search_room)

pub path_by_count-requires : goal.path_by_count-requires
path_by_count-requires c = let copied = rw (c.scores_at-scores.ensures, c.costs_at-costs.ensures, c.behind_tree.ensures) at (copy_placed {A = Float} c.costs_at-costs.result (c.scores_at-scores.result + c.behind_tree.result) c.args.n c.args.work_f64.now c.copy_within.new.self (omega (arith, c.costs_at-costs.ensures, c.requires.search_room.few, c.requires.search_room.f64s)) c.copy_within.ensures.after) in
    rw (c.end_f64-end.ensures, c.path_at-path.ensures, c.search_at-search.ensures, c.rights_at-rights.ensures, c.scores_at-scores.ensures) (record { tree_room = count_lent c.args.frames c.args.n c.args.work_u32.now c.args.work_u64.now c.args.work_f64.now c.requires.search_room _ copied; search_le_at = path_room c.args.frames c.args.n c.args.work_u32.now c.args.work_u64.now c.args.work_f64.now c.requires.search_room; count_nonzero = (c.requires.count_nonzero.0, parent-room c.args.frames c.args.n c.args.work_u32.now c.args.work_u64.now c.args.work_f64.now c.requires.search_room _ _ c.requires.count_nonzero.1) })

pub returns : goal.returns
returns c = let copied = rw (c.scores_at-scores.ensures, c.costs_at-costs.ensures, c.behind_tree.ensures) at (copy_placed {A = Float} c.costs_at-costs.result (c.scores_at-scores.result + c.behind_tree.result) c.args.n c.args.work_f64.now c.copy_within.new.self (omega (arith, c.costs_at-costs.ensures, c.requires.search_room.few, c.requires.search_room.f64s)) c.copy_within.ensures.after) in
    let held = rw (c.end_f64-end.ensures, c.path_at-path.ensures, c.search_at-search.ensures, c.rights_at-rights.ensures, c.scores_at-scores.ensures) at c.path_by_count.ensures in
    rw (c.end_f64-end.ensures, c.scores_at-scores.ensures)
    (let both = count_sought c.args.frames c.args.n c.args.work_u32.now c.args.work_u64.now c.args.work_f64.now c.requires.search_room _ copied c.args.count c.path_by_count.new.cost _ _ held in record { path_held = both.0; work_f64_unchanged = both.1 })
