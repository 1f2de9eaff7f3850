-- `search::search_by_length` copies the costs behind the place of the scores, and lends each part to the search.
use Rattle.std.proofs.Common.{Float, ◌+◌, arith}
use mathlib.Core.Path.{sym}
use Rattle.plan_lists.specs.CopyLaws.{copy_placed}
use Rattle.plan_path.specs.SearchLaws.{left_long, path_room, length-lent, length-sought}
use Rattle.plan_path.proofs.search.search_by_length.Goals as goal

pub slice_bounds-ends-end : goal.slice_bounds-ends-end
slice_bounds-ends-end c = sym (left_long c.args.frames c.args.n c.args.work_u32.now c.args.work_u64.now c.args.work_f64.now c.requires)

pub path_by_length-requires : goal.path_by_length-requires
path_by_length-requires c = let copied = rw (c.scores_at-scores.ensures, c.costs_at-costs.ensures, c.behind_table.ensures) at (copy_placed {A = Float} c.costs_at-costs.result (c.scores_at-scores.result + c.behind_table.result) c.args.n c.args.work_f64.now c.copy_within.new.self (omega (arith, c.costs_at-costs.ensures, c.requires.few, c.requires.f64s)) c.copy_within.ensures.after) in
    rw (c.end_f64-end.ensures, c.path_at-path.ensures, c.search_at-search.ensures, c.rights_at-rights.ensures, c.scores_at-scores.ensures)
    (record { table_room = length-lent c.args.frames c.args.n c.args.work_u32.now c.args.work_u64.now c.args.work_f64.now c.requires _ copied; search_le_at = path_room c.args.frames c.args.n c.args.work_u32.now c.args.work_u64.now c.args.work_f64.now c.requires })

pub returns : goal.returns
returns c = let copied = rw (c.scores_at-scores.ensures, c.costs_at-costs.ensures, c.behind_table.ensures) at (copy_placed {A = Float} c.costs_at-costs.result (c.scores_at-scores.result + c.behind_table.result) c.args.n c.args.work_f64.now c.copy_within.new.self (omega (arith, c.costs_at-costs.ensures, c.requires.few, c.requires.f64s)) c.copy_within.ensures.after) in
    let held = rw (c.end_f64-end.ensures, c.path_at-path.ensures, c.search_at-search.ensures, c.rights_at-rights.ensures, c.scores_at-scores.ensures) at c.path_by_length.ensures in
    rw (c.end_f64-end.ensures, c.scores_at-scores.ensures)
    (let both = length-sought c.args.frames c.args.n c.args.work_u32.now c.args.work_u64.now c.args.work_f64.now c.requires _ copied c.path_by_length.new.cost _ _ held in record { path_held = both.0; work_f64_unchanged = both.1 })
