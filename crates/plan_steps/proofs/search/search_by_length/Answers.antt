-- `search::search_by_length`: once the positions are written, the search reads what is held of the candidates.
use Rattle.plan_steps.specs.SearchLaws.{asked_positions, asked_room, searched_by_length}
use Rattle.plan_steps.proofs.search.search_by_length.Goals as goal

pub positions-requires : goal.positions-requires
positions-requires c = record { bounded = c.requires.bounded; positions_room = asked_positions c.args.g c.args.k c.args.lengths c.args.work_u32.now c.args.work_u64.now c.args.work_f64.now c.requires }

pub search_by_length-requires : goal.search_by_length-requires
search_by_length-requires c =
    asked_room c.args.g c.args.k c.args.lengths c.args.work_u32.now c.args.work_u64.now c.args.work_f64.now _ c.positions.ensures c.requires

pub returns : goal.returns
returns c =
    searched_by_length c.args.g c.args.k c.args.lengths c.args.work_u32.now c.args.work_u64.now c.args.work_f64.now _ c.positions.ensures _ _ _ c.search_by_length.ensures.work_f64_unchanged c.search_by_length.ensures.path_held
