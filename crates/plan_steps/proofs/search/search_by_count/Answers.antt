-- `search::search_by_count`: once the positions are written, the search reads what is held of the candidates.
use Rattle.plan_steps.specs.SearchLaws.{asked_positions, asked_room, asked_parents, searched_by_count}
use Rattle.plan_steps.proofs.search.search_by_count.Goals as goal

pub positions-requires : goal.positions-requires
positions-requires c = record { bounded = c.requires.asked_over.bounded; positions_room = asked_positions c.args.g c.args.k c.args.lengths c.args.work_u32.now c.args.work_u64.now c.args.work_f64.now c.requires.asked_over }

pub search_by_count-requires : goal.search_by_count-requires
search_by_count-requires c = record {
  search_room = asked_room c.args.g c.args.k c.args.lengths c.args.work_u32.now c.args.work_u64.now c.args.work_f64.now _ c.positions.ensures c.requires.asked_over;
  count_nonzero = (
    c.requires.count_nonzero.0,
    asked_parents c.args.g c.args.k c.args.lengths c.args.work_u32.now c.args.work_u64.now c.args.work_f64.now _ c.positions.ensures c.requires.asked_over c.args.count _ c.requires.count_nonzero.1,
  );
}

pub returns : goal.returns
returns c =
    searched_by_count c.args.g c.args.k c.args.lengths c.args.work_u32.now c.args.work_u64.now c.args.work_f64.now _ c.positions.ensures _ _ _ c.search_by_count.ensures.work_f64_unchanged c.args.count c.search_by_count.ensures.path_held
