-- `collect::collect`: the survivors, then both ends of the span.
use Rattle.std.proofs.Common.{arith}
use Rattle.candidate_walk.specs.CollectAll.{all_ranged, all_silent_lem, first_puttable, last_puttable, all-fits, all-number, all_entries, all_costs}
use Rattle.candidate_walk.proofs.collect.collect.Goals as goal

pub next_own-own-requires : goal.next_own-own-requires
next_own-own-requires c = record { holding = c.requires.holding; at_silence = all_silent_lem c.requires c.inner_from-from.ensures c.inner_to-stop.ensures }

pub pass_all-written-requires : goal.pass_all-written-requires
pass_all-written-requires c = record { collectable = c.requires; inner_range = all_ranged c.requires c.inner_from-from.ensures c.inner_to-stop.ensures; own_value = c.next_own-own.ensures }

pub put-requires : goal.put-requires
put-requires c =
    first_puttable c.requires c.inner_from-from.ensures c.inner_to-stop.ensures c.pass_all-written.ensures.work_u32_after c.pass_all-written.ensures.work_f64_after
    c.node.ensures

pub put-requires-2 : goal.put-requires-2
put-requires-2 c =
    last_puttable c.requires c.inner_from-from.ensures c.inner_to-stop.ensures c.pass_all-written.ensures.work_u32_after c.pass_all-written.ensures.work_f64_after
    c.node.ensures c.put.ensures.work_u32_after c.put.ensures.work_f64_after c.pass_all-written.ensures.value c.node-2.ensures

pub overflow_add-result : goal.overflow_add-result
overflow_add-result c =
    omega (arith, c.requires.holding.few, all-fits c.requires c.inner_from-from.ensures c.inner_to-stop.ensures c.pass_all-written.ensures.work_u32_after c.pass_all-written.ensures.work_f64_after c.node.ensures c.put.ensures.work_u32_after c.put.ensures.work_f64_after c.pass_all-written.ensures.value)

pub returns : goal.returns
returns c = let from = c.inner_from-from.ensures in
    let to = c.inner_to-stop.ensures in
    let first = c.node.ensures in
    let last = c.node-2.ensures in
    record { value = all-number c.requires from to c.pass_all-written.ensures.work_u32_after c.pass_all-written.ensures.work_f64_after first c.put.ensures.work_u32_after c.put.ensures.work_f64_after c.pass_all-written.ensures.value; work_u32_after = all_entries c.requires from to c.pass_all-written.ensures.work_u32_after c.pass_all-written.ensures.work_f64_after first c.put.ensures.work_u32_after c.put.ensures.work_f64_after c.pass_all-written.ensures.value last c.put-2.ensures.work_u32_after c.put-2.ensures.work_f64_after; work_f64_after = all_costs c.requires from to c.pass_all-written.ensures.work_u32_after c.pass_all-written.ensures.work_f64_after first c.put.ensures.work_u32_after c.put.ensures.work_f64_after c.pass_all-written.ensures.value last c.put-2.ensures.work_u32_after c.put-2.ensures.work_f64_after }
