-- `collect::pass`: one law of CollectLaws for each end.
use Rattle.std.proofs.Common.{arith}
use mathlib.Core.Path.{sym, ap, ◌∙◌}
use mathlib.Core.List.{List}
use Prim.Native.Nat.{◌+◌, ◌*◌}
use Rattle.candidate_points.specs.Placed.{placed}
use Rattle.candidates.specs.declared.candidate.Candidate.{Candidate}
use Rattle.candidates.specs.Entries.{entries_of, costs_of}
use Rattle.base_terms.specs.Layout.{entries_at, costs_at}
use Rattle.candidate_walk.specs.CollectLaws.{own_parts, own_puttable, own_here_lem, own_walk, point_puttable, point-here, point_walk, none_entries, none_costs, none_walk}
use Rattle.candidate_walk.proofs.collect.pass.Goals as goal

pub overflow_add-w : goal.overflow_add-w
overflow_add-w c =
    let q = own_parts c.args.w c.args.k c.in-Some.own (sym c.own_here.ensures ∙ c.in-Some.is) in
    omega (arith, c.requires.own_listed _ q.0, c.requires.stops, c.requires.holding.apart, c.requires.holding.few)

pub next_own-next-requires : goal.next_own-next-requires
next_own-next-requires c = record { holding = c.requires.holding; at_silence = λ l. c.requires.ahead (c.args.w.silence + 1) (omega arith) l }

pub put-requires : goal.put-requires
put-requires c =
    own_puttable c.args.x c.args.silences c.args.stop c.args.k c.args.marked c.args.w c.args.work_u32.now c.args.work_f64.now _ (sym c.own_here.ensures ∙ c.in-Some.is) c.with_point-c.result c.with_point-c.ensures c.requires

pub overflow_add-result : goal.overflow_add-result
overflow_add-result c =
    let q = own_parts c.args.w c.args.k c.in-Some.own (sym c.own_here.ensures ∙ c.in-Some.is) in
    omega (arith, c.requires.own_listed _ q.0, c.requires.stops, c.requires.holding.apart, c.requires.holding.few)

pub returns-in-Some : goal.returns-in-Some
returns-in-Some c = let n = c.args.x.padding.frames in
    let work = c.args.work_u32.now in
    let workf = c.args.work_f64.now in
    let o = sym c.own_here.ensures ∙ c.in-Some.is in
    let h = own_here_lem c.args.x c.args.silences c.args.stop c.args.k c.args.marked c.args.w work workf _ o c.with_point-c.result c.with_point-c.ensures in
    record { value = own_walk c.args.x c.args.silences c.args.stop c.args.k c.args.marked c.args.w work workf _ o c.with_point-c.result c.with_point-c.ensures c.next_own-next.result c.next_own-next.ensures; work_u32_after = c.put.ensures.work_u32_after ∙ ap (λ (cs : List Candidate). placed (entries_at n + 3 * c.args.w.written) (entries_of cs) work) h; work_f64_after = c.put.ensures.work_f64_after ∙ ap (λ (cs : List Candidate). placed (costs_at n + c.args.w.written) (costs_of cs) workf) h }

pub put-requires-then-marked : goal.put-requires-then-marked
put-requires-then-marked c =
    point_puttable c.args.x c.args.silences c.args.stop c.args.k c.args.marked c.args.w c.args.work_u32.now c.args.work_f64.now (sym c.own_here.ensures ∙ c.in_default.is) c.if-marked.true c.point_in-c.result c.point_in-c.ensures c.requires

pub returns-then-marked : goal.returns-then-marked
returns-then-marked c = let n = c.args.x.padding.frames in
    let work = c.args.work_u32.now in
    let workf = c.args.work_f64.now in
    let o = sym c.own_here.ensures ∙ c.in_default.is in
    let h = point-here c.args.x c.args.silences c.args.stop c.args.k c.args.marked c.args.w work workf o c.if-marked.true c.point_in-c.result c.point_in-c.ensures in
    record { value = point_walk c.args.x c.args.silences c.args.stop c.args.k c.args.marked c.args.w work workf o c.if-marked.true c.point_in-c.result c.point_in-c.ensures; work_u32_after = c.put-then-marked.ensures.work_u32_after ∙ ap (λ (cs : List Candidate). placed (entries_at n + 3 * c.args.w.written) (entries_of cs) work) h; work_f64_after = c.put-then-marked.ensures.work_f64_after ∙ ap (λ (cs : List Candidate). placed (costs_at n + c.args.w.written) (costs_of cs) workf) h }

pub returns : goal.returns
returns c = let work = c.args.work_u32.now in
    let workf = c.args.work_f64.now in
    let o = sym c.own_here.ensures ∙ c.in_default.is in
    record { value = none_walk c.args.x c.args.silences c.args.stop c.args.k c.args.marked c.args.w work workf o c.if-marked.false; work_u32_after = none_entries c.args.x c.args.silences c.args.stop c.args.k c.args.marked c.args.w work workf o c.if-marked.false; work_f64_after = none_costs c.args.x c.args.silences c.args.stop c.args.k c.args.marked c.args.w work workf o c.if-marked.false }
