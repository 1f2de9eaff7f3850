-- `list::hand_out`: either way the three work lists are cleared after the last use.
use mathlib.Core.Path.{sym, ◌∙◌}
use Prim.Native.Nat.{◌*◌}
use lib.ListN.{take, drop}
use Rattle.base_terms.specs.Work.{work_of}
use Rattle.base_terms.specs.Layout.{entries_at, costs_at}
use Rattle.candidate_list.specs.CandidateList.{output_of}
use Rattle.candidate_list.specs.CandidateListLaws.{out-short, out-found}
use Rattle.candidate_list.proofs.list.hand_out.Goals as goal

pub returns-then-not-has_room : goal.returns-then-not-has_room
returns-then-not-has_room c =
    let e = c.clear_work.ensures in
    out-short c.args.candidates (take (3 * c.args.candidates) (drop (entries_at c.args.frames) c.args.work_u32.now)) (take c.args.candidates (drop (costs_at c.args.frames) c.args.work_f64.now)) (output_of c.args.ends.now c.args.costs.now) (work_of c.args.work_u32.now c.args.work_u64.now c.args.work_f64.now) _ e
    (sym c.has_room.ensures ∙ c.if-not-has_room.true)

pub copy_out-requires : goal.copy_out-requires
copy_out-requires c = record { copyable = c.requires; room = sym c.has_room.ensures ∙ c.if-not-has_room.false }

pub returns : goal.returns
returns c =
    let e = c.clear_work-2.ensures in
    out-found c.args.candidates (take (3 * c.args.candidates) (drop (entries_at c.args.frames) c.args.work_u32.now)) (take c.args.candidates (drop (costs_at c.args.frames) c.args.work_f64.now)) (output_of c.args.ends.now c.args.costs.now) (work_of c.args.work_u32.now c.args.work_u64.now c.args.work_f64.now) _ e (output_of _ _)
    (sym c.has_room.ensures ∙ c.if-not-has_room.false) c.copy_out.ensures.ends_after c.copy_out.ensures.costs_after
