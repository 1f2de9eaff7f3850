-- `list::copy_out`: each part is put in front of its output.
use Rattle.candidate_list.specs.CandidateListLaws.{room_parts, part_room, part_onto}
use Rattle.base_terms.specs.Lists.{onto}
use mathlib.Core.Path.{refl}
use Prim.Native.Nat.{◌+◌, ◌*◌}
use lib.ListN.{length, drop}
use Rattle.candidate_list.proofs.list.copy_out.Goals as goal

pub put_front-requires : goal.put_front-requires
put_front-requires c =
    let a = c.entries_at-entries.result in
    part_room a (3 * c.args.candidates) (a + 3 * c.args.candidates) refl (drop a c.args.work_u32.now) (length c.args.ends.now) (room_parts c.args.candidates (length c.args.ends.now) (length c.args.costs.now) c.requires.room).0

pub put_front-requires-2 : goal.put_front-requires-2
put_front-requires-2 c =
    let a = c.costs_at-prices.result in
    part_room a c.args.candidates (a + c.args.candidates) refl (drop a c.args.work_f64.now) (length c.args.costs.now) (room_parts c.args.candidates (length c.args.ends.now) (length c.args.costs.now) c.requires.room).1

pub returns : goal.returns
unfolding onto
returns c = let a = c.entries_at-entries.result in
    let b = c.costs_at-prices.result in
    record { ends_after = rw c.entries_at-entries.ensures at (part_onto a (3 * c.args.candidates) (a + 3 * c.args.candidates) refl c.args.work_u32.now c.args.ends.now _ c.put_front.ensures); costs_after = rw c.costs_at-prices.ensures at (part_onto b c.args.candidates (b + c.args.candidates) refl c.args.work_f64.now c.args.costs.now _ c.put_front-2.ensures) }
