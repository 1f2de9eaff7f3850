-- `put::put`: three stores and one.
use Rattle.std.proofs.Common.{arith}
use mathlib.Core.Path.{ap}
use Prim.Native.Nat.{ℕ, ◌+◌, ◌*◌}
use lib.ListN.{length-set}
use Rattle.candidate_walk.specs.HeldLaws.{put_entries, put_cost}
use Rattle.candidate_walk.proofs.put.put.Goals as goal

pub bounds-work_u32-here : goal.bounds-work_u32-here
bounds-work_u32-here c = omega (arith, c.entries_at.ensures, c.requires.room, c.requires.inside)

pub bounds-work_u32-here-2 : goal.bounds-work_u32-here-2
bounds-work_u32-here-2 c = simp length-set (omega (arith, c.entries_at.ensures, c.requires.room, c.requires.inside))

pub bounds-work_u32-here-3 : goal.bounds-work_u32-here-3
bounds-work_u32-here-3 c = simp length-set (omega (arith, c.entries_at.ensures, c.requires.room, c.requires.inside))

pub returns : goal.returns
returns c = record { work_u32_after = rw c.from.ensures (put_entries c.args.c c.args.at c.args.frames c.args.work_u32.now c.args.work_f64.now c.requires (c.entries_at.result + 3 * c.args.at) (ap (λ (k : ℕ). k + 3 * c.args.at) c.entries_at.ensures)); work_f64_after = put_cost c.args.c c.args.at c.args.frames c.args.work_u32.now c.args.work_f64.now c.requires (c.costs_at.result + c.args.at) (ap (λ (k : ℕ). k + c.args.at) c.costs_at.ensures) }
