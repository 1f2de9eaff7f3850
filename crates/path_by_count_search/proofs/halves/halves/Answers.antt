-- `halves::halves` puts the two halves together as the definition does.
use Rattle.std.proofs.Common.{◌≡◌, ◌+◌, ◌-◌, ◌/◌, ◌≤◌, ℕ, arith}
use Rattle.path_by_count_search.proofs.halves.halves.Goals as goal

-- the middle as the definition has it
middle : (lo hi mid : ℕ) → lo ≤ hi → mid ≡ (lo + hi) / 2 → mid ≡ lo + (hi - lo) / 2
middle lo hi mid h e = omega arith

pub overflow_mul-below : goal.overflow_mul-below
overflow_mul-below c = omega (arith, c.requires.in_over, c.well_formed)

pub overflow_add-above : goal.overflow_add-above
overflow_add-above c = omega (arith, c.requires.in_over, c.well_formed)

pub outlook-requires : goal.outlook-requires
outlook-requires c = rw (middle c.args.lo c.args.hi _ c.requires.some c.midpoint-mid.ensures) c.requires.low

pub outlook-requires-2 : goal.outlook-requires-2
outlook-requires-2 c = rw (middle c.args.lo c.args.hi _ c.requires.some c.midpoint-mid.ensures) c.requires.up

pub returns : goal.returns
returns c = rw (c.in_order.ensures, c.outlook-2.ensures, c.outlook.ensures, middle c.args.lo c.args.hi _ c.requires.some c.midpoint-mid.ensures)
