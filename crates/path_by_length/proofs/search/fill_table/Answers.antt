-- `search::fill_table` settles one candidate after another: before each turn the lists hold the table of the candidates passed.
use lib.Ieee.{binary64, of_bits}
use Rattle.std.proofs.Common.{arith}
use mathlib.Core.Path.{◌≡◌, ◌∙◌}
use native.Mathlib.Numerals.{add-one}
use lib.ListN.{length, length-set}
use Rattle.base_laws.specs.Nonneg.{nought_is}
use Rattle.path_by_length.proofs.SolvedLaws.{room-first, filled-first, filled_ready, filled_next, filled-over}
use Rattle.path_by_length.proofs.search.fill_table.Goals as goal

pub bounds-over-behind_table : goal.bounds-over-behind_table
bounds-over-behind_table c = simp length-set (omega (arith, c.behind_table.ensures, c.requires.domain.candidates.some, c.requires.overs))

pub loop-j-init : goal.loop-j-init
loop-j-init c =
    (omega arith, c.requires.domain.candidates.some, filled-first c.requires (of_bits binary64 0) (nought_is binary64) c.behind_table.ensures)

pub fill_at-requires : goal.fill_at-requires
fill_at-requires c =
    filled_ready (room-first c.requires (of_bits binary64 0) (nought_is binary64) c.behind_table.ensures) c.loop-j.invariant.2 c.loop-j.invariant.0 c.loop-j-test.true

pub loop-j-preserved : goal.loop-j-preserved
loop-j-preserved c =
    let inside = c.loop-j-test.true in
    let room = room-first c.requires (of_bits binary64 0) (nought_is binary64) c.behind_table.ensures in
    (omega arith, omega (arith, inside), rw (c.fill_at.ensures.over_after, c.fill_at.ensures.cost_after, add-one) (filled_next room c.loop-j.invariant.2 inside))

pub shape_of-over : goal.shape_of-over
shape_of-over c = c.loop-j.invariant.2.overs ∙ simp length-set

pub shape_of-cost : goal.shape_of-cost
shape_of-cost c = c.loop-j.invariant.2.costs ∙ simp length-set

pub returns : goal.returns
returns c =
    let e : c.loop-j.j ≡ length c.args.ends.now.left.now = omega (arith, c.loop-j.invariant.1, c.loop-j-test.false) in
    rw (← e) (filled-over c.requires (of_bits binary64 0) (nought_is binary64) c.behind_table.ensures c.loop-j.invariant.2)
