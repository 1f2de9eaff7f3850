-- `first::advance` goes past each candidate whose piece is over the limit, so the first that passes stays the same.
use Rattle.path_by_count_rows.specs.FirstLaws.{first-none, first-here, first-after, within_no}
use Rattle.path_pieces.specs.PredecessorLaws.{within_yes}
use Rattle.path_pieces.specs.Pieces.{piece_length, is_within}
use Rattle.path_pieces.specs.DomainLaws.{ends_rise}
use Rattle.std.proofs.Common.{arith}
use mathlib.Core.Path.{◌≡◌, refl, ◌∙◌}
use Prim.Native.Nat.{◌-◌}
use native.Mathlib.Numerals.{add-one}
use Rattle.path_by_count_rows.proofs.first.advance.Goals as goal

pub loop-i-init : goal.loop-i-init
loop-i-init c = (omega (arith, c.requires.p_lt_j), refl, refl)

pub overflow_sub-ends : goal.overflow_sub-ends
overflow_sub-ends c = ends_rise c.requires.candidates c.loop-i.i c.args.j (omega arith) c.requires.j_in_bounds

pub returns-then-ends-j : goal.returns-then-ends-j
unfolding piece_length
returns-then-ends-j c =
    let test = is_within c.args.limit c.args.ends.now.left.now c.args.ends.now.right.now c.args.j in
    first-here test c.loop-i.i (c.args.j - 1) (omega arith)
    (within_yes c.args.limit c.args.ends.now.left.now c.args.ends.now.right.now c.args.j c.loop-i.i c.if-ends-j.true)
    ∙ c.loop-i.invariant.2

pub loop-i-preserved : goal.loop-i-preserved
unfolding piece_length
loop-i-preserved c =
    let test = is_within c.args.limit c.args.ends.now.left.now c.args.ends.now.right.now c.args.j in (
      omega arith,
      refl,
      rw add-one (first-after test c.loop-i.i (c.args.j - 1) (omega arith)
          (within_no c.args.limit c.args.ends.now.left.now c.args.ends.now.right.now c.args.j c.loop-i.i c.if-ends-j.false))
          ∙ c.loop-i.invariant.2,
    )

pub returns : goal.returns
returns c =
    let test = is_within c.args.limit c.args.ends.now.left.now c.args.ends.now.right.now c.args.j in
    let e : c.args.j - 1 ≡ c.loop-i.i = omega arith in
    e ∙ first-none test c.loop-i.i (c.args.j - 1 - c.loop-i.i) (omega arith) ∙ c.loop-i.invariant.2
