-- `level::fill_levels` writes one level after another, holding the level of the frame before.
use Rattle.std.proofs.Common.{rules}
use mathlib.Core.Path.{◌∙◌}
use lib.Ieee.{of_bits}
use lib.ListN.{length-set}
use Rattle.candidate_costs.specs.Level.{boundary_levels}
use Rattle.candidate_costs.specs.LevelLaws.{levelling_start, levelling_next, levelling_done}
use Rattle.candidate_costs.proofs.level.fill_levels.Goals as goal

pub loop-k-init : goal.loop-k-init
unfolding of_bits
loop-k-init c = levelling_start _ _ c.args.out.now c.frame_level-before.result c.requires.values_nonzero c.requires.values_in_bounds c.frame_level-before.ensures

pub loop-k-preserved : goal.loop-k-preserved
unfolding of_bits
loop-k-preserved c = levelling_next _ _ _ _ _ _ _ _ (search rules) c.frame_level-here.ensures c.loop-k.invariant

pub shape_of-out : goal.shape_of-out
shape_of-out c = length-set c.loop-k.out _ _ ∙ c.loop-k.invariant.same ∙ length-set c.args.out.now _ _

pub returns : goal.returns
unfolding boundary_levels of_bits
returns c = levelling_done _ _ c.args.out.now _ _ _ _ _ (search rules) c.loop-k.invariant
