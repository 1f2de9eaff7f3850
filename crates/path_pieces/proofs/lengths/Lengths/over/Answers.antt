-- `Lengths::over` counts by the test of the definition.
use Rattle.std.proofs.Common.{ltb, ◌∙◌, inl, inr}
use Rattle.base_laws.specs.Tests.{tested}
use Rattle.path_pieces.specs.Pieces.{over_of}
use Rattle.path_pieces.proofs.lengths.Lengths.over.Goals as goal

pub returns : goal.returns
unfolding over_of
returns c = c.from.ensures ∙ elim (tested (ltb c.args.self.limit c.args.len)) [ inl e ↦ rw e | inr e ↦ rw e ]
