-- It reads to a list that has room, lists what it read, and ends with one of two numbers.
use Rattle.std.proofs.Common.{rules}
use Rattle.std.proofs.Common.{arith}
use mathlib.Core.Logic.{inl, inr}
use mathlib.Core.Path.{refl, ◌∙◌}
use Rattle.cutplan.specs.LinesLaws.{said_number}
use Rattle.input_reader.specs.InputLaws.{reads_fit}
use Rattle.cutplan_program.specs.ProgramLaws.{ran}
use Rattle.cutplan_program.proofs.program.buchawzer_cutplan_program.Goals as goal

pub list_input-listed-requires : goal.list_input-listed-requires
list_input-listed-requires c = record { fits_in = reads_fit c.read_to_end-got.ensures; most_bytes_in_bounds = omega (arith, c.job-2-1.given); longest_listing_in_bounds = search rules }

pub returns-then-write_all : goal.returns-then-write_all
returns-then-write_all c = ran c.read_to_end-got.ensures (omega (arith, c.job-2-1.given)) (c.unwrap_or.ensures ∙ said_number _ _ c.list_input-listed.ensures.refused_value) (inl refl)

pub returns : goal.returns
returns c = ran c.read_to_end-got.ensures (omega (arith, c.job-2-1.given)) (c.unwrap_or.ensures ∙ said_number _ _ c.list_input-listed.ensures.refused_value) (inr refl)
