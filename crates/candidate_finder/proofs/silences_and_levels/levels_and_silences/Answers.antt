-- `silences_and_levels::levels_and_silences`: the levels are found in the list that then takes the silences, and both minimum lengths become frames.
use Rattle.std.proofs.Common.{arith}
use Rattle.base_terms.specs.Lists.{onto}
use Rattle.candidate_finder.specs.Holds.{silences-front}
use Rattle.candidate_finder.proofs.silences_and_levels.levels_and_silences.Goals as goal

pub needed_levels-l-requires : goal.needed_levels-l-requires
needed_levels-l-requires c = record { values_len_bound = c.requires.sound_ready.few; flags_len = c.requires.sound_ready.flagged; values_in_bounds = omega (arith, c.requires.values_in_bounds); values_finite = c.requires.sound_ready.finite }

pub returns : goal.returns
unfolding onto
returns c = let rest = silences-front c.args.r c.args.segment c.args.readings.now.values.now c.args.readings.now.flags.now c.needed_levels-l.result _ _ c.needed_levels-l.ensures c.frames_in-min_sound.ensures c.frames_in-min_silence.ensures _ _ _ c.list_silences-numbers.ensures.value c.list_silences-numbers.ensures.out_after in record { levels_value = c.needed_levels-l.ensures; silences_value = rest.0; list_after = rest.1 }
