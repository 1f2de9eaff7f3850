-- The thresholds are made in the list that then takes the silences, and both minimum lengths become frames.
use Rattle.std.proofs.Common.{arith}
use Rattle.silence_list.specs.SilencesLaws.{silences-front}
use Rattle.silence_list.proofs.list.silences_in.Goals as goal

pub thresholds-thresholds-requires : goal.thresholds-thresholds-requires
thresholds-thresholds-requires c = record { values_len_bound = c.requires.sound_ready.few; flags_len = c.requires.sound_ready.flagged; values_in_bounds = omega (arith, c.requires.values_in_bounds); values_finite = c.requires.sound_ready.finite }

pub returns : goal.returns
returns c = let both = silences-front _ _ _ _ _ _ _ c.thresholds-thresholds.ensures c.frames_in-min_sound.ensures c.frames_in-min_silence.ensures _ _ _ c.list_silences.ensures.value c.list_silences.ensures.out_after in record { value = both.0; list_after = both.1 }
