-- `levels`: the front of the list holds the keys of the values with signal, which give those values back.
use lib.Seq.{length-take-le}
use Rattle.silence_levels.specs.Levels.{levels_of}
use Rattle.silence_levels.specs.KeysLaws.{fits_all, collected_count, collected_few, collected_keys, collected_values}
use Rattle.std.proofs.Common.{arith}
use mathlib.Core.Path.{sym}
use Rattle.silence_levels.proofs.levels.Goals as goal

pub slice_bounds-over_keys-end : goal.slice_bounds-over_keys-end
slice_bounds-over_keys-end c = collected_count c.collect-with_signal.ensures c.requires.values_in_bounds

pub slice_bounds-over_keys-end-2 : goal.slice_bounds-over_keys-end-2
slice_bounds-over_keys-end-2 c = sym (length-take-le _ _ (collected_count c.collect-with_signal.ensures c.requires.values_in_bounds))

pub over_keys-requires : goal.over_keys-requires
over_keys-requires c = let few = collected_few c.collect-with_signal.ensures in
    let most = c.requires.values_len_bound in
    record { keys_len_bound = omega arith; keys_valid = collected_keys c.collect-with_signal.ensures (fits_all c.args.readings.now.values.now c.args.readings.now.values_fit) c.requires.values_finite }

pub returns : goal.returns
unfolding levels_of
returns c = record { result = rw (c.over_keys.ensures, collected_values c.collect-with_signal.ensures (fits_all c.args.readings.now.values.now c.args.readings.now.values_fit)); list = c.collect-with_signal.ensures.list }
