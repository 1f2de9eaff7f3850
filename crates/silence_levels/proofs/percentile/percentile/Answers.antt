-- `percentile::percentile`: the key at the index is that of the percentile.
use Rattle.grid.specs.ValuesLaws.{value_number}
use Rattle.silence_levels.specs.PercentileLaws.{index_below, sorted_key, percentile_of_keys}
use lib.ListN.{length}
use Rattle.silence_levels.proofs.percentile.percentile.Goals as goal

pub select-requires : goal.select-requires
select-requires c = record { rank_in_bounds = rw c.percentile_index-rank.ensures (index_below (length c.args.keys.now) c.args.p c.requires.keys_nonzero c.requires.p_bound); first_value = c.requires.first_value }

pub value_of-requires : goal.value_of-requires
value_of-requires c =
    let l = index_below (length c.args.keys.now) c.args.p c.requires.keys_nonzero c.requires.p_bound in
    rw (c.select.ensures, c.percentile_index-rank.ensures) (value_number _ (sorted_key c.args.keys.now _ l c.requires.keys_valid))

pub returns : goal.returns
returns c =
    rw (c.value_of.ensures, c.select.ensures, c.percentile_index-rank.ensures)
    (percentile_of_keys c.args.keys.now c.args.p c.requires.keys_nonzero c.requires.p_bound (λ i. (c.type_inv.keys i).fits)
    c.requires.keys_valid)
