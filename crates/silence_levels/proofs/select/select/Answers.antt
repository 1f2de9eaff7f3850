-- `select::select`: every key is in the first table, and after three digits a block is a single number.
use Rattle.silence_levels.specs.SelectLaws.{first-total, first-within, selected}
use Rattle.std.proofs.Common.{rules}
use Rattle.silence_levels.proofs.select.select.Goals as goal

pub walk-place-requires : goal.walk-place-requires
walk-place-requires c =
    rw (c.requires.first_value, first-total c.args.keys.now (λ i. (c.type_inv.keys i).fits)) c.requires.rank_in_bounds

pub narrow-second-requires : goal.narrow-second-requires
narrow-second-requires c = record { shift_bound = search rules; rank_bound = first-within c.args.keys.now c.args.rank c.walk-place.result (rw c.requires.first_value at c.walk-place.ensures) }

pub returns : goal.returns
returns c =
    selected c.args.keys.now c.args.rank c.walk-place.result c.narrow-second.result c.narrow-last.result
    (rw c.requires.first_value at c.walk-place.ensures) c.narrow-second.ensures c.narrow-last.ensures
