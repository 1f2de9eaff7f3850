-- `select::narrow`: the digit's block is one that a key falls in, so its number is no higher than a key can be.
use Rattle.silence_levels.specs.SelectLaws.{narrowed_small, counts_total, narrowed}
use Rattle.std.proofs.Common.{arith}
use Prim.Native.Nat.{◌+◌, ◌*◌, ◌<◌}
use Rattle.silence_levels.proofs.select.narrow.Goals as goal

pub walk-place-requires : goal.walk-place-requires
walk-place-requires c =
    rw (c.histogram.ensures, counts_total c.args.keys.now c.args.shift c.args.block.prefix) c.requires.rank_bound

pub overflow_mul-result : goal.overflow_mul-result
overflow_mul-result c =
    let l : c.args.block.prefix * 2048 + c.walk-place.result.digit < 4294967296 =
    narrowed_small c.args.keys.now c.args.shift 4294967296 c.args.block.prefix c.args.block.rank c.walk-place.result (λ i. (c.type_inv.keys i).fits) (rw c.histogram.ensures at c.walk-place.ensures) in
    omega arith

pub overflow_add-result : goal.overflow_add-result
overflow_add-result c =
    let l : c.args.block.prefix * 2048 + c.walk-place.result.digit < 4294967296 =
    narrowed_small c.args.keys.now c.args.shift 4294967296 c.args.block.prefix c.args.block.rank c.walk-place.result (λ i. (c.type_inv.keys i).fits) (rw c.histogram.ensures at c.walk-place.ensures) in
    omega arith

pub returns : goal.returns
returns c =
    narrowed c.args.keys.now c.args.shift c.args.block c.walk-place.result (rw c.histogram.ensures at c.walk-place.ensures)
