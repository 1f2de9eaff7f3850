-- `select::histogram` counts one key after another, with 0 for those of another prefix; no count passes the number of keys.
use Rattle.silence_levels.specs.SelectLaws.{counted_starts, counted_adds, counted_small, counted_done, one_at_most}
use Rattle.std.proofs.Common.{rules, arith, refl, ◌≡◌, cond, eqb}
use Prim.Native.Nat.{◌/◌, ◌%◌, ◌^◌, ◌≤◌}
use lib.ListN.{length, get_or}
use Rattle.silence_levels.proofs.select.histogram.Goals as goal

pub loop-key-init : goal.loop-key-init
loop-key-init c = counted_starts c.args.keys.now c.args.shift c.args.prefix _ refl

pub overflow_add-counts : goal.overflow_add-counts
overflow_add-counts c =
    let at = c.loop-key.key-index in
    let l = counted_small c.args.keys.now c.args.shift c.args.prefix (length c.args.keys.now) c.loop-key.counts at (get_or c.args.keys.now at 0 / 2 ^ c.args.shift % 2048) (omega arith) (search rules) c.loop-key.invariant in
    let e : c.from.result ≡ cond (eqb (get_or c.args.keys.now at 0 / 2 ^ c.args.shift / 2048) c.args.prefix) 1 0 = search rules in
    let m : c.from.result ≤ 1 = rw e (one_at_most (eqb (get_or c.args.keys.now at 0 / 2 ^ c.args.shift / 2048) c.args.prefix)) in
    omega arith

pub loop-key-preserved : goal.loop-key-preserved
loop-key-preserved c =
    let at = c.loop-key.key-index in
    let e : c.from.result ≡ cond (eqb (get_or c.args.keys.now at 0 / 2 ^ c.args.shift / 2048) c.args.prefix) 1 0 = search rules in
    counted_adds _ _ _ _ _ _ _ (search rules) e c.loop-key.invariant

pub returns : goal.returns
returns c = counted_done _ _ _ _ _ _ (search rules) c.loop-key.invariant
