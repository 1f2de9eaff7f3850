-- `tree::pad_leaves` fills a part of each list; what stands beside it stays.
use Rattle.std.proofs.Common.{◌≡◌, take, drop, ◌-◌, suc, length, replicate, rules}
use Rattle.path_pieces.specs.Limits.{max_index}
use lib.Ieee.{binary64, of_bits}
use Rattle.path_by_count_tree.specs.FillLaws.{padded_by}
use Rattle.path_by_count_tree.proofs.tree.pad_leaves.Goals as goal

pub returns : goal.returns
returns c =
    let n = c.args.to - c.args.from in
    let over : c.fill.new.self ≡ replicate (length (take n (drop c.args.from c.args.tree_over.now))) (suc max_index) = search rules in
    let cost : c.fill-2.new.self ≡ replicate (length (take n (drop c.args.from c.args.tree_cost.now))) (of_bits binary64 0) = search rules in
    padded_by c.args.from c.args.to c.requires.from_le_to c.requires.over_in_bounds c.requires.cost_in_bounds over cost
