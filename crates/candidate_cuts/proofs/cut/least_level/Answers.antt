-- `cut::least_level` folds the levels of the silence as the definition does.
use Rattle.std.proofs.Common.{rules, ◌∙◌}
use mathlib.Core.Path.{refl}
use Rattle.std.specs.Prelude.{◌≡◌, false, take, drop, ◌+◌, ◌-◌}
use Rattle.std.specs.List.{fold}
use Rattle.std.specs.Float.{inf}
use Rattle.std.proofs.lemmas.Fn.{fronts, fold_over}
use Rattle.std.proofs.lemmas.Iterator.{YieldsList-from_slice}
use Rattle.base_terms.specs.Floats.{min_of}
use Rattle.candidate_cuts.specs.LeastLaws.{least_step, least_folds}
use lib.Ieee.{of_bits}
use Rattle.candidate_cuts.proofs.cut.least_level.Goals as goal

pub returns : goal.returns
unfolding of_bits
returns c =
    let part = take (c.args.end + 1 - c.args.start) (drop c.args.start c.args.levels.now) in
    fold_over fronts (λ y. y.now) _ (λ ys a. a ≡ fold min_of (inf false) ys) _ (λ ys a x b f' j k. (least_step ys a _ b j (search rules), search rules)) c.iter.result part _ _
    (YieldsList-from_slice {s = c.iter.result} part (search rules)).runs refl c.fold.ensures.ran
    ∙ least_folds c.args.levels.now c.args.start c.args.end (search rules) (search rules)
