-- What the fold has made of the elements so far is their test.
use Rattle.std.proofs.Common.{rules, ◌≡◌, subst}
use Rattle.std.proofs.lemmas.Fn.{fold_over, slice_gives, fronts}
use Rattle.base_terms.specs.Lists.{all_of}
use Rattle.base_code.specs.ListsLaws.{all_snoc, all_none}
use Rattle.grid.proofs.values.every.Goals as goal

pub returns : goal.returns
returns g c = λ p h. subst (λ l. c.fold.result ≡ all_of p l) c.iter.ensures.rest
    (fold_over fronts (λ y. y.now) _ (λ ys ok. ok ≡ all_of p ys) _ (λ ys a x b f' j k. let more = all_snoc p ys x.now in search (rules, h))
    _ _ _ _ (slice_gives c.iter.result) (all_none p) c.fold.ensures.ran)
