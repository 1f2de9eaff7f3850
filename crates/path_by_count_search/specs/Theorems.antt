-- The pruned search gives the plain least: started from any candidate of a range, it finds the lowest candidate of the range whose score is least.
use Rattle.std.specs.Prelude.{◌≡◌, ℕ, ◌≤◌, ◌<◌, T, Some}
use Rattle.std.proofs.Common.{sym, subst, inl, inr, arith}
use Rattle.base_terms.specs.Floats.{nonneg}
use Rattle.path_pieces.specs.LeastLaws.{least_only}
use Rattle.path_pieces.specs.declared.score.Score.{Score}
use Rattle.path_pieces.specs.declared.best.Best.{Best}
use Rattle.path_by_count_tree.specs.Least.{every, least_in}
use Rattle.path_by_count_tree.specs.LeastLaws.{before_least}
use Rattle.path_by_count_search.specs.Visit.{FirstIn}

-- document 01's "the pruned tree search stays, and is shown to give this"
pub visit_is_least : (score : ℕ → Score) (leaves from to at : ℕ) (s : Score) (r : Best) → ((i : ℕ) → i < to → T (nonneg (score i).cost)) → from ≤ at → at < to
    → to ≤ leaves → s ≡ score at → FirstIn score 0 leaves from to (record { score = s; at = at }) r → Some r ≡ least_in score from to
visit_is_least score leaves from to at s r fine h l e q x =
    let place : (from ≤ r.at) × (r.at < to) × (r.score ≡ score r.at) = elim x.source [
      | inl d ↦ subst (λ (y : Best). (from ≤ y.at) × (y.at < to) × (y.score ≡ score y.at)) (sym d) (omega arith, omega arith, q)
      | inr f ↦ (f.first, f.last, f.is)
    ] in
    least_only every score from to r (λ k m t. fine k m)
    (before_least score from to r (λ k a b. fine k b) place.0 place.1 place.2 (λ k a b. x.all k (omega arith) (omega arith) a b))
