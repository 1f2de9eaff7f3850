-- What test 17 leaves: costs that are not negative and finite, and preferences that the length cost takes.
use Rattle.std.specs.Prelude.{◌≡◌, true, false, ◌&&◌, List, ℕ, ◌<◌, T, Float, length, get_or}
use Rattle.std.proofs.Common.{arith}
use Rattle.std.specs.Float.{nan, inf, fin}
use Rattle.std.specs.Float.Ieee.{le, lt}
use Rattle.std.specs.Float.Ieee.Scale.{finite}
use Rattle.base_laws.specs.Tests.{holds, both}
use Rattle.base_terms.specs.Floats.{nonneg}
use Rattle.base_terms.specs.Lists.{all_of}
use Rattle.base_code.specs.Elements.{all-at}
use Rattle.path_pieces.specs.Domain.{Costs, Preferred}
use Rattle.path_pieces.specs.declared.lengths.Lengths.{Lengths}
use Rattle.path_tests.specs.Costs.{is_cost, min_target, max_length, is_target, is_min, lengths_ok}

-- a cost is not negative
pub cost_nonneg : (x : Float) → is_cost x ≡ true → T (nonneg x)
unfolding is_cost
cost_nonneg x e = holds (both (nonneg x) (lt x (inf false)) e).0

-- and finite
pub cost_finite : (x : Float) → is_cost x ≡ true → T (finite x)
unfolding is_cost lt le
cost_finite nan e = holds e
cost_finite (inf true) e = holds e
cost_finite (inf false) e = holds e
cost_finite (fin s m d) e = tt

-- the costs of all cuts are of the search's domain
pub costs_all_lem : (cut : List Float) (n : ℕ) → length cut ≡ n → all_of is_cost cut ≡ true → Costs cut n
costs_all_lem cut n l e =
    record { each = l; cost_nonneg = λ (i : ℕ) (h : i < n). cost_nonneg (get_or cut i nan) (all-at is_cost cut i nan (omega arith) e) }

-- a target is from 2 ^ -40 to 2 ^ 60
target_range : (x : Float) → is_target x ≡ true → T (le min_target x) × T (le x max_length)
unfolding is_target
target_range x e = let p = both (le min_target x) (le x max_length) e in (holds p.0, holds p.1)

-- a minimum is at most 2 ^ 60
min_high : (x : Float) → is_min x ≡ true → T (le x max_length)
unfolding is_min
min_high x e = holds (both (nonneg x) (le x max_length) e).1

-- the preferences are of the search's domain
pub lengths_preferred : (l : Lengths) → lengths_ok l ≡ true → Preferred l
unfolding lengths_ok
lengths_preferred l e =
    let p = both (is_cost l.weights.target && is_cost l.weights.short && is_target l.target) (is_min l.min) e in
    let q = both (is_cost l.weights.target && is_cost l.weights.short) (is_target l.target) p.0 in
    let s = both (is_cost l.weights.target) (is_cost l.weights.short) q.0 in
    let t = target_range l.target q.1 in
    record {
      preferences = record {
        target_weight_nonneg = cost_nonneg l.weights.target s.0;
        target_weight_finite = cost_finite l.weights.target s.0;
        short_weight_nonneg = cost_nonneg l.weights.short s.1;
        short_weight_finite = cost_finite l.weights.short s.1;
        min_high = min_high l.min p.1;
        target_low = t.0;
        target_high = t.1;
      };
    }
