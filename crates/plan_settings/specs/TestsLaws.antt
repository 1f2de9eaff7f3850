-- What test 10 leaves of the weights.
use Rattle.std.specs.Prelude.{◌≡◌, true, ◌&&◌, ◌≤◌, ◌<◌, T, ltb, leb, Float}
use Rattle.std.proofs.Common.{ltb→lt, leb→le}
use Rattle.std.specs.Float.Ieee.{le, lt}
use Rattle.std.specs.Float.Ieee.Scale.{finite}
use Rattle.base_laws.specs.Tests.{holds, both}
use Rattle.base_laws.specs.Order.{float_lt-le}
use Rattle.base_terms.specs.Floats.{nought, nonneg}
use Rattle.grid.specs.Limits.{max_duration}
use Rattle.grid.specs.Values.{is_finite}
use Rattle.grid.specs.ValuesLaws.{value_finite}
use Rattle.plan_settings.specs.Tests.{is_weight, is_cut_cost, is_reference, weights_ok}
use Rattle.path_pieces.specs.declared.weights.Weights.{Weights}

-- finite, and not negative
pub record Weight (x : Float) : Type 0 where
  pub bounded : T (finite x)
  pub not_below : T (nonneg x)

-- the weights of a plan, after test 10
pub record Weighed (w : Weights) : Type 0 where
  pub cut_cost_lem : Weight w.cut
  pub cut_above : T (lt nought w.cut)
  pub level_weight : Weight w.level
  pub pause_weight : Weight w.pause
  pub target_weight : Weight w.target
  pub short_weight : Weight w.short
  pub some : 0 < w.pause_ref
  pub most : w.pause_ref ≤ max_duration

weight : (x : Float) → is_weight x ≡ true → Weight x
unfolding is_weight
weight x e = let p = both (is_finite x) (le nought x) e in record { bounded = value_finite x p.0; not_below = holds p.1 }

cut_weight : (x : Float) → is_cut_cost x ≡ true → Weight x × T (lt nought x)
unfolding is_cut_cost
cut_weight x e =
    let p = both (is_finite x) (lt nought x) e in
    (record { bounded = value_finite x p.0; not_below = float_lt-le nought x (holds p.1) }, holds p.1)

-- weights that pass test 10 are so
pub weights_parts : (w : Weights) → weights_ok w ≡ true → Weighed w
unfolding weights_ok is_reference
weights_parts w e =
    let l = is_weight w.level in
    let p = is_weight w.pause in
    let t = is_weight w.target in
    let s = is_weight w.short in
    let c = is_cut_cost w.cut in
    let r = is_reference w.pause_ref in
    let a5 = both (l && p && t && s && c) r e in
    let a4 = both (l && p && t && s) c a5.0 in
    let a3 = both (l && p && t) s a4.0 in
    let a2 = both (l && p) t a3.0 in
    let a1 = both l p a2.0 in
    let q = both (ltb 0 w.pause_ref) (leb w.pause_ref max_duration) a5.1 in
    record {
      cut_cost_lem = (cut_weight w.cut a4.1).0;
      cut_above = (cut_weight w.cut a4.1).1;
      level_weight = weight w.level a1.0;
      pause_weight = weight w.pause a1.1;
      target_weight = weight w.target a2.1;
      short_weight = weight w.short a3.1;
      some = ltb→lt 0 w.pause_ref (holds q.0);
      most = leb→le w.pause_ref max_duration (holds q.1);
    }
