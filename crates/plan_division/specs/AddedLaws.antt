-- Points that are added at places keep the candidates a plan's, and each added cut has its candidate then: so completion leaves what demand 3 needs.
use Rattle.std.specs.Prelude.{◌≡◌, refl, Bool, true, false, cond, ℕ, ◌≤◌, ◌<◌, eqb, Float}
use Rattle.std.proofs.Common.{sym, ap, subst, arith, eqb-true, eq-eqb}
use mathlib.Core.List.Memᴰ
use mathlib.Core.List.{List, [], ◌∷◌, ◌++◌, Memᴰ}
use Rattle.candidate_span.specs.Gaps.{Cut}
use Rattle.candidate_span.specs.GapsLaws.{gaps_inside}
use Rattle.candidate_span.specs.KeptIn.{Outside, kept_of}
use Rattle.candidate_span.specs.Span.{Span, span_of}
use Rattle.candidate_points.specs.Points.{is_in}
use Rattle.division.specs.Division.{Place, boundary, gap}
use Rattle.division.specs.SpanLaws.{span_spread}
use Rattle.division.specs.PlacesLaws.{place_inside}
use Rattle.candidates.specs.declared.candidate.Candidate.{Candidate}
use Rattle.candidates.specs.declared.context.Context.{Context}
use Rattle.candidates.specs.Candidates.{candidates_of}
use Rattle.candidates.specs.Members.{is_in_lem, in_is, candidate_at}
use Rattle.candidates.specs.Sources.{dropped_of, Planned, Source, own, point}
use Rattle.candidates.specs.Found.{FoundAt, candidate_source, listed_found}
use Rattle.candidates.specs.Added.{planned-added}
use Rattle.completion_reach.specs.Cuts.{points_in}
use Rattle.plan_division.specs.Along.{ends_at}
use Rattle.plan_division.specs.Across.{HasLeft, HasCut}
use Rattle.plan_division.specs.AcrossLaws.{planned_across, place_found}
use Rattle.plan_division.specs.Added.{completed_with}

-- ---- the boundaries of cuts that are at one

points_in_lem : (cuts : List Cut) (k : Cut) → Memᴰ k cuts → k.left ≡ k.right → Memᴰ k.left (points_in cuts)
unfolding points_in
points_in_lem [] k m q = absurd (Memᴰ.not-nil m)
points_in_lem (c ∷ cuts) k (Memᴰ.head e) q =
    rw (eq-eqb c.left c.right (subst (λ (j : Cut). j.left ≡ j.right) e q)) (Memᴰ.head (ap (λ (j : Cut). j.left) e))
points_in_lem (c ∷ cuts) k (Memᴰ.tail m) q = go (eqb c.left c.right) (points_in_lem cuts k m q)
  where
    go : (b : Bool) → Memᴰ k.left (points_in cuts) → Memᴰ k.left (cond b (c.left ∷ points_in cuts) (points_in cuts))
    go true i = Memᴰ.tail i
    go false i = i

record PointOf (cuts : List Cut) (j : ℕ) : Type 0 where
  pub cut : Cut
  pub listed : Memᴰ cut cuts
  pub point : cut.left ≡ cut.right
  pub at : j ≡ cut.left

of_points : (cuts : List Cut) (j : ℕ) → Memᴰ j (points_in cuts) → PointOf cuts j
unfolding points_in
of_points [] j m = absurd (Memᴰ.not-nil m)
of_points (c ∷ cuts) j m = go (eqb c.left c.right) (eqb-true c.left c.right) m (of_points cuts j)
  where
    rest : PointOf cuts j → PointOf (c ∷ cuts) j
    rest f = record { cut = f.cut; listed = Memᴰ.tail f.listed; point = f.point; at = f.at }

    go : (b : Bool) → (b ≡ true → c.left ≡ c.right) → Memᴰ j (cond b (c.left ∷ points_in cuts) (points_in cuts)) → (Memᴰ j (points_in cuts) → PointOf cuts j)
        → PointOf (c ∷ cuts) j
    go true f (Memᴰ.head e) g = record { cut = c; listed = Memᴰ.head refl; point = f refl; at = e }
    go true f (Memᴰ.tail i) g = rest (g i)
    go false f i g = rest (g i)

-- ---- candidates with added points

module _ (x : Context) (ss runs : List ℕ) (levels : List Float) (ks : List ℕ) (added : List Cut) (first last : ℕ) (p : Planned x ss levels ks first last) where
  abbrev span : Span
  span = span_of x.gap x.padding ss

  module _ (placed : (k : Cut) → Memᴰ k added → Place span k) where
    place_clear : (k : Cut) → Place span k → k.left ≡ k.right → Outside (dropped_of x ss) k.left
    place_clear k (gap m) e = absurd (omega (arith, e, (gaps_inside x.gap x.padding ss p.prepared.spanned k m).1))
    place_clear k (boundary q m) e = (kept_of span.first span.gaps span.last k.left m).2

    -- they are a plan's
    pub planned-completed : Planned x ss levels (ks ++ points_in added) first last
    planned-completed = planned-added x ss levels ks (points_in added) first last p clear
      where
        clear : (k : ℕ) → is_in (points_in added) k ≡ true → first < k → k < last → Outside (dropped_of x ss) k
        clear k t a b =
            let f = of_points added k (is_in_lem (points_in added) k t) in
            subst (Outside (dropped_of x ss)) (sym f.at) (place_clear f.cut (placed f.cut f.listed) f.point)

    -- and each added cut has its candidate
    pub has_added : (k : Cut) → Memᴰ k added → HasLeft (completed_with x ss runs levels ks added first last) k.left
    has_added k m =
        place_found x ss runs levels (ks ++ points_in added) first last planned-completed k (placed k m)
        (λ (e : k.left ≡ k.right). in_is (ks ++ points_in added) k.left (Memᴰ.append_right ks (points_in_lem added k m e)))

    -- so has each that was one
    pub has_still : (k : Cut) → HasCut (candidates_of x ss runs levels ks first last) k → HasLeft (completed_with x ss runs levels ks added first last) k.left
    has_still k f =
        subst (λ (j : ℕ). HasLeft (completed_with x ss runs levels ks added first last) j) (ap (λ (j : Cut). j.left) f.is)
        (record { number = r.number; counted = r.counted; at = r.at })
      where
        cs : List Candidate
        cs = candidates_of x ss runs levels ks first last

        more : (c : Candidate) → Source x ss runs levels ks c → Source x ss runs levels (ks ++ points_in added) c
        more c (own i a e) = own i a e
        more c (point j t e) = point j (in_is (ks ++ points_in added) j (Memᴰ.append_left (points_in added) (is_in_lem ks j t))) e

        within : (span.first < (ends_at cs f.number).left) × ((ends_at cs f.number).left ≤ (ends_at cs f.number).right) × ((ends_at cs f.number).right < span.last)
        within =
            place_inside span (span_spread x.gap x.padding ss p.prepared.spanned) (ends_at cs f.number)
            ((planned_across x ss runs levels ks first last p).placed f.number f.after f.before)

        r : FoundAt x ss runs levels (ks ++ points_in added) first last (candidate_at cs f.number).left
        r =
            listed_found x ss runs levels (ks ++ points_in added) first last (candidate_at cs f.number)
            (more (candidate_at cs f.number) (candidate_source x ss runs levels ks first last f.number f.after f.before))
            (omega (arith, within.0, p.starts)) (omega (arith, within.1, within.2, p.stops))
