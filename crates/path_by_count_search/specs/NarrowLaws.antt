-- Laws of the place at which the search starts: a half that holds the query is a place too, and a shorter one.
use Rattle.std.specs.Prelude.{◌≡◌, refl, List, ℕ, ◌+◌, ◌-◌, ◌*◌, ◌≤◌, ◌<◌, Float, length}
use Rattle.std.proofs.Common.{sym, subst, inl, inr, arith}
use borrow.Author.Tests.{lt-ltb, le-ltb}
use Rattle.base_laws.specs.Tests.{lt_or_le}
use Rattle.path_by_count_search.specs.declared.narrow.Place.{Place}
use Rattle.path_by_count_tree.specs.Tree.{Covers}
use Rattle.path_by_count_tree.specs.TreeLaws.{bound_of_lem, not_empty, lower_half, upper_half}
use Rattle.path_by_count_search.specs.Narrow.{middle_of, lower_of, upper_of, narrower_of, Encloses}

-- ---- which place it is

module _ (p : Place) (from to : ℕ) where
  -- what is sought lies in the lower half
  pub narrower_lower : to ≤ middle_of p → lower_of p ≡ narrower_of p from to
  unfolding narrower_of
  narrower_lower h = rw (le-ltb (middle_of p) to h)

  -- in the upper half
  pub narrower_upper : middle_of p < to → middle_of p ≤ from → upper_of p ≡ narrower_of p from to
  unfolding narrower_of
  narrower_upper h g = rw (lt-ltb (middle_of p) to h, le-ltb from (middle_of p) g)

  -- in both
  pub narrower_same : middle_of p < to → from < middle_of p → p ≡ narrower_of p from to
  unfolding narrower_of
  narrower_same h g = rw (lt-ltb (middle_of p) to h, lt-ltb from (middle_of p) g)

  -- one of the three
  by_place : (P : Place → Type 0) → (to ≤ middle_of p → P (lower_of p)) → (middle_of p ≤ from → P (upper_of p)) → P p → P (narrower_of p from to)
  by_place P x y z = elim (lt_or_le (middle_of p) to) [
    | inr h ↦ subst P (narrower_lower h) (x h)
    | inl h ↦ elim (lt_or_le from (middle_of p)) [
      | inl g ↦ subst P (narrower_same h g) z
      | inr g ↦ subst P (narrower_upper h g) (y g)
    ]
  ]

  -- another one is shorter
  pub narrower_shorter : {r : Place} → 1 < p.hi - p.lo → r ≡ narrower_of p from to → (r.node ≡ p.node → ⊥) → r.hi - r.lo < p.hi - p.lo
  narrower_shorter {r} h e n =
      subst (λ (x : Place). (x.node ≡ p.node → ⊥) → x.hi - x.lo < p.hi - p.lo) (sym e)
      (by_place (λ (x : Place). (x.node ≡ p.node → ⊥) → x.hi - x.lo < p.hi - p.lo) (λ g m. omega arith) (λ g m. omega arith) (λ m. absurd (m refl))) n

-- ---- it encloses the query

module _ {leaves : ℕ} {over : List ℕ} {cost : List Float} {from to : ℕ} where
  -- all leaves do
  pub encloses_root : Covers leaves to over cost 1 0 leaves → to ≤ leaves → Encloses leaves over cost from to (record { node = 1; lo = 0; hi = leaves })
  encloses_root c h = record { covers = c; low = omega arith; high = h }

  module _ {p : Place} (x : Encloses leaves over cost from to p) where
    -- a place that encloses something is not empty
    pub encloses_some : p.lo < p.hi
    encloses_some = not_empty x.covers

    -- its children are nodes of the tree
    pub encloses_nodes : 1 < p.hi - p.lo → p.node * 2 + 1 < length over
    encloses_nodes h = (bound_of_lem (upper_half x.covers (λ (e : p.hi - p.lo ≡ 1). omega arith) refl)).in_over

    -- and so does the half that holds it
    pub encloses_narrower : {r : Place} → 1 < p.hi - p.lo → r ≡ narrower_of p from to → Encloses leaves over cost from to r
    encloses_narrower {r} h e = rw e (by_place p from to (λ (y : Place). Encloses leaves over cost from to y)
        (λ g. record { covers = lower_half x.covers (λ (e : p.hi - p.lo ≡ 1). omega arith) refl; low = x.low; high = g })
        (λ g. record { covers = upper_half x.covers (λ (e : p.hi - p.lo ≡ 1). omega arith) refl; low = g; high = x.high }) x)
