-- Why the pruned search finds the first: a range is left out only where its bound is not ahead of the best so far, and the bound is at most each of its scores.
-- Laws of the halves: in either order they are parts that hold the whole range, and what is the first of both is the first of the range.
use Rattle.std.specs.Prelude.{◌≡◌, refl, ◌⊎◌, Bool, false, not, List, T, Float, get_or}
use Rattle.std.proofs.Common.{sym, ap, subst, ◌∙◌, inl, inr, le_trans}
use Prim.Native.Nat.{ℕ, ◌+◌, ◌-◌, ◌≤◌, ◌<◌, max, min, ◌*◌, ◌/◌}
use native.Mathlib.Omega.{arith}
use Rattle.std.specs.Float.Ieee.Bits.{is_true, is_false}
use borrow.Author.Tests.{lt-ltb, le-ltb}
use Rattle.base_terms.specs.Floats.{nonneg}
use Rattle.base_laws.specs.Tests.{passes, lt_or_le, tested}
use Rattle.base_terms.specs.Limits.{max_len}
use Rattle.path_pieces.specs.Pieces.{at_most, score_at, less_than}
use Rattle.path_pieces.specs.declared.score.Score.{Score}
use Rattle.path_pieces.specs.declared.best.Best.{Best}
use Rattle.path_by_count_search.specs.declared.visit.Query.{Query}
use Rattle.path_by_count_tree.specs.Least.{ahead_best, Before}
use Rattle.path_pieces.specs.Least.{entry, ahead_of}
use Rattle.path_by_count_tree.specs.LeastLaws.{before_refl, before_trans, ahead_before, not_ahead-before}
use Rattle.path_by_count_search.specs.Starts.{Starts}
use Rattle.path_by_count_tree.specs.Tree.{no_leaf, Bound, Covers}
use Rattle.path_by_count_tree.specs.TreeLaws.{bound_of_lem, lower_half, upper_half}
use Rattle.path_by_count_search.specs.Bound.{bound_of}
use Rattle.path_by_count_search.specs.BoundLaws.{bound_nonneg, bound_least}
use Rattle.path_by_count_search.specs.Visit.{query_lengths, Ranged, Looks, OneOf, FirstIn, through, active_bound, outlook_of, in_order, half_at, halves_of, Halved, Part, Parts}
use Rattle.path_by_count_search.specs.declared.halves.Half.{Half}
use Rattle.path_by_count_search.specs.declared.halves.Ordered.{Ordered}

-- ---- reading a bound

-- the bound of a range in the query can be read where the node bounds the range, at the ends that the code computes
pub ranged_at : {right over : List ℕ} {cost : List Float} {q : Query} {node lo hi : ℕ} (a e : ℕ) → Looks right over cost q node lo hi → a ≡ max lo q.from
    → e ≡ min hi q.to → a < e → Ranged right over cost q.end node a e
ranged_at {right} {over} {cost} {q} {node} {lo} {hi} a e x p z h = rw (p, z) (x.ranged (omega arith))

-- ---- an outlook, as the code computes it

module _ (q : Query) (right over : List ℕ) (cost : List Float) (node lo hi : ℕ) (a e : ℕ) where
  -- no candidate lies in the query
  pub outlook_none : (b : Best) → a ≡ max lo q.from → e ≡ min hi q.to → e ≤ a → b ≡ record { score = no_leaf; at = hi }
      → b ≡ outlook_of q right over cost node lo hi
  unfolding outlook_of
  outlook_none b p z h d = let l : min hi q.to ≤ max lo q.from = omega arith in rw (le-ltb (max lo q.from) (min hi q.to) l) d

  -- some do
  pub outlook_some : (s : Score) → a ≡ max lo q.from → e ≡ min hi q.to → a < e → s ≡ bound_of (query_lengths q) right over cost q.end node a e
      → ◌≡◌ {A = Best} (record { score = s; at = a }) (outlook_of q right over cost node lo hi)
  unfolding outlook_of
  outlook_some s p z h d = let l : max lo q.from < min hi q.to = omega arith in rw (d, lt-ltb (max lo q.from) (min hi q.to) l, p, z)

module _ (q : Query) {right over : List ℕ} {cost : List Float} (s : Starts (query_lengths q) right over cost q.leaves q.to q.end) where
  -- the bound of a node can be read
  pub looks : {node lo hi : ℕ} → Bound q.leaves q.to over cost node lo hi → Looks right over cost q node lo hi
  looks {node} {lo} {hi} b = record {
    ranged = λ h. record {
      in_over = b.in_over;
      in_cost = b.in_cost;
      few = b.few;
      low = h;
      high = omega (arith, s.rights);
      rise = s.rise (max lo q.from) (min hi q.to - 1) (omega arith) (omega arith);
      behind = s.behind (min hi q.to - 1) (omega arith);
      bounded = s.bounded;
    };
  }

  -- ---- the bound of a range is at most each of its scores

  low_bound : (node lo hi i : ℕ) → Bound q.leaves q.to over cost node lo hi → lo ≤ i → i < hi → q.from ≤ i → i < q.to
      → T (nonneg (active_bound q right over cost node lo hi).cost)
      × T (at_most (active_bound q right over cost node lo hi) (through q right over cost i))
  low_bound node lo hi i b a z f t =
      let first = max lo q.from in
      let last = min hi q.to - 1 in
      let rl : get_or right first 0 ≤ get_or right i 0 = s.rise first i (omega arith) t in
      let rh : get_or right i 0 ≤ get_or right last 0 = s.rise i last (omega arith) (omega arith) in
      let e : q.end - get_or right first 0 ≤ max_len = omega (arith, s.bounded) in (
        bound_nonneg s.preferred (score_at over cost node) (q.end - get_or right last 0) (q.end - get_or right first 0) (omega arith) e b.fine,
        bound_least s.preferred (score_at over cost node) (score_at over cost (q.leaves + i)) (q.end - get_or right last 0) (q.end - get_or right i 0)
            (q.end - get_or right first 0) (omega arith) (omega arith) e b.fine (b.below i a z t),
      )

  -- ---- a range is left out: nothing of it comes before the best so far

  -- a node whose bound is not before the best so far holds none that is
  pub none_better : {node lo hi : ℕ} {best : Best} → Covers q.leaves q.to over cost node lo hi → T (nonneg best.score.cost)
      → ahead_of (outlook_of q right over cost node lo hi) best ≡ false
      → FirstIn (through q right over cost) lo hi q.from q.to best best
  none_better {node} {lo} {hi} {best} c p no_more = record {
    source = inl refl;
    under = before_refl best p;
    all = λ i a z f t.
        let x : Best = record { score = active_bound q right over cost node lo hi; at = max lo q.from } in
        let e : outlook_of q right over cost node lo hi ≡ x = sym (outlook_some q right over cost node lo hi (max lo q.from) (min hi q.to) _ refl refl (omega arith) refl) in
        let g = low_bound node lo hi i (bound_of_lem c) a z f t in
        let no : T (not (ahead_of x best)) = subst (λ (b : Bool). T (not b)) (sym no_more ∙ ap (λ (y : Best). ahead_of y best) e) tt in
        before_trans (not_ahead-before x best g.0 p no) (record { better = g.1; earlier = λ u. omega arith });
  }

-- ---- one candidate, and two ranges

module _ (score : ℕ → Score) where
  -- one candidate alone
  pub one-first : (lo hi from to : ℕ) (b r : Best) → hi ≡ lo + 1 → from ≤ lo → lo < to → T (nonneg (score lo).cost) → T (nonneg b.score.cost)
      → r ≡ ahead_best (entry score lo) b → FirstIn score lo hi from to b r
  one-first lo hi from to b r e f t p q h = subst (λ (x : Best). FirstIn score lo hi from to b x) (sym h) (elim (passes (ahead_of (entry score lo) b)) [
    | inl y ↦ rw (is_true (ahead_of (entry score lo) b) y) (record {
      source = inr (record { low = omega arith; high = omega arith; first = f; last = t; is = refl });
      under = ahead_before (entry score lo) b p q y;
      all = λ i a z g u. let k : lo ≡ i = omega arith in subst (λ (j : ℕ). Before (entry score lo) (entry score j)) k (before_refl (entry score lo) p);
    })
    | inr n ↦ rw (is_false (ahead_of (entry score lo) b) n) (record {
      source = inl refl;
      under = before_refl b q;
      all = λ i a z g u. let k : lo ≡ i = omega arith in
          subst (λ (j : ℕ). Before b (entry score j)) k (not_ahead-before (entry score lo) b p q n);
    })
  ])

  widen : {l h from to : ℕ} {r : Best} (lo hi : ℕ) → lo ≤ l → h ≤ hi → OneOf score l h from to r → OneOf score lo hi from to r
  widen lo hi a z x = record { low = le_trans a x.low; high = omega (arith, x.high); first = x.first; last = x.last; is = x.is }

  -- two ranges, one after the other, of which each candidate of lo .. hi is in one
  pub join : (l1 h1 l2 h2 lo hi from to : ℕ) (b m r : Best) → FirstIn score l1 h1 from to b m → FirstIn score l2 h2 from to m r
      → ((i : ℕ) → lo ≤ i → i < hi → ((l1 ≤ i) × (i < h1)) ⊎ ((l2 ≤ i) × (i < h2))) → lo ≤ l1 → h1 ≤ hi → lo ≤ l2 → h2 ≤ hi
      → FirstIn score lo hi from to b r
  join l1 h1 l2 h2 lo hi from to b m r p q split a1 z1 a2 z2 = record {
    source = elim q.source [
      | inr x ↦ inr (widen lo hi a2 z2 x)
      | inl e ↦ elim p.source [
        | inl d ↦ inl (e ∙ d)
        | inr x ↦ inr (subst (λ (y : Best). OneOf score lo hi from to y) (sym e) (widen lo hi a1 z1 x))
      ]
    ];
    under = before_trans q.under p.under;
    all = λ i a z f t. elim (split i a z) [
      | inl w ↦ before_trans q.under (p.all i w.0 w.1 f t)
      | inr w ↦ q.all i w.0 w.1 f t
    ];
  }

  -- ---- the candidates of a range one after the other, from `start` on

  -- none yet
  pub none_first : (start from to : ℕ) (b : Best) → T (nonneg b.score.cost) → FirstIn score start start from to b b
  none_first start from to b p = record { source = inl refl; under = before_refl b p; all = λ i a z f t. absurd (omega arith) }

  -- one more
  pub next_first : (start i from to : ℕ) (b m r : Best) → start ≤ i → from ≤ i → i < to → T (nonneg (score i).cost) → T (nonneg m.score.cost)
      → FirstIn score start i from to b m → r ≡ ahead_best (entry score i) m → FirstIn score start (i + 1) from to b r
  next_first start i from to b m r a f t p q x e =
      join start i i (i + 1) start (i + 1) from to b m r x (one-first i (i + 1) from to m r refl f t p q e)
      (λ k l u. elim (lt_or_le k i) [ inl g ↦ inl (l, g) | inr g ↦ inr (g, u) ]) (omega arith) (omega arith) a (omega arith)

  -- all that lie in the query
  pub all_first : (start stop i lo hi from to : ℕ) (b r : Best) → start ≡ max lo from → stop ≡ min hi to → stop ≤ i → i ≤ max start stop
      → FirstIn score start i from to b r → FirstIn score lo hi from to b r
  all_first start stop i lo hi from to b r p z d u x = record {
    source = elim x.source [
      | inl e ↦ inl e
      | inr f ↦ inr (record { low = omega (arith, f.low); high = omega (arith, f.low, f.high); first = f.first; last = f.last; is = f.is })
    ];
    under = x.under;
    all = λ k a y f t. x.all k (omega arith) (omega arith) f t;
  }

  -- a range that holds the query is as good as all
  pub whole-first : {lo hi from to : ℕ} {b r : Best} (leaves : ℕ) → lo ≤ from → to ≤ hi → to ≤ leaves → FirstIn score lo hi from to b r
      → FirstIn score 0 leaves from to b r
  whole-first leaves a z l x = record {
    source = elim x.source [
      | inl e ↦ inl e
      | inr f ↦ inr (record { low = omega arith; high = omega (arith, f.last); first = f.first; last = f.last; is = f.is })
    ];
    under = x.under;
    all = λ i g h f t. x.all i (omega arith) (omega arith) f t;
  }

  -- what was found is a number's score again
  pub first-nonneg : {lo hi from to : ℕ} {b r : Best} → ((i : ℕ) → i < to → T (nonneg (score i).cost)) → T (nonneg b.score.cost)
      → FirstIn score lo hi from to b r → T (nonneg r.score.cost)
  first-nonneg {lo} {hi} {from} {to} {b} {r} fine p x = elim x.source [
    | inl e ↦ subst (λ (y : Best). T (nonneg y.score.cost)) (sym e) p
    | inr f ↦ subst (λ (y : Score). T (nonneg y.cost)) (sym f.is) (fine r.at f.last)
  ]

-- what holds in both orders holds in the one that is chosen
either_order : (P : Ordered → Type 0) (lower upper : Half) → P (record { first = lower; second = upper }) → P (record { first = upper; second = lower })
    → P (in_order lower upper)
unfolding in_order
either_order P lower upper x y = elim (tested (less_than upper.outlook.score lower.outlook.score)) [ inl e ↦ rw e y | inr e ↦ rw e x ]

module _ (q : Query) {right over : List ℕ} {cost : List Float} {node lo hi : ℕ} (c : Covers q.leaves q.to over cost node lo hi) (h : 1 < hi - lo) where
  -- they can be read
  pub halved : Starts (query_lengths q) right over cost q.leaves q.to q.end → Halved right over cost q node lo hi
  halved s =
      let low = lower_half c (λ (e : hi - lo ≡ 1). omega arith) refl in
      let up = upper_half c (λ (e : hi - lo ≡ 1). omega arith) refl in
      record { some = omega arith; in_over = (bound_of_lem up).in_over; low = looks q s (bound_of_lem low); up = looks q s (bound_of_lem up) }

  -- they are parts that hold all
  pub halves_parts : {o : Ordered} → o ≡ halves_of q right over cost node lo hi → Parts q right over cost lo hi o
  halves_parts {o} e =
      let mid = lo + (hi - lo) / 2 in
      let lower : Half = half_at q right over cost (node * 2) lo mid in
      let upper : Half = half_at q right over cost (node * 2 + 1) mid hi in
      let low : Part q right over cost lo hi lower = search (arith, lower_half c (λ (e : hi - lo ≡ 1). omega arith) refl) in
      let up : Part q right over cost lo hi upper = search (arith, upper_half c (λ (e : hi - lo ≡ 1). omega arith) refl) in
      subst (λ (x : Ordered). Parts q right over cost lo hi x) (sym e) (either_order (λ (x : Ordered). Parts q right over cost lo hi x) lower upper
      (record { one = low; other = up; all = λ i a z. elim (lt_or_le i mid) [ inl l ↦ inl (a, l) | inr l ↦ inr (l, z) ] })
      (record { one = up; other = low; all = λ i a z. elim (lt_or_le i mid) [ inl l ↦ inr (a, l) | inr l ↦ inl (l, z) ] }))

module _ (q : Query) {right over : List ℕ} {cost : List Float} {lo hi : ℕ} where
  -- a part whose outlook is not ahead of the best so far has nothing better
  pub left_out : {h : Half} {best : Best} → Starts (query_lengths q) right over cost q.leaves q.to q.end → Part q right over cost lo hi h
      → T (nonneg best.score.cost) → ahead_of h.outlook best ≡ false → FirstIn (through q right over cost) h.lo h.hi q.from q.to best best
  left_out {h} {best} s p f x = none_better q s p.covers f (subst (λ (o : Best). ahead_of o best ≡ false) p.seen x)

  -- one part and then the other
  pub join_parts : {o : Ordered} (b m r : Best) → Parts q right over cost lo hi o
      → FirstIn (through q right over cost) o.first.lo o.first.hi q.from q.to b m
      → FirstIn (through q right over cost) o.second.lo o.second.hi q.from q.to m r
      → FirstIn (through q right over cost) lo hi q.from q.to b r
  join_parts {o} b m r p x y =
      join (through q right over cost) o.first.lo o.first.hi o.second.lo o.second.hi lo hi q.from q.to b m r x y p.all
      p.one.low p.one.high p.other.low p.other.high
