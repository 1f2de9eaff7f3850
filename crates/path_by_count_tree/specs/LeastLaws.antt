-- Laws of the lowest least where every candidate may be chosen: how it goes from a range to a longer one, and the order of candidates behind it.
use Rattle.std.specs.Prelude.{◌≡◌, refl, cond, not, ◌&&◌, ◌||◌, ℕ, ◌+◌, ◌≤◌, ◌<◌, T, ltb}
use Rattle.std.proofs.Common.{sym, subst, inl, inr, le_refl, le_trans, le_of_lt, lt_trans, arith, T_not, ltb→lt, nltb→le}
use Rattle.std.specs.Float.Ieee.Bits.{is_true, is_false}
use Rattle.std.proofs.Math.Dec.{not_T}
use Rattle.std.specs.Float.Ieee.Fits.{and_l, and_r, and_i}
use Rattle.base_terms.specs.Floats.{nonneg}
use Rattle.base_laws.specs.Tests.{passes, or_l, or_r, or_split, lt_or_le}
use Rattle.base_laws.specs.Scores.{score_eq_is, score_lt-le_trans}
use Rattle.path_pieces.specs.Pieces.{at_most, less_than, equal_to}
use Rattle.path_pieces.specs.DomainLaws.{at_most_refl, at_most_trans, less_than_is, less_at_most}
use Rattle.path_pieces.specs.declared.score.Score.{Score}
use Rattle.path_pieces.specs.declared.best.Best.{Best}
use Rattle.path_by_count_tree.specs.Least.{IsLeast, Before}
use Rattle.path_pieces.specs.Least.{entry, ahead_of}

-- ---- scores that are not negative

-- what is not at most the other is above it
pub not_at_most : (a b : Score) → T (nonneg a.cost) → T (nonneg b.cost) → T (not (at_most a b)) → T (less_than b a)
not_at_most a b p q n = rw (less_than_is b a q p) n

-- what is below the other is not at least it
pub less_not_at_least : (a b : Score) → T (nonneg a.cost) → T (nonneg b.cost) → T (less_than a b) → T (not (at_most b a))
less_not_at_least a b p q l = subst T (less_than_is a b p q) l

-- and what is not below is at least
pub not_less : (a b : Score) → T (nonneg a.cost) → T (nonneg b.cost) → T (not (less_than a b)) → T (at_most b a)
not_less a b p q n = elim (passes (at_most b a)) [ inl t ↦ t | inr t ↦ absurd (T_not (less_than a b) n (not_at_most b a q p t)) ]

-- below and then at most is below
pub less_at_most_trans : (a b c : Score) → T (less_than a b) → T (at_most b c) → T (less_than a c)
less_at_most_trans a b c h k = score_lt-le_trans a.over a.cost b.over b.cost c.over c.cost h k

-- equal scores are at most each other
pub equal_both : (a b : Score) → T (equal_to a b) → T (at_most a b) × T (at_most b a)
equal_both a b t =
    let u : T (at_most a b && at_most b a) = subst T (score_eq_is a.over a.cost b.over b.cost) t in
    (and_l (at_most a b) (at_most b a) u, and_r (at_most a b) (at_most b a) u)

-- scores that are each at most the other are equal
pub both_equal : (a b : Score) → T (at_most a b) → T (at_most b a) → T (equal_to a b)
both_equal a b p q = rw (score_eq_is a.over a.cost b.over b.cost) (and_i (at_most a b) (at_most b a) p q)

-- ---- one candidate more behind the range

module _ (score : ℕ → Score) where
  -- it is the lowest least where it is better than that of the range
  pub least_next : (from to : ℕ) (b : Best) → from ≤ to → T (nonneg (score to).cost) → T (less_than (score to) b.score) → IsLeast score from to b
      → IsLeast score from (to + 1) (entry score to)
  least_next from to b f p l (e, a) =
      let below : (k : ℕ) → from ≤ k → k < to → T (less_than (score to) (score k)) =
      λ k g h. less_at_most_trans (score to) (score b.at) (score k) (rw e at l) (a.least k g h tt) in (
        refl,
        record {
          low = f;
          high = omega arith;
          passed = tt;
          least = λ k g h t. elim (lt_or_le k to) [
            | inl m ↦ less_at_most (score to) (score k) (below k g m)
            | inr m ↦ let q : to ≡ k = omega arith in subst (λ (n : ℕ). T (at_most (score to) (score n))) q (at_most_refl (score to) p)
          ];
          lowest = λ k g h t. below k g h;
        },
      )

  -- else that of the range stays
  pub least_stays : (from to : ℕ) (b : Best) → T (at_most b.score (score to)) → IsLeast score from to b → IsLeast score from (to + 1) b
  least_stays from to b l (e, a) = (
    e,
    record {
      low = a.low;
      high = omega (arith, a.high);
      passed = tt;
      least = λ k g h t. elim (lt_or_le k to) [
        | inl m ↦ a.least k g m tt
        | inr m ↦ let q : to ≡ k = omega arith in subst (λ (n : ℕ). T (at_most (score b.at) (score n))) q (rw e at l)
      ];
      lowest = a.lowest;
    },
  )

  -- the choice between the two
  pub least_more : (from to : ℕ) (b : Best) → ((k : ℕ) → k < to + 1 → T (nonneg (score k).cost)) → IsLeast score from to b
      → IsLeast score from (to + 1) (cond (less_than (score to) b.score) (entry score to) b)
  least_more from to b fine a =
      let p : T (nonneg (score to).cost) = fine to (omega arith) in
      let q : T (nonneg b.score.cost) =
      subst (λ (s : Score). T (nonneg s.cost)) (sym a.0) (fine b.at (omega (arith, a.1.high))) in
      elim (passes (less_than (score to) b.score)) [
        | inl t ↦ rw (is_true (less_than (score to) b.score) t) (least_next from to b (omega (arith, a.1.low, a.1.high)) p t a)
        | inr t ↦ rw (is_false (less_than (score to) b.score) t)
            (least_stays from to b (not_less (score to) b.score p q t) a)
      ]

  -- one candidate alone
  pub least_one : (i : ℕ) → T (nonneg (score i).cost) → IsLeast score i (i + 1) (entry score i)
  least_one i p = (
    refl,
    record {
      low = le_refl i;
      high = omega arith;
      passed = tt;
      least = λ k g h t. let q : i ≡ k = omega arith in subst (λ (n : ℕ). T (at_most (score i) (score n))) q (at_most_refl (score i) p);
      lowest = λ k g h t. absurd (omega arith);
    },
  )

-- ---- which of two comes first

-- a candidate does not come before itself
pub before_refl : (a : Best) → T (nonneg a.score.cost) → Before a a
before_refl a p = record { better = at_most_refl a.score p; earlier = λ t. le_refl a.at }

-- where b does not come before a, nor c before b, c does not come before a
pub before_trans : {a b c : Best} → Before a b → Before b c → Before a c
before_trans {a} {b} {c} x y = record {
  better = at_most_trans a.score b.score c.score x.better y.better;
  earlier = λ t. le_trans (x.earlier (at_most_trans b.score c.score a.score y.better t))
      (y.earlier (at_most_trans c.score a.score b.score t x.better));
}

-- the one that is ahead comes first
pub ahead_before : (a b : Best) → T (nonneg a.score.cost) → T (nonneg b.score.cost) → T (ahead_of a b) → Before a b
unfolding ahead_of
ahead_before a b p q t =
    elim (or_split (less_than a.score b.score) (equal_to a.score b.score && ltb a.at b.at) t) [
      | inl l ↦ record {
        better = less_at_most a.score b.score l;
        earlier = λ u. absurd (T_not (at_most b.score a.score) (less_not_at_least a.score b.score p q l) u);
      }
      | inr e ↦ record {
        better = (equal_both a.score b.score (and_l (equal_to a.score b.score) (ltb a.at b.at) e)).0;
        earlier = λ u. le_of_lt (ltb→lt a.at b.at (and_r (equal_to a.score b.score) (ltb a.at b.at) e));
      }
    ]

-- and where a is not ahead of b, b comes first
pub not_ahead-before : (a b : Best) → T (nonneg a.score.cost) → T (nonneg b.score.cost) → T (not (ahead_of a b)) → Before b a
unfolding ahead_of
not_ahead-before a b p q t =
    let less = less_than a.score b.score in
    let level = equal_to a.score b.score in
    let lower = ltb a.at b.at in
    let g : T (at_most b.score a.score) = not_less a.score b.score p q (not_T less (λ (u : T less). T_not (less || (level && lower)) t (or_l less (level && lower) u))) in
    record {
      better = g;
      earlier = λ u. nltb→le a.at b.at (not_T lower (λ (v : T lower). T_not (less || (level && lower)) t
          (or_r less (level && lower) (and_i level lower (both_equal a.score b.score u g) v))));
    }

-- what comes before every candidate of a range, and is one of them, is the lowest least
pub before_least : (score : ℕ → Score) (from to : ℕ) (b : Best) → ((k : ℕ) → from ≤ k → k < to → T (nonneg (score k).cost))
    → from ≤ b.at → b.at < to → b.score ≡ score b.at → ((k : ℕ) → from ≤ k → k < to → Before b (entry score k)) → IsLeast score from to b
before_least score from to b fine low high is all = (
  is,
  record {
    low = low;
    high = high;
    passed = tt;
    least = λ k g h t. subst (λ (s : Score). T (at_most s (score k))) is (all k g h).better;
    lowest = λ k g h t.
        let x = all k g (lt_trans h high) in
        let p : T (nonneg (score b.at).cost) = fine b.at low high in
        not_at_most (score k) (score b.at) (fine k g (lt_trans h high)) p
        (not_T (at_most (score k) (score b.at)) (λ (u : T (at_most (score k) (score b.at))).
        let e = x.earlier (subst (λ (s : Score). T (at_most (score k) s)) (sym is) u) in omega arith));
  },
)
