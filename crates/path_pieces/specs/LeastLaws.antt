-- Laws of the lowest least: how it goes from a range to a longer one, that it looks at nothing outside its range, and that it is what its name says.
use Rattle.std.specs.Prelude.{◌≡◌, ◌⊎◌, Bool, not, T, Option, Some, None}
use Rattle.std.proofs.Math.Path.{refl}
use Rattle.std.proofs.Common.{sym, ap, subst, ◌∙◌, le_refl, T_not}
use Rattle.std.proofs.Math.Logic.{inl, inr}
use Prim.Native.Nat.{ℕ, zero, suc, ◌+◌, ◌-◌, ◌≤◌, ◌<◌}
use native.Mathlib.Omega.{arith}
use Rattle.std.specs.Float.Ieee.Bits.{is_true, is_false}
use Rattle.base_terms.specs.Floats.{nonneg}
use Rattle.base_laws.specs.Tests.{passes, tested, lt_or_le}
use Rattle.base_laws.specs.Scores.{score_lt-le_trans, score_le-lt_trans}
use Rattle.path_pieces.specs.Pieces.{at_most, less_than}
use Rattle.path_pieces.specs.DomainLaws.{at_most_refl, at_most_trans, at_most-total, less_than_is}
use Rattle.path_pieces.specs.declared.score.Score.{Score}
use Rattle.path_pieces.specs.declared.best.Best.{Best}
use Rattle.path_pieces.specs.Least.{found_score, found_index, or_better, entry, lowest_least, LowestLeast, Answers, BestSoFar}

-- ---- from a range to a longer one

module _ (test : ℕ → Bool) (score : ℕ → Score) where
  -- the range is empty
  pub least_none : (i : ℕ) → None ≡ lowest_least test score i (i - i)
  unfolding lowest_least
  least_none i = let e : i - i ≡ 0 = omega arith in rw e

  step-eq : (i j : ℕ) → i < j → lowest_least test score i (j - i) ≡ lowest_least test score i (suc (j - suc i))
  step-eq i j h = let e : j - i ≡ suc (j - suc i) = omega arith in rw e

  -- one candidate more in front, which passes
  pub least_front : (i j : ℕ) → i < j → T (test i)
      → lowest_least test score i (j - i) ≡ or_better (entry score i) (lowest_least test score (suc i) (j - suc i))
  unfolding lowest_least
  least_front i j h t =
      let after = lowest_least test score (suc i) (j - suc i) in
      step-eq i j h ∙ rw (is_true (test i) t)

  -- one that does not
  pub least_past : (i j : ℕ) → i < j → T (not (test i)) → lowest_least test score i (j - i) ≡ lowest_least test score (suc i) (j - suc i)
  unfolding lowest_least
  least_past i j h t =
      let after = lowest_least test score (suc i) (j - suc i) in
      step-eq i j h ∙ rw (is_false (test i) t)

  -- any number of them
  pub least_skip : (from i j : ℕ) → from ≤ i → i ≤ j → ((k : ℕ) → from ≤ k → k < i → T (not (test k)))
      → lowest_least test score from (j - from) ≡ lowest_least test score i (j - i)
  least_skip from i j h g fails = go (i - from) from (omega arith) fails
    where
      go : (d from : ℕ) → from + d ≡ i → ((k : ℕ) → from ≤ k → k < i → T (not (test k)))
          → lowest_least test score from (j - from) ≡ lowest_least test score i (j - i)
      go zero from e fails = let q : from ≡ i = omega arith in rw q
      go (suc d) from e fails =
          least_past from j (omega arith) (fails from (le_refl from) (omega arith))
          ∙ go d (suc from) (omega arith) (λ k a b. fails k (omega arith) b)

  -- any number of candidates in front that are worse than what was found
  pub least_worse : (from i j : ℕ) (b : Best) → from ≤ i → i ≤ j → Some b ≡ lowest_least test score i (j - i)
      → ((k : ℕ) → from ≤ k → k < i → T (not (at_most (score k) b.score))) → Some b ≡ lowest_least test score from (j - from)
  least_worse from i j b h g found worse = go (i - from) from (omega arith) worse
    where
      go : (d from : ℕ) → from + d ≡ i → ((k : ℕ) → from ≤ k → k < i → T (not (at_most (score k) b.score))) → Some b ≡ lowest_least test score from (j - from)
      go zero from e worse = let q : from ≡ i = omega arith in rw q found
      go (suc d) from e worse =
          let after = go d (suc from) (omega arith) (λ k a l. worse k (omega arith) l) in
          elim (passes (test from)) [
            | inl t ↦
                sym (least_front from j (omega arith) t ∙ rw (← after, is_false (at_most (score from) b.score) (worse from (le_refl from) (omega arith))))
            | inr t ↦ after ∙ sym (least_past from j (omega arith) t)
          ]

-- nothing is found only where none passes
never : (f : Option Best) (a : Best) → or_better a f ≡ None → ⊥
never None a e = let z : ◌≡◌ {A = ℕ} 0 1 = cc in omega arith
never (Some b) a e = elim (tested (at_most a.score b.score)) [
  | inl t ↦ let z : ◌≡◌ {A = ℕ} 0 1 = cc (rw t at e) in omega arith
  | inr t ↦ let z : ◌≡◌ {A = ℕ} 0 1 = cc (rw t at e) in omega arith
]

-- where nothing is found, no candidate passes
pub least_nothing : (test : ℕ → Bool) (score : ℕ → Score) (from j : ℕ) → lowest_least test score from (j - from) ≡ None
    → (k : ℕ) → from ≤ k → k < j → T (not (test k))
unfolding lowest_least
least_nothing test score from j e k h g = go (j - from) from e h (omega arith)
  where
    go : (n from : ℕ) → lowest_least test score from n ≡ None → from ≤ k → k < from + n → T (not (test k))
    go zero from e h g = absurd (omega arith)
    go (suc n) from e h g =
        let after = lowest_least test score (suc from) n in
        elim (passes (test from)) [
          | inl t ↦ absurd (never after (entry score from) (rw (is_true (test from) t) at e))
          | inr t ↦ elim (lt_or_le from k) [
            | inl l ↦ go n (suc from) (rw (is_false (test from) t) at e) l (omega arith)
            | inr m ↦ let q : from ≡ k = omega arith in subst (λ (i : ℕ). T (not (test i))) q t
          ]
        ]

-- ---- walking back from j to `from`, as a loop does

module _ (test : ℕ → Bool) (score : ℕ → Score) (from j : ℕ) where
  -- no candidate yet
  pub so_far_start : BestSoFar test score from j None j
  so_far_start = (le_refl j, omega arith, least_none test score j)

  -- the candidate before i passes
  pub so_far_next : (best : Option Best) (i : ℕ) → from < i → T (test (i - 1)) → BestSoFar test score from j best i
      → BestSoFar test score from j (or_better (entry score (i - 1)) best) (i - 1)
  so_far_next best i h t (a, b, e) =
      let s : suc (i - 1) ≡ i = omega arith in
      (omega arith, omega arith, rw e (sym (rw s at (least_front test score (i - 1) j (omega arith) t))))

  -- no candidate before i passes
  pub so_far_stop : (best : Option Best) (i : ℕ) → from < i → ((k : ℕ) → k < i → T (not (test k))) → BestSoFar test score from j best i
      → best ≡ lowest_least test score from (j - from)
  so_far_stop best i h fails (a, b, e) =
      e ∙ sym (least_skip test score from i j (omega arith) a (λ k g l. fails k l))

  -- no candidate is left
  pub so_far_done : (best : Option Best) (i : ℕ) → i ≤ from → BestSoFar test score from j best i → best ≡ lowest_least test score from (j - from)
  unfolding lowest_least
  so_far_done best i h (a, b, e) =
      let empty : (i : ℕ) → lowest_least test score i 0 ≡ lowest_least test score from 0 = λ i. refl in
      elim (lt_or_le j from) [
        | inl l ↦ let q : j - i ≡ j - from = omega arith in let z : j - from ≡ 0 = omega arith in e ∙ rw q (rw z (empty i))
        | inr g ↦ let q : i ≡ from = omega arith in e ∙ rw q
      ]

-- ---- it looks at nothing outside its range

-- it looks at the tests and scores of the range alone
pub least_same : (test test' : ℕ → Bool) (score score' : ℕ → Score) (from j : ℕ) → ((k : ℕ) → from ≤ k → k < j → test k ≡ test' k)
    → ((k : ℕ) → from ≤ k → k < j → score k ≡ score' k) → lowest_least test score from (j - from) ≡ lowest_least test' score' from (j - from)
unfolding lowest_least
least_same test test' score score' from j f g = go (j - from) from (omega arith) f g
  where
    go : (n from : ℕ) → n ≡ j - from → ((k : ℕ) → from ≤ k → k < j → test k ≡ test' k) → ((k : ℕ) → from ≤ k → k < j → score k ≡ score' k)
        → lowest_least test score from n ≡ lowest_least test' score' from n
    go zero from e f g = refl
    go (suc n) from e f g =
        rw (
          f from (le_refl from) (omega arith),
          g from (le_refl from) (omega arith),
          go n (suc from) (omega arith) (λ k a b. f k (omega arith) b) (λ k a b. g k (omega arith) b),
        )

-- ---- it is the lowest, and the least

module _ (test : ℕ → Bool) (score : ℕ → Score) (to : ℕ) where
  from_or_after : (from k : ℕ) → from ≤ k → (from ≡ k) ⊎ (suc from ≤ k)
  from_or_after from k h = elim (lt_or_le from k) [ inl l ↦ inr l | inr g ↦ inl (omega arith) ]

  -- a candidate in front that does not pass changes nothing
  past : (from : ℕ) (f : Option Best) → T (not (test from)) → Answers test score (suc from) to f → Answers test score from to f
  past from None t a = λ k h g. elim (from_or_after from k h) [ inl e ↦ subst (λ (n : ℕ). T (not (test n))) e t | inr l ↦ a k l g ]
  past from (Some b) t (e, a) = (
    e,
    record {
      low = omega arith;
      high = a.high;
      passed = a.passed;
      least = λ k h g u. elim (from_or_after from k h) [
        | inl q ↦ absurd (T_not (test k) (subst (λ (n : ℕ). T (not (test n))) q t) u)
        | inr l ↦ a.least k l g u
      ];
      lowest = λ k h g u. elim (from_or_after from k h) [
        | inl q ↦ absurd (T_not (test k) (subst (λ (n : ℕ). T (not (test n))) q t) u)
        | inr l ↦ a.lowest k l g u
      ];
    },
  )

  module _ (fine : (k : ℕ) → k < to → T (test k) → T (nonneg (score k).cost)) where
    -- a candidate in front that passes is the answer where it is as good as the one after it
    front-best : (from : ℕ) → from < to → T (test from)
        → ((k : ℕ) → suc from ≤ k → k < to → T (test k) → T (at_most (score from) (score k))) → LowestLeast test score from to from
    front-best from h t a = record {
      low = le_refl from;
      high = h;
      passed = t;
      least = λ k g l u. elim (from_or_after from k g) [
        | inl e ↦ subst (λ (n : ℕ). T (at_most (score from) (score n))) e (at_most_refl (score from) (fine from h t))
        | inr m ↦ a k m l u
      ];
      lowest = λ k g l u. absurd (omega arith);
    }

    -- else the one after it stays
    after-best : (from i : ℕ) → from < to → T (test from) → T (not (at_most (score from) (score i))) → LowestLeast test score (suc from) to i
        → LowestLeast test score from to i
    after-best from i h t n a =
        let p = fine from h t in
        let q = fine i a.high a.passed in
        let better : T (less_than (score i) (score from)) = rw (less_than_is (score i) (score from) q p) n in
        let good : T (at_most (score i) (score from)) = elim (at_most-total (score i) (score from) q p) [
          | inl l ↦ l
          | inr g ↦ absurd (T_not (at_most (score from) (score i)) n g)
        ] in
        record {
          low = omega arith;
          high = a.high;
          passed = a.passed;
          least = λ k g l u. elim (from_or_after from k g) [
            | inl e ↦ subst (λ (m : ℕ). T (at_most (score i) (score m))) e good
            | inr m ↦ a.least k m l u
          ];
          lowest = λ k g l u. elim (from_or_after from k g) [
            | inl e ↦ subst (λ (m : ℕ). T (less_than (score i) (score m))) e better
            | inr m ↦ a.lowest k m l u
          ];
        }

    front : (from : ℕ) (f : Option Best) → from < to → T (test from) → Answers test score (suc from) to f
        → Answers test score from to (or_better (entry score from) f)
    front from None h t a = (refl, front-best from h t (λ k g l u. absurd (T_not (test k) (a k g l) u)))
    front from (Some b) h t (e, a) = elim (passes (at_most (score from) b.score)) [
      | inl y ↦ rw (is_true (at_most (score from) b.score) y)
          (refl, front-best from h t (λ k g l u. at_most_trans (score from) (score b.at) (score k) (rw e at y) (a.least k g l u)))
      | inr n ↦ rw (is_false (at_most (score from) b.score) n) (e, after-best from b.at h t (rw e at n) a)
    ]

    -- the definition gives the lowest candidate of the least score, and nothing only where none passes
    pub least_answers : (from : ℕ) → from ≤ to → Answers test score from to (lowest_least test score from (to - from))
    unfolding lowest_least
    least_answers from h = go (to - from) from (omega arith)
      where
        go : (n from : ℕ) → from + n ≡ to → Answers test score from to (lowest_least test score from n)
        go zero from e = λ k g l. absurd (omega arith)
        go (suc n) from e =
            let after = lowest_least test score (suc from) n in
            let a : Answers test score (suc from) to after = go n (suc from) (omega arith) in
            elim (passes (test from)) [
              | inl t ↦ rw (is_true (test from) t) (front from after (omega arith) t a)
              | inr t ↦ rw (is_false (test from) t) (past from after t a)
            ]

-- what is found where some candidate passes
pub least_settled : (test : ℕ → Bool) (score : ℕ → Score) (from to i : ℕ) (f : Option Best) → from ≤ i → i < to → T (test i) → Answers test score from to f
    → (found_score f ≡ score (found_index f)) × LowestLeast test score from to (found_index f)
least_settled test score from to i None g h t a = absurd (T_not (test i) (a i g h) t)
least_settled test score from to i (Some b) g h t a = a

-- ---- there is one only

-- there is only one such candidate
pub lowest_unique : {test : ℕ → Bool} {score : ℕ → Score} {from to : ℕ} (i k : ℕ) → T (nonneg (score i).cost) → T (nonneg (score k).cost)
    → LowestLeast test score from to i → LowestLeast test score from to k → i ≡ k
lowest_unique {test} {score} i k p q a b = elim (lt_or_le i k) [
  | inl l ↦ absurd (beaten i k p q (b.lowest i a.low l a.passed) (a.least k b.low b.high b.passed))
  | inr g ↦ elim (lt_or_le k i) [
    | inl l ↦ absurd (beaten k i q p (a.lowest k b.low l b.passed) (b.least i a.low a.high a.passed))
    | inr h ↦ omega arith
  ]
]
  where
    beaten : (i k : ℕ) → T (nonneg (score i).cost) → T (nonneg (score k).cost) → T (less_than (score k) (score i)) → T (at_most (score i) (score k)) → ⊥
    beaten i k p q l m = T_not (at_most (score i) (score k)) (rw (less_than_is (score k) (score i) q p) at l) m

-- scores that are equal in order choose the same
pub lowest_same : {test : ℕ → Bool} {score score' : ℕ → Score} {from to i : ℕ}
    → ((k : ℕ) → from ≤ k → k < to → T (at_most (score k) (score' k))) → ((k : ℕ) → from ≤ k → k < to → T (at_most (score' k) (score k)))
    → LowestLeast test score from to i → LowestLeast test score' from to i
lowest_same {test} {score} {score'} {from} {to} {i} up down c = record {
  low = c.low;
  high = c.high;
  passed = c.passed;
  least = λ k h m t.
      at_most_trans (score' i) (score i) (score' k) (down i c.low c.high) (at_most_trans (score i) (score k) (score' k) (c.least k h m t) (up k h m));
  lowest = λ k h m t.
      score_le-lt_trans (score' i).over (score' i).cost (score i).over (score i).cost (score' k).over (score' k).cost (down i c.low c.high)
      (score_lt-le_trans (score i).over (score i).cost (score k).over (score k).cost (score' k).over (score' k).cost (c.lowest k h m t)
      (up k h (omega (arith, c.high))));
}

-- so a candidate that is the lowest least is what the definition finds
pub least_only : (test : ℕ → Bool) (score : ℕ → Score) (from to : ℕ) (b : Best) → ((k : ℕ) → k < to → T (test k) → T (nonneg (score k).cost))
    → Answers test score from to (Some b) → Some b ≡ lowest_least test score from (to - from)
least_only test score from to b fine a =
    let h : from ≤ to = omega (arith, a.1.low, a.1.high) in
    go (lowest_least test score from (to - from)) (least_answers test score to fine from h)
  where
    go : (f : Option Best) → Answers test score from to f → Some b ≡ f
    go None none = absurd (T_not (test b.at) (none b.at a.1.low a.1.high) a.1.passed)
    go (Some d) (e, c) =
        let q : b.at ≡ d.at = lowest_unique b.at d.at (fine b.at a.1.high a.1.passed) (fine d.at c.high c.passed) a.1 c in
        ap (λ (x : Score). Some (record { score = x; at = b.at })) (a.0 ∙ ap score q ∙ sym e) ∙ ap (λ (k : ℕ). Some (record { score = d.score; at = k })) q
