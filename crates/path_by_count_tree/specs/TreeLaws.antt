-- Laws of the tree: a filled tree of a row covers all its leaves from node 1, and what covering gives of a node and of its halves.
use Rattle.std.specs.Prelude.{◌≡◌, refl, ◌⊎◌, Bool, true, false, cond, not, List, ℕ, zero, suc, ◌+◌, ◌-◌, ◌*◌, ◌/◌, ◌^◌, ◌≤◌, ◌<◌, T, Float, length, get_or}
use Rattle.std.proofs.Common.{sym, ap, subst, ◌∙◌, inl, inr, mul-le-mul_left, mul_assoc, mul_comm, add-mul, zero-mul, one-mul, mul-one, zero-add, arith}
use Rattle.std.proofs.Math.Nat.{pow-suc}
use Rattle.std.specs.Float.{nan}
use Rattle.base_terms.specs.Floats.{nonneg}
use Rattle.base_laws.specs.Tests.{passes, lt_or_le, tested}
use Rattle.path_pieces.specs.Limits.{max_index}
use Rattle.path_pieces.specs.Pieces.{at_most, score_at}
use Rattle.path_pieces.specs.DomainLaws.{at_most_refl, at_most-total, at_most_trans}
use Rattle.path_pieces.specs.declared.score.Score.{Score}
use Rattle.path_by_count_tree.specs.Tree.{Power, one, twice, lesser_score, Bound, Covers}

-- ---- powers of two

-- a power of two is not 0
pub power_positive : {n : ℕ} → Power n → 0 < n
power_positive one = omega arith
power_positive (twice p e) = omega (arith, power_positive p)

-- 2 to the k is one
pub power_of : (k : ℕ) {n : ℕ} → n ≡ 2 ^ k → Power n
power_of zero e = rw e Power.one
power_of (suc k) e = twice (power_of k refl) (e ∙ pow-suc 2 k)

-- ---- the lesser of two scores

-- a property of both is one of the lesser
pub lesser_either : (P : Score → Type 0) (a b : Score) → P a → P b → P (lesser_score a b)
unfolding lesser_score
lesser_either P a b x y = elim (tested (at_most a b)) [ inl e ↦ rw e x | inr e ↦ rw e y ]

-- it is at most both
pub lesser_below : (a b : Score) → T (nonneg a.cost) → T (nonneg b.cost) → T (at_most (lesser_score a b) a) × T (at_most (lesser_score a b) b)
unfolding lesser_score
lesser_below a b p q = go (at_most a b) (passes (at_most a b)) refl
  where
    go : (t : Bool) → T (at_most a b) ⊎ T (not (at_most a b)) → t ≡ at_most a b → T (at_most (cond t a b) a) × T (at_most (cond t a b) b)
    go true s e = (at_most_refl a p, subst T e tt)
    go false s e = ((elim (at_most-total a b p q) [ inl l ↦ absurd (subst T (sym e) l) | inr g ↦ g ]), at_most_refl b q)

-- ---- what covering gives

module _ {leaves to : ℕ} {over : List ℕ} {cost : List Float} where
  -- a node that covers a range bounds it
  pub bound_of_lem : {node lo hi : ℕ} → Covers leaves to over cost node lo hi → Bound leaves to over cost node lo hi
  bound_of_lem (Covers.one e f b) = b
  bound_of_lem (Covers.two l g b x y) = b

  -- a covered range is not empty
  pub not_empty : {node lo hi : ℕ} → Covers leaves to over cost node lo hi → lo < hi
  not_empty (Covers.one e f b) = omega arith
  not_empty (Covers.two l g b x y) = omega arith

  -- a node's left child covers the lower half, up to the middle that the code computes
  pub lower_half : {node lo hi mid : ℕ} → Covers leaves to over cost node lo hi → (hi - lo ≡ 1 → ⊥) → mid ≡ lo + (hi - lo) / 2 → Covers leaves to over cost (node * 2) lo mid
  lower_half (Covers.one e f b) n m = absurd (n (omega arith))
  lower_half (Covers.two l g b x y) n m = rw m x

  -- and its right child the upper half
  pub upper_half : {node lo hi mid : ℕ} → Covers leaves to over cost node lo hi → (hi - lo ≡ 1 → ⊥) → mid ≡ lo + (hi - lo) / 2 → Covers leaves to over cost (node * 2 + 1) mid hi
  upper_half (Covers.one e f b) n m = absurd (n (omega arith))
  upper_half (Covers.two l g b x y) n m = rw m y

-- ---- a filled tree covers its leaves

above_zero : (leaves node size lo : ℕ) → 0 < leaves → node * size ≡ leaves + lo → 0 < node
above_zero leaves zero size lo p e = let z : 0 * size ≡ 0 = zero-mul size in absurd (omega arith)
above_zero leaves (suc n) size lo p e = omega arith

-- the tree's lists hold two times as many nodes as leaves, and each leaf's score is not negative
pub record Sound (leaves : ℕ) (over : List ℕ) (cost : List Float) : Type 0 where
  pub overs : leaves * 2 ≤ length over
  pub costs : leaves * 2 ≤ length cost
  pub few : (i : ℕ) → i < leaves → get_or over (leaves + i) 0 ≤ suc max_index
  pub fine : (i : ℕ) → i < leaves → T (nonneg (get_or cost (leaves + i) nan))
  pub inner : (node : ℕ) → 0 < node → node < leaves → score_at over cost node ≡ lesser_score (score_at over cost (node * 2)) (score_at over cost (node * 2 + 1))

module _ {leaves to : ℕ} {over : List ℕ} {cost : List Float} (s : Sound leaves over cost) where
  -- from the leaves up: the node bounds what both its children bound
  join : (node lo mid hi : ℕ) → 0 < node → node < leaves → Bound leaves to over cost (node * 2) lo mid → Bound leaves to over cost (node * 2 + 1) mid hi
      → Bound leaves to over cost node lo hi
  join node lo mid hi p h x y =
      let a = score_at over cost (node * 2) in
      let b = score_at over cost (node * 2 + 1) in
      let e : score_at over cost node ≡ lesser_score a b = s.inner node p h in
      let below : T (at_most (score_at over cost node) a) × T (at_most (score_at over cost node) b) =
      subst (λ (z : Score). T (at_most z a) × T (at_most z b)) (sym e) (lesser_below a b x.fine y.fine) in
      record {
        in_over = omega (arith, s.overs);
        in_cost = omega (arith, s.costs);
        few = subst (λ (z : Score). z.over ≤ suc max_index) (sym e) (lesser_either (λ (z : Score). z.over ≤ suc max_index) a b x.few y.few);
        fine = subst (λ (z : Score). T (nonneg z.cost)) (sym e) (lesser_either (λ (z : Score). T (nonneg z.cost)) a b x.fine y.fine);
        below = λ i l u t. elim (lt_or_le i mid) [
          | inl m ↦ at_most_trans (score_at over cost node) a (score_at over cost (leaves + i)) below.0 (x.below i l m t)
          | inr m ↦ at_most_trans (score_at over cost node) b (score_at over cost (leaves + i)) below.1 (y.below i m u t)
        ];
      }

  -- a leaf bounds itself
  alone : (node lo : ℕ) → lo < leaves → node ≡ leaves + lo → Bound leaves to over cost node lo (lo + 1)
  alone node lo h e = rw e (record {
    in_over = omega (arith, s.overs);
    in_cost = omega (arith, s.costs);
    few = s.few lo h;
    fine = s.fine lo h;
    below = λ i l u t. let q : lo ≡ i = omega arith in
        subst (λ (k : ℕ). T (at_most (score_at over cost (leaves + lo)) (score_at over cost (leaves + k)))) q
        (at_most_refl (score_at over cost (leaves + lo)) (s.fine lo h));
  })

  -- a node whose leaves start at lo, and all below it, from the leaves up
  covers : {size : ℕ} → Power size → (node lo : ℕ) → 0 < leaves → node * size ≡ leaves + lo → lo + size ≤ leaves → Covers leaves to over cost node lo (lo + size)
  covers Power.one node lo p e h =
      let f : node ≡ leaves + lo = sym (mul-one node) ∙ e in Covers.one refl f (alone node lo (omega arith) f)
  covers {size} (Power.twice {m} q d) node lo p e h =
      let k : node * size ≡ node * m * 2 = ap (λ (n : ℕ). node * n) d ∙ sym (mul_assoc node m 2) in
      let u : node * 2 * m ≡ node * m * 2 = mul_assoc node 2 m ∙ ap (λ (n : ℕ). node * n) (mul_comm 2 m) ∙ sym (mul_assoc node m 2) in
      let v : (node * 2 + 1) * m ≡ node * 2 * m + 1 * m = add-mul (node * 2) 1 m in
      let w : 1 * m ≡ m = one-mul m in
      let g : node * 2 ≤ node * size = mul-le-mul_left node (omega (arith, power_positive q)) in
      let mid : lo + ((lo + size) - lo) / 2 ≡ lo + m = omega arith in
      let end : lo + m + m ≡ lo + size = omega arith in
      let low : Covers leaves to over cost (node * 2) lo (lo + m) = covers q (node * 2) lo p (omega arith) (omega arith) in
      let up : Covers leaves to over cost (node * 2 + 1) (lo + m) (lo + m + m) = covers q (node * 2 + 1) (lo + m) p (omega arith) (omega arith) in
      let up' : Covers leaves to over cost (node * 2 + 1) (lo + m) (lo + size) = rw end at up in
      Covers.two {node = node} {lo = lo} {hi = lo + size} (omega (arith, power_positive q)) (omega (arith, power_positive q))
      (join node lo (lo + m) (lo + size) (above_zero leaves node size lo p e) (omega (arith, power_positive q)) (bound_of_lem low) (bound_of_lem up'))
      (rw mid low) (rw mid up')

  -- from the root: all leaves
  pub covers-all : Power leaves → Covers leaves to over cost 1 0 leaves
  covers-all p = rw zero-add at (covers p 1 0 (power_positive p) (omega (arith, one-mul leaves)) (omega arith))

-- ---- the leaves of the next row, written from the last one down

-- inner nodes and the leaves before `to` are as they were
pub record Front (leaves to : ℕ) (over₀ : List ℕ) (cost₀ : List Float) (over : List ℕ) (cost : List Float) : Type 0 where
  pub overs : length over ≡ length over₀
  pub costs : length cost ≡ length cost₀
  pub few : (i : ℕ) → i < leaves → get_or over (leaves + i) 0 ≤ suc max_index
  pub fine : (i : ℕ) → i < leaves → T (nonneg (get_or cost (leaves + i) nan))
  pub same : (k : ℕ) → k < leaves + to → score_at over cost k ≡ score_at over₀ cost₀ k

-- the nodes bound the leaves that are left
pub covers-front : {leaves to : ℕ} {over₀ over : List ℕ} {cost₀ cost : List Float} {node lo hi : ℕ} → Covers leaves leaves over₀ cost₀ node lo hi → hi ≤ leaves
    → to ≤ leaves → Front leaves to over₀ cost₀ over cost → Covers leaves to over cost node lo hi
covers-front {leaves} {to} {over₀} {over} {cost₀} {cost} {node} {lo} {hi} (Covers.one e f b) h t x =
    Covers.one e f (rw f (record {
      in_over = omega (arith, b.in_over, x.overs, f);
      in_cost = omega (arith, b.in_cost, x.costs, f);
      few = x.few lo (omega arith);
      fine = x.fine lo (omega arith);
      below = λ i l u m. let q : lo ≡ i = omega arith in
          subst (λ (k : ℕ). T (at_most (score_at over cost (leaves + lo)) (score_at over cost (leaves + k)))) q
          (at_most_refl (score_at over cost (leaves + lo)) (x.fine lo (omega arith)));
    }))
covers-front {leaves} {to} {over₀} {over} {cost₀} {cost} {node} {lo} {hi} (Covers.two l g b y z) h t x =
    Covers.two l g (record {
      in_over = omega (arith, b.in_over, x.overs);
      in_cost = omega (arith, b.in_cost, x.costs);
      few = rw (ap (λ (s : Score). s.over) (x.same node (omega arith))) b.few;
      fine = rw (ap (λ (s : Score). s.cost) (x.same node (omega arith))) b.fine;
      below = λ i a u m.
          subst (λ (s : Score). T (at_most s (score_at over cost (leaves + i)))) (sym (x.same node (omega arith)))
          (subst (λ (s : Score). T (at_most (score_at over₀ cost₀ node) s)) (sym (x.same (leaves + i) (omega arith))) (b.below i a u (omega arith)));
    }) (covers-front y (omega arith) t x) (covers-front z h t x)
