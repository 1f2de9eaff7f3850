-- The tree while it is filled: the leaves after the row padded, the nodes linked from the leaves up.
use Rattle.std.specs.Prelude.{◌≡◌, refl, List, ℕ, suc, ◌+◌, ◌*◌, ◌≤◌, ◌<◌, Float, length, set}
use Rattle.std.proofs.Common.{◌∙◌, inl, inr, arith, get_or-set_same, get_or-set_other}
use Rattle.std.specs.Float.{nan, binary64}
use Rattle.std.specs.Float.Ieee.{of_bits}
use Rattle.base_laws.specs.Tests.{lt_or_le}
use Rattle.path_pieces.specs.Limits.{max_index}
use Rattle.path_pieces.specs.declared.score.Score.{Score}
use Rattle.path_pieces.specs.Pieces.{score_at}
use Rattle.path_by_count_tree.specs.Tree.{lesser_score, no_leaf}

-- ---- a score written to two lists

module _ (over : List ℕ) (cost : List Float) (i : ℕ) (s : Score) where
  -- it stands there
  pub written : i < length over → i < length cost → score_at (set over i s.over) (set cost i s.cost) i ≡ s
  written h k = rw (get_or-set_same over i s.over 0 h, get_or-set_same cost i s.cost nan k)

  -- the others stay
  pub kept : (j : ℕ) → (j ≡ i → ⊥) → score_at (set over i s.over) (set cost i s.cost) j ≡ score_at over cost j
  kept j n = rw (get_or-set_other over i j s.over 0 n, get_or-set_other cost i j s.cost nan n)

-- ---- the leaves after the row, up to node i

-- no leaf from `from` to i has a score, and the rest of the lists is as it was
pub record Padded (over₀ : List ℕ) (cost₀ : List Float) (from : ℕ) (over : List ℕ) (cost : List Float) (i : ℕ) : Type 0 where
  pub beyond : (k : ℕ) → from ≤ k → k < i → score_at over cost k ≡ no_leaf
  pub before : (k : ℕ) → k < from → score_at over cost k ≡ score_at over₀ cost₀ k
  pub after : (k : ℕ) → i ≤ k → score_at over cost k ≡ score_at over₀ cost₀ k

-- ---- the nodes linked, from `leaves` down to node i

-- each node from i on, below the leaves, has the lesser score of its two children; the leaves are as they were
pub record Linked (over₀ : List ℕ) (cost₀ : List Float) (leaves : ℕ) (over : List ℕ) (cost : List Float) (i : ℕ) : Type 0 where
  pub inner : (node : ℕ) → 0 < node → i ≤ node → node < leaves
      → score_at over cost node ≡ lesser_score (score_at over cost (node * 2)) (score_at over cost (node * 2 + 1))
  pub after : (k : ℕ) → leaves ≤ k → score_at over cost k ≡ score_at over₀ cost₀ k

module _ {over₀ : List ℕ} {cost₀ : List Float} {leaves : ℕ} where
  -- before the first node
  pub linked_none : Linked over₀ cost₀ leaves over₀ cost₀ leaves
  linked_none = record { inner = λ node p a b. absurd (omega arith); after = λ k h. refl }

  -- one node more
  pub linked_next : {over : List ℕ} {cost : List Float} {i n : ℕ} (s : Score) → n ≡ i + 1 → 0 < i → i < leaves → i < length over → i < length cost
      → s ≡ lesser_score (score_at over cost (i * 2)) (score_at over cost (i * 2 + 1))
      → Linked over₀ cost₀ leaves over cost n → Linked over₀ cost₀ leaves (set over i s.over) (set cost i s.cost) i
  linked_next {over} {cost} {i} {n} s d p l h g e c =
      let same : (k : ℕ) → i < k → score_at (set over i s.over) (set cost i s.cost) k ≡ score_at over cost k =
      λ k m. kept over cost i s k (λ (q : k ≡ i). omega arith) in
      record {
        inner = λ node a b z. elim (lt_or_le i node) [
          | inl m ↦ rw (same node m, same (node * 2) (omega arith), same (node * 2 + 1) (omega arith)) (c.inner node a (omega arith) z)
          | inr m ↦ let q : i ≡ node = omega arith in
              rw (← q, written over cost i s h g, same (i * 2) (omega arith), same (i * 2 + 1) (omega arith)) e
        ];
        after = λ k a. same k (omega arith) ∙ c.after k a;
      }

  -- down to the root
  pub linked_done : {over : List ℕ} {cost : List Float} {i : ℕ} → i ≤ 1 → Linked over₀ cost₀ leaves over cost i → Linked over₀ cost₀ leaves over cost 1
  linked_done h c = record { inner = λ node p a b. c.inner node p (omega arith) b; after = c.after }
