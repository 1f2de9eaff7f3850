-- The tree of least scores over a row of the table: the node n has the children 2n and 2n + 1, the leaf of candidate i stands at leaves + i, and each node's
-- score is the lesser of its children's.
use Rattle.std.specs.Prelude.{◌≡◌, cond, List, ℕ, suc, ◌+◌, ◌-◌, ◌*◌, ◌/◌, ◌≤◌, ◌<◌, T, Float, length, get_or}
use Rattle.std.specs.Float.{nan, binary64}
use Rattle.std.specs.Float.Ieee.{of_bits}
use Rattle.base_terms.specs.Floats.{nonneg}
use Rattle.path_pieces.specs.Limits.{max_index}
use Rattle.path_pieces.specs.Pieces.{at_most, score_at}
use Rattle.path_pieces.specs.declared.score.Score.{Score}

-- ---- its size

-- a power of two
pub data Power : ℕ → Type 0 where
  one : Power 1
  twice : {m n : ℕ} → Power m → n ≡ m * 2 → Power n

-- the number of leaves for n candidates: the least power of two that is at least n
pub record Leaves (n leaves : ℕ) : Type 0 where
  pub power : Power leaves
  pub enough : n ≤ leaves
  pub least : leaves < n * 2

-- ---- its scores

-- the lesser of two, the first where they are equally good
unfoldable pub lesser_score : Score → Score → Score
lesser_score a b = cond (at_most a b) a b

-- the score of a leaf without a candidate: more pieces over the limit than a path can have
abbrev pub no_leaf : Score
no_leaf = record { over = suc max_index; cost = of_bits binary64 0 }

-- ---- what the search asks of it

-- the node's score is at most that of each leaf from lo up to hi; the leaves from `to` on do not count, since they may be those of the next row already
pub record Bound (leaves to : ℕ) (over : List ℕ) (cost : List Float) (node lo hi : ℕ) : Type 0 where
  pub in_over : node < length over
  pub in_cost : node < length cost
  pub few : get_or over node 0 ≤ suc max_index
  pub fine : T (nonneg (get_or cost node nan))
  pub below : (i : ℕ) → lo ≤ i → i < hi → i < to → T (at_most (score_at over cost node) (score_at over cost (leaves + i)))

-- a node, with all below it, bounds its leaves
pub data Covers (leaves to : ℕ) (over : List ℕ) (cost : List Float) : ℕ → ℕ → ℕ → Type 0 where
  one : {node lo hi : ℕ} → hi ≡ lo + 1 → node ≡ leaves + lo → Bound leaves to over cost node lo hi → Covers leaves to over cost node lo hi
  two : {node lo hi : ℕ} → lo + 1 < hi → node < leaves → Bound leaves to over cost node lo hi → Covers leaves to over cost (node * 2) lo (lo + (hi - lo) / 2)
      → Covers leaves to over cost (node * 2 + 1) (lo + (hi - lo) / 2) hi → Covers leaves to over cost node lo hi
