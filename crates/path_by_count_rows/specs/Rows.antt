-- The rows of the table by count: row k holds, for each candidate, the best score of a path of k pieces to it, and where its last piece starts.
-- Two work lists hold a row: n candidates are the leaves of the tree of least scores, and behind the tree stands one entry for each candidate,
-- its first start in the one list and its cut's cost in the other.
use Rattle.std.specs.Prelude.{◌≡◌, List, ℕ, zero, suc, ◌+◌, ◌-◌, ◌≤◌, ◌<◌, max, T, Float, length, get_or, take, drop}
use Rattle.std.specs.Float.{nan}
use Rattle.base_terms.specs.Layout.{behind_tree, end_by_count}
use Rattle.base_terms.specs.Floats.{nonneg}
use Rattle.path_pieces.specs.Pieces.{piece_length, no_score, with_piece, with_cut_at, score_at}
use Rattle.path_pieces.specs.Least.{found_score, found_index, predecessor_of}
use Rattle.path_pieces.specs.Domain.{Searchable}
use Rattle.path_pieces.specs.declared.lengths.Lengths.{Lengths}
use Rattle.path_pieces.specs.declared.score.Score.{Score}
use Rattle.path_by_count_tree.specs.Tree.{Leaves, no_leaf, Covers}
use Rattle.path_by_count_rows.specs.First.{first_start}

-- ---- one score of a row

-- where the pieces to candidate j may start in row k: an allowed piece, and k - 1 pieces before it
abbrev pub earliest_start : ℕ → List ℕ → List ℕ → ℕ → ℕ → ℕ
earliest_start limit left right k j = max (first_start limit left right j) (k - 1)

-- document 01's "by count, the first piece may have any length": a path of one piece. To the first candidate there is none
unfoldable pub first_score : Lengths → List ℕ → List ℕ → List Float → ℕ → Score
first_score l left right cut zero = no_score
first_score l left right cut (suc j) = with_cut_at cut (suc j) (with_piece l no_score (piece_length left right 0 (suc j)))

-- ---- where a row stands

-- the score of candidate i, at its leaf
abbrev pub leaf_score : ℕ → List ℕ → List Float → ℕ → Score
leaf_score leaves over cost i = score_at over cost (leaves + i)

-- the n entries behind the tree
unfoldable pub behind : {A : Type 0} → ℕ → List A → List A
behind n xs = take n (drop (behind_tree n) xs)

-- candidates, and two lists with room for the tree and the entries behind it, which are the first starts and the costs of the cuts
pub record Laid (l : Lengths) (left right : List ℕ) (leaves : ℕ) (over : List ℕ) (cost : List Float) : Type 0 where
  pub domain : Searchable l left right (behind (length left) cost)
  pub tree : Leaves (length left) leaves
  pub overs : end_by_count (length left) ≤ length over
  pub costs : end_by_count (length left) ≤ length cost
  pub firsts : (j : ℕ) → j < length left → get_or over (behind_tree (length left) + j) 0 ≡ first_start l.limit left right j

-- from an index on, two lists are as they were
pub record Kept (from : ℕ) (over₀ : List ℕ) (cost₀ : List Float) (over : List ℕ) (cost : List Float) : Type 0 where
  pub overs : length over ≡ length over₀
  pub costs : length cost ≡ length cost₀
  pub after : (m : ℕ) → from ≤ m → score_at over cost m ≡ score_at over₀ cost₀ m

-- a score for each of n candidates: no more pieces over the limit than candidates before it, at a cost that is not negative; no other leaf has a score
pub record ScoreRow (leaves n : ℕ) (over : List ℕ) (cost : List Float) : Type 0 where
  pub few : (i : ℕ) → i < n → get_or over (leaves + i) 0 ≤ i
  pub fine : (i : ℕ) → i < n → T (nonneg (get_or cost (leaves + i) nan))
  pub beyond : (i : ℕ) → n ≤ i → i < leaves → leaf_score leaves over cost i ≡ no_leaf

-- ---- what a row function leaves

module _ (l : Lengths) (left right : List ℕ) (leaves : ℕ) (over₀ : List ℕ) (cost₀ : List Float) (over : List ℕ) (cost : List Float) (row : List ℕ) where
  -- the first row: one piece from the first candidate
  pub record FirstRow : Type 0 where
    pub score : (j : ℕ) → j < length left → leaf_score leaves over cost j ≡ first_score l left right (behind (length left) cost) j
    pub parent : (j : ℕ) → j < length left → get_or row j 0 ≡ 0
    pub laid : Laid l left right leaves over cost
    pub is_row : ScoreRow leaves (length left) over cost
    pub cuts : behind (length left) cost ≡ behind (length left) cost₀

  -- row k, by the scores of the row before: k - 1 pieces reach the candidates from k - 1 on
  pub record NextRow (k : ℕ) : Type 0 where
    pub score : (j : ℕ) → k ≤ j → j < length left
        → leaf_score leaves over cost j ≡ with_cut_at (behind (length left) cost) j (found_score (predecessor_of l left right (leaf_score leaves over₀ cost₀) (k - 1) j))
    pub parent : (j : ℕ) → k ≤ j → j < length left → get_or row j 0 ≡ found_index (predecessor_of l left right (leaf_score leaves over₀ cost₀) (k - 1) j)
    pub laid : Laid l left right leaves over cost
    pub is_row : ScoreRow leaves (length left) over cost
    pub cuts : behind (length left) cost ≡ behind (length left) cost₀

-- ---- a row while it is written

module _ (l : Lengths) (left right : List ℕ) (leaves : ℕ) (over₀ : List ℕ) (cost₀ : List Float) (over : List ℕ) (cost : List Float) (row : List ℕ) where
  -- the first one, up to candidate n
  pub record FirstWritten (n : ℕ) : Type 0 where
    pub score : (j : ℕ) → j < n → leaf_score leaves over cost j ≡ first_score l left right (behind (length left) cost₀) j
    pub parent : (j : ℕ) → j < n → get_or row j 0 ≡ 0
    pub rest : Kept (leaves + length left) over₀ cost₀ over cost

  -- row k, from candidate n on; the tree bounds the scores of the row before
  pub record NextWritten (k n : ℕ) : Type 0 where
    pub score : (j : ℕ) → n ≤ j → j < length left
        → leaf_score leaves over cost j ≡ with_cut_at (behind (length left) cost₀) j (found_score (predecessor_of l left right (leaf_score leaves over₀ cost₀) (k - 1) j))
    pub parent : (j : ℕ) → n ≤ j → j < length left → get_or row j 0 ≡ found_index (predecessor_of l left right (leaf_score leaves over₀ cost₀) (k - 1) j)
    pub before : (m : ℕ) → m < leaves + n → score_at over cost m ≡ score_at over₀ cost₀ m
    pub rest : Kept (leaves + length left) over₀ cost₀ over cost

-- a row with its tree
pub record Planted (l : Lengths) (left right : List ℕ) (leaves : ℕ) (over : List ℕ) (cost : List Float) : Type 0 where
  pub laid : Laid l left right leaves over cost
  pub is_row : ScoreRow leaves (length left) over cost
  pub covers : Covers leaves leaves over cost 1 0 leaves

-- what the search for a predecessor of candidate j in row k reads: candidates with their first starts, and of the row before the scores of the candidates before j,
-- with a tree that bounds them
pub record RowReady (l : Lengths) (left right : List ℕ) (leaves : ℕ) (over : List ℕ) (cost : List Float) (k j : ℕ) : Type 0 where
  pub laid : Laid l left right leaves over cost
  pub some : 0 < k
  pub reached : k ≤ j
  pub inside : j < length left
  pub covers : Covers leaves j over cost 1 0 leaves
  pub few : (i : ℕ) → i < j → get_or over (leaves + i) 0 ≤ i
  pub fine : (i : ℕ) → i < j → T (nonneg (get_or cost (leaves + i) nan))
