-- What the functions of this crate need and leave: the table in two lent lists, the path in a third, and the answer.
use Rattle.std.specs.Prelude.{◌≡◌, List, ℕ, ◌+◌, ◌≤◌, ◌<◌, Float, length, get_or, take, drop, set}
use Rattle.base_terms.specs.Layout.{behind_table, end_by_length}
use Rattle.path_pieces.specs.Pieces.{score_at}
use Rattle.path_pieces.specs.Limits.{max_index}
use Rattle.path_pieces.specs.Domain.{Searchable}
use Rattle.path_pieces.specs.declared.lengths.Lengths.{Lengths}
use Rattle.path_rules.specs.declared.solved.Solved.{Solved}
use Rattle.path_rules.specs.Paths.{last_candidate}
use Rattle.path_by_length.specs.Table.{best_score, best_over, best_cost, parent_of, Falling, best_path}

-- ---- the table

-- the costs of the cuts at n candidates, behind the table
abbrev pub cuts_in : ℕ → List Float → List Float
cuts_in n cost = take n (drop (behind_table n) cost)

-- the parents of n candidates, behind the table
abbrev pub parents_in : ℕ → List ℕ → List ℕ
parents_in n over = take n (drop (behind_table n) over)

-- the u32 list once candidate j is settled: at j how many pieces of its best path are over the limit, and its parent behind the table
abbrev pub over_with : Lengths → List ℕ → List ℕ → List Float → List ℕ → ℕ → List ℕ
over_with l left right cut over j = set (set over j (best_over l left right cut j)) (behind_table (length left) + j) (parent_of l left right cut j)

-- the f64 list: at j the cost of its best path
abbrev pub cost_with : Lengths → List ℕ → List ℕ → List Float → List Float → ℕ → List Float
cost_with l left right cut cost j = set cost j (best_cost l left right cut j)

module _ (l : Lengths) (left right : List ℕ) where
  -- the lists have room for the table and what stands behind it, and the costs of the cuts are there
  pub record TableRoom (over : List ℕ) (cost : List Float) : Type 0 where
    pub domain : Searchable l left right (cuts_in (length left) cost)
    pub overs : end_by_length (length left) ≤ length over
    pub costs : end_by_length (length left) ≤ length cost

  -- the table holds the best scores of the candidates before j
  pub record FilledBefore (over : List ℕ) (cost : List Float) (j : ℕ) : Type 0 where
    pub room : TableRoom over cost
    pub later : 0 < j
    pub inside : j < length left
    pub scores : (k : ℕ) → k < j → score_at over cost k ≡ best_score l left right (cuts_in (length left) cost) k

  -- the table holds the best scores and the parents of the first j candidates; the cuts' costs and the lengths are as they were
  pub record Filled (over₀ : List ℕ) (cost₀ : List Float) (over : List ℕ) (cost : List Float) (j : ℕ) : Type 0 where
    pub scores : (k : ℕ) → k < j → score_at over cost k ≡ best_score l left right (cuts_in (length left) cost₀) k
    pub parents : (k : ℕ) → k < j → get_or over (behind_table (length left) + k) 0 ≡ parent_of l left right (cuts_in (length left) cost₀) k
    pub cuts : cuts_in (length left) cost ≡ cuts_in (length left) cost₀
    pub overs : length over ≡ length over₀
    pub costs : length cost ≡ length cost₀

  -- the whole table, and the best path's score and number of candidates, read off it
  pub record Settled (over₀ : List ℕ) (cost₀ : List Float) (over : List ℕ) (cost : List Float) (answer : Solved) : Type 0 where
    pub filled : Filled over₀ cost₀ over cost (length left)
    pub score : answer.score ≡ best_score l left right (cuts_in (length left) cost₀) (last_candidate left)
    pub count : answer.len ≡ length (best_path l left right (cuts_in (length left) cost₀))

-- ---- the way back

-- the parent of candidate j in a list of parents
abbrev pub parent_at : List ℕ → ℕ → ℕ
parent_at parent j = get_or parent j 0

-- the list has a parent for each candidate up to `last`, an earlier one
pub record Parents (parent : List ℕ) (last : ℕ) : Type 0 where
  pub inside : last < length parent
  pub few : last ≤ max_index
  pub falling : Falling (parent_at parent) last
