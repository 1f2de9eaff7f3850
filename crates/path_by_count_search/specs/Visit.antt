-- What the search over the tree finds in a range of candidates, and when it looks there.
-- The halves of a node's range, in the order in which the search visits them.
use Rattle.std.specs.Prelude.{◌≡◌, ◌⊎◌, Bool, true, false, cond, List, ℕ, suc, ◌-◌, ◌≤◌, ◌<◌, max, min, ◌+◌, ◌*◌, ◌/◌, ltb, Float, length, get_or}
use Rattle.base_terms.specs.Limits.{max_len}
use Rattle.path_pieces.specs.Limits.{max_index}
use Rattle.path_pieces.specs.Pieces.{length_weights, less_than}
use Rattle.path_pieces.specs.declared.lengths.Lengths.{Lengths}
use Rattle.path_pieces.specs.declared.score.Score.{Score}
use Rattle.path_pieces.specs.declared.best.Best.{Best}
use Rattle.path_by_count_search.specs.declared.visit.Query.{Query}
use Rattle.path_by_count_tree.specs.Least.{Before}
use Rattle.path_pieces.specs.Least.{entry}
use Rattle.path_by_count_search.specs.Starts.{arrival_at}
use Rattle.path_by_count_tree.specs.Tree.{no_leaf, Covers}
use Rattle.path_by_count_search.specs.Bound.{bound_of}
use Rattle.path_by_count_search.specs.declared.halves.Half.{Half}
use Rattle.path_by_count_search.specs.declared.halves.Ordered.{Ordered}

-- the preferences of a query: only the weights of a length are held
abbrev pub query_lengths : Query → Lengths
query_lengths q = record { min = q.min; target = q.target; limit = q.limit; weights = length_weights q.target_weight q.short_weight }

-- what the bound of the candidates from lo up to hi reads
pub record Ranged (right over : List ℕ) (cost : List Float) (end node lo hi : ℕ) : Type 0 where
  pub in_over : node < length over
  pub in_cost : node < length cost
  pub few : get_or over node 0 ≤ suc max_index
  pub low : lo < hi
  pub high : hi ≤ length right
  pub rise : get_or right lo 0 ≤ get_or right (hi - 1) 0
  pub behind : get_or right (hi - 1) 0 ≤ end
  pub bounded : end ≤ max_len

-- the same for those of lo .. hi that lie in the query, if any do
pub record Looks (right over : List ℕ) (cost : List Float) (q : Query) (node lo hi : ℕ) : Type 0 where
  pub ranged : max lo q.from < min hi q.to → Ranged right over cost q.end node (max lo q.from) (min hi q.to)

-- b is one of the candidates of lo .. hi that lie in from .. to
pub record OneOf (score : ℕ → Score) (lo hi from to : ℕ) (b : Best) : Type 0 where
  pub low : lo ≤ b.at
  pub high : b.at < hi
  pub first : from ≤ b.at
  pub last : b.at < to
  pub is : b.score ≡ score b.at

-- r is the first of b and the candidates of lo .. hi in from .. to: it is one of them, and none comes before it
pub record FirstIn (score : ℕ → Score) (lo hi from to : ℕ) (b r : Best) : Type 0 where
  pub source : (r ≡ b) ⊎ OneOf score lo hi from to r
  pub under : Before r b
  pub all : (i : ℕ) → lo ≤ i → i < hi → from ≤ i → i < to → Before r (entry score i)

-- the score through each candidate, for what is sought
abbrev pub through : Query → List ℕ → List ℕ → List Float → ℕ → Score
through q right over cost = arrival_at (query_lengths q) right over cost q.leaves q.end

-- some candidate of lo .. hi lies in the query
abbrev pub meets : Query → ℕ → ℕ → Bool
meets q lo hi = ltb (max lo q.from) (min hi q.to)

-- the bound of those that do, by the score of a node
abbrev pub active_bound : Query → List ℕ → List ℕ → List Float → ℕ → ℕ → ℕ → Score
active_bound q right over cost node lo hi = bound_of (query_lengths q) right over cost q.end node (max lo q.from) (min hi q.to)

-- the best that one of them can be: that bound, at the first of them; where there is none, more pieces over the limit than a path can have
unfoldable pub outlook_of : Query → List ℕ → List ℕ → List Float → ℕ → ℕ → ℕ → Best
outlook_of q right over cost node lo hi =
    cond (meets q lo hi) (record { score = active_bound q right over cost node lo hi; at = max lo q.from }) (record { score = no_leaf; at = hi })

-- two halves in order: the upper one first where the test passes
abbrev pub pick_order : Bool → Half → Half → Ordered
pick_order true lower upper = record { first = upper; second = lower }
pick_order false lower upper = record { first = lower; second = upper }

-- the lower half first, unless the upper one has a better bound
unfoldable pub in_order : Half → Half → Ordered
in_order lower upper = pick_order (less_than upper.outlook.score lower.outlook.score) lower upper

-- the range lo .. hi of a node with its outlook
abbrev pub half_at : Query → List ℕ → List ℕ → List Float → ℕ → ℕ → ℕ → Half
half_at q right over cost node lo hi = record { node = node; lo = lo; hi = hi; outlook = outlook_of q right over cost node lo hi }

-- the halves of lo .. hi, the range of a node
abbrev pub halves_of : Query → List ℕ → List ℕ → List Float → ℕ → ℕ → ℕ → Ordered
halves_of q right over cost node lo hi =
    in_order (half_at q right over cost (node * 2) lo (lo + (hi - lo) / 2)) (half_at q right over cost (node * 2 + 1) (lo + (hi - lo) / 2) hi)

-- what they read
pub record Halved (right over : List ℕ) (cost : List Float) (q : Query) (node lo hi : ℕ) : Type 0 where
  pub some : lo ≤ hi
  pub in_over : node * 2 + 1 < length over
  pub low : Looks right over cost q (node * 2) lo (lo + (hi - lo) / 2)
  pub up : Looks right over cost q (node * 2 + 1) (lo + (hi - lo) / 2) hi

-- ---- what a visit of both needs

-- h is a shorter part of lo .. hi that its node bounds, with its outlook
pub record Part (q : Query) (right over : List ℕ) (cost : List Float) (lo hi : ℕ) (h : Half) : Type 0 where
  pub covers : Covers q.leaves q.to over cost h.node h.lo h.hi
  pub low : lo ≤ h.lo
  pub high : h.hi ≤ hi
  pub less : h.hi - h.lo < hi - lo
  pub seen : h.outlook ≡ outlook_of q right over cost h.node h.lo h.hi

-- two parts that hold all of lo .. hi
pub record Parts (q : Query) (right over : List ℕ) (cost : List Float) (lo hi : ℕ) (h : Ordered) : Type 0 where
  pub one : Part q right over cost lo hi h.first
  pub other : Part q right over cost lo hi h.second
  pub all : (i : ℕ) → lo ≤ i → i < hi → ((h.first.lo ≤ i) × (i < h.first.hi)) ⊎ ((h.second.lo ≤ i) × (i < h.second.hi))
