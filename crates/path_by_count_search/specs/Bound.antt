-- The least score that any predecessor of a range can give: the score of the range's node, and the least that a piece from the range can add.
use Rattle.std.specs.Prelude.{List, ℕ, ◌+◌, ◌-◌, pos, Float, get_or}
use Rattle.std.specs.Float.{binary64}
use Rattle.std.specs.Float.Ieee.{add, of_int}
use Rattle.base_terms.specs.Lengths.{length_bound}
use Rattle.path_pieces.specs.Pieces.{over_of, score_at}
use Rattle.path_pieces.specs.declared.lengths.Lengths.{Lengths}
use Rattle.path_pieces.specs.declared.score.Score.{Score}

-- the least cost of a length from `shortest` to `longest`
unfoldable pub length_bound_of : Lengths → ℕ → ℕ → Float
length_bound_of l shortest longest =
    length_bound binary64 l.weights.target l.weights.short l.min l.target (of_int binary64 (pos shortest)) (of_int binary64 (pos longest))

-- after a score, the least that one more piece of such a length gives
unfoldable pub with_bound : Lengths → Score → ℕ → ℕ → Score
with_bound l s shortest longest =
    record { over = s.over + over_of l.limit shortest; cost = add binary64 s.cost (length_bound_of l shortest longest) }

-- the bound of the candidates from lo up to hi, for a piece that ends at the place `end`; the node's score stands in the tree
abbrev pub bound_of : Lengths → List ℕ → List ℕ → List Float → ℕ → ℕ → ℕ → ℕ → Score
bound_of l right over cost end node lo hi = with_bound l (score_at over cost node) (end - get_or right (hi - 1) 0) (end - get_or right lo 0)
