-- Document 01's "score" and "length cost": what a piece and a cut add to a path's score, and how scores compare.
-- A piece from candidate i to candidate j runs from the right end of i to the left end of j.
use Rattle.std.specs.Prelude.{ℕ, suc, ◌+◌, ◌-◌, Bool, cond, ◌||◌, List, leb, ltb, eqb, pos, Float, length, get_or}
use Rattle.std.specs.Float.{nan, binary64}
use Rattle.std.specs.Float.Ieee.{of_bits, add, lt, of_int}
use Rattle.base_terms.specs.Floats.{nought}
use Rattle.base_terms.specs.Lengths.{length_cost}
use Rattle.base_terms.specs.Scores.{score_le, score_lt, score_eq}
use Rattle.path_pieces.specs.declared.lengths.Lengths.{Lengths}
use Rattle.path_pieces.specs.declared.score.Score.{Score}
use Rattle.path_pieces.specs.declared.weights.Weights.{Weights}

-- ---- weights

-- the weights of a path over given costs: being off the target, and being below the minimum; those of a cut are not looked at
abbrev pub length_weights : Float → Float → Weights
length_weights target short = let none = of_bits binary64 0 in record { cut = none; level = none; pause = none; pause_ref = 0; target = target; short = short }

-- ---- lengths

-- the same preferences with another limit
abbrev pub with_limit : Lengths → ℕ → Lengths
with_limit l limit = record { min = l.min; target = l.target; limit = limit; weights = l.weights }

-- the length of the piece from candidate i to candidate j, in samples
unfoldable pub piece_length : List ℕ → List ℕ → ℕ → ℕ → ℕ
piece_length left right i j = get_or left j 0 - get_or right i 0

-- document 01's "length cost": what a piece of this length costs
unfoldable pub length_cost_of : Lengths → ℕ → Float
length_cost_of l len = length_cost binary64 l.weights.target l.weights.short l.min l.target (of_int binary64 (pos len))

-- document 01's "minimum" in the length cost: a piece of this length is below it
abbrev pub IsShort : Lengths → ℕ → Bool
IsShort l len = lt (of_int binary64 (pos len)) l.min

-- document 01's "target" in the length cost: a piece of this length is longer
abbrev pub passes_target : Lengths → ℕ → Bool
passes_target l len = lt l.target (of_int binary64 (pos len))

-- document 01's "over the limit": 1 for a piece that is longer than the limit, else 0
unfoldable pub over_of : ℕ → ℕ → ℕ
over_of limit len = cond (ltb limit len) 1 0

-- the piece that ends at candidate j and starts at candidate i is no longer than the limit
unfoldable pub is_within : ℕ → List ℕ → List ℕ → ℕ → ℕ → Bool
is_within limit left right j i = leb (piece_length left right i j) limit

-- document 01's "piece rule": a piece that ends at candidate j may start at candidate i if it is no longer than the limit or i = j - 1
unfoldable pub may_start : ℕ → List ℕ → List ℕ → ℕ → ℕ → Bool
may_start limit left right j i = is_within limit left right j i || eqb (suc i) j

-- ---- scores

-- the score of a path without pieces
abbrev pub no_score : Score
no_score = record { over = 0; cost = nought }

-- one more piece: first whether it is over the limit, then its length's cost
unfoldable pub with_piece : Lengths → Score → ℕ → Score
with_piece l s len = record { over = s.over + over_of l.limit len; cost = add binary64 s.cost (length_cost_of l len) }

-- one more cut, at the end of a piece
unfoldable pub with_cut : Score → Float → Score
with_cut s cut = record { over = s.over; cost = add binary64 s.cost cut }

-- the cut at candidate j is added; there is none at the last
unfoldable pub with_cut_at : List Float → ℕ → Score → Score
with_cut_at cut j s = cond (ltb (suc j) (length cut)) (with_cut s (get_or cut j nan)) s

-- the score at candidate j of a path that comes from candidate i, before the cut at j is added; `own` is the score of each candidate
abbrev pub arrival : Lengths → List ℕ → List ℕ → (ℕ → Score) → ℕ → ℕ → Score
arrival l left right own j i = with_piece l (own i) (piece_length left right i j)

-- the score at index i of scores that are kept as two lists
abbrev pub score_at : List ℕ → List Float → ℕ → Score
score_at over cost i = record { over = get_or over i 0; cost = get_or cost i nan }

-- ---- order: the pieces over the limit first, then the cost

-- at least as good
abbrev pub at_most : Score → Score → Bool
at_most a b = score_le a.over a.cost b.over b.cost

-- better
abbrev pub less_than : Score → Score → Bool
less_than a b = score_lt a.over a.cost b.over b.cost

-- equally good
abbrev pub equal_to : Score → Score → Bool
equal_to a b = score_eq a.over a.cost b.over b.cost
