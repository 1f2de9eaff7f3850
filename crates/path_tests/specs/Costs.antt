-- Document 01's refusal 17: costs, length weights, target and minimum. A NaN is outside every range: every comparison with it is false.
use Rattle.std.specs.Prelude.{Bool, false, ◌&&◌, pos, negsuc, Float}
use Rattle.std.specs.Float.{inf, fin}
use Rattle.std.specs.Float.Ieee.{le, lt}
use Rattle.base_terms.specs.Floats.{nonneg}
use Rattle.path_pieces.specs.declared.lengths.Lengths.{Lengths}

-- a cost or a length weight is not negative, and finite
unfoldable pub is_cost : Float → Bool
is_cost x = nonneg x && lt x (inf false)

-- the lowest target: 2 ^ -40
abbrev pub min_target : Float
min_target = fin false 1 (negsuc 39)

-- the highest target and the highest minimum: 2 ^ 60
abbrev pub max_length : Float
max_length = fin false 1 (pos 60)

-- a target is from 2 ^ -40 to 2 ^ 60
unfoldable pub is_target : Float → Bool
is_target x = le min_target x && le x max_length

-- a minimum is from 0 to 2 ^ 60
unfoldable pub is_min : Float → Bool
is_min x = nonneg x && le x max_length

-- 17, but for the costs of the cuts
unfoldable pub lengths_ok : Lengths → Bool
lengths_ok l = is_cost l.weights.target && is_cost l.weights.short && is_target l.target && is_min l.min
