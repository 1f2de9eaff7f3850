-- What a piece costs for its length, as `Lengths::cost` has it, and the least that any length of a range can cost, as `Search::bound` has it, in the program's order of operations.
-- wt and ws are the weights of the target and of the shortfall, m is the minimum, t the target, x a length.
use Rattle.std.specs.Prelude.{cond, Float}
use Rattle.std.specs.Float.{Format}
use Rattle.std.specs.Float.Ieee.{add, sub, mul, div, lt}
use Rattle.base_terms.specs.Floats.{clamp_of}

-- w * off * off
unfoldable pub square : Format → Float → Float → Float
square f w off = mul f (mul f w off) off

-- (x - t) / t: how far the length is from the target
unfoldable pub off_of : Format → Float → Float → Float
off_of f t x = div f (sub f x t) t

-- the penalty of a length below the minimum: ws * (m - x) / m
unfoldable pub short : Format → Float → Float → Float → Float
short f ws m x = div f (mul f ws (sub f m x)) m

-- the cost of a piece of length x: `Lengths::cost`
unfoldable pub length_cost : Format → Float → Float → Float → Float → Float → Float
length_cost f wt ws m t x = let cost = square f wt (off_of f t x) in cond (lt x m) (add f cost (short f ws m x)) cost

-- the least cost of a length from lo to hi: the cost in `Search::bound`
unfoldable pub length_bound : Format → Float → Float → Float → Float → Float → Float → Float
length_bound f wt ws m t lo hi = let cost = square f wt (off_of f t (clamp_of t lo hi)) in cond (lt hi m) (add f cost (short f ws m hi)) cost
