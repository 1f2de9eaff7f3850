-- Copying within one list, as the slice's own method does it: the copy stands over what was in its place, and all else stays.
use Rattle.std.specs.Prelude.{◌≡◌, List, ℕ, ◌+◌, ◌-◌, ◌≤◌, length, take, drop}
use Rattle.std.proofs.Common.{arith, length-drop, length-take-le}
use mathlib.Core.List.{append_assoc}
use Rattle.std.specs.List.{copy_within}
use Rattle.candidate_points.specs.Placed.{placed}
use Rattle.plan_lists.specs.Within.{part_at}

-- the n elements from `from` on are written over those from `to` on
pub copy_placed : {A : Type 0} (from to n : ℕ) (xs ys : List A) → from + n ≤ length xs → ys ≡ copy_within xs from (from + n) to
    → ys ≡ placed to (part_at from n xs) xs
unfolding placed
copy_placed from to n xs ys h e =
    let k : from + n - from ≡ n = omega arith in
    let l : length (part_at from n xs) ≡ n = length-take-le n (drop from xs) (rw length-drop (omega arith)) in
    rw (e, k, l) (append_assoc (take to xs) (take n (drop from xs)) (drop (to + n) xs))
