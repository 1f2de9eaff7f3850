-- What is left of a list from a place on.
use Rattle.std.specs.Prelude.{◌≡◌, List, ℕ, ◌-◌, length, take, drop}
use Rattle.std.proofs.Common.{arith, length-drop, length-take-le}

-- from place `at` on, so many are left
pub rest-length : {A : Type 0} (at : ℕ) (s : List A) → length (take (length s - at) (drop at s)) ≡ length s - at
rest-length at s = length-take-le (length s - at) (drop at s) (omega (arith, length-drop at s))
