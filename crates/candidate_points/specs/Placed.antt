-- A list with another written over its middle.
use Rattle.std.specs.Prelude.{List, ◌++◌, ℕ, ◌+◌, length, take, drop}

-- xs with p written over it from `base` on
unfoldable pub placed : {A : Type 0} → ℕ → List A → List A → List A
placed base p xs = take base xs ++ (p ++ drop (base + length p) xs)
