-- Lists of any element: cleared, written at the front, made from a function, tested.
use Rattle.std.specs.Prelude.{Bool, true, ◌&&◌, List, [], ◌∷◌, ◌++◌, ℕ, zero, suc, length, drop, replicate}

-- the list with every element replaced by v: what clearing leaves
unfoldable pub filled : {A : Type 0} → A → List A → List A
filled v xs = replicate (length xs) v

-- xs with p written over its front
unfoldable pub onto : {A : Type 0} → List A → List A → List A
onto p xs = p ++ drop (length p) xs

-- the first n values of f
unfoldable pub tabulate : {A : Type 0} → (ℕ → A) → ℕ → List A
tabulate f zero = []
tabulate f (suc n) = tabulate f n ++ (f n ∷ [])

-- every element of the list passes the test
unfoldable pub all_of : {A : Type 0} → (A → Bool) → List A → Bool
all_of p [] = true
all_of p (x ∷ xs) = p x && all_of p xs
