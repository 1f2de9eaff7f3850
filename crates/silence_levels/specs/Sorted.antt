-- Lists in the order of a key, and how many elements of a list pass a test: what "the k-th smallest" means.
use Rattle.std.specs.Prelude.{Bool, cond, List, [], ◌∷◌, ℕ, ◌+◌, leb, ltb}

-- x put in front of the first element whose key is not smaller
unfoldable pub insert_by : {A : Type 0} → (A → ℕ) → A → List A → List A
insert_by key x [] = x ∷ []
insert_by key x (y ∷ ys) = cond (leb (key x) (key y)) (x ∷ y ∷ ys) (y ∷ insert_by key x ys)

-- the list in the order of the key
unfoldable pub sorted_by : {A : Type 0} → (A → ℕ) → List A → List A
sorted_by key [] = []
sorted_by key (x ∷ xs) = insert_by key x (sorted_by key xs)

-- numbers in order
abbrev pub sorted : List ℕ → List ℕ
sorted xs = sorted_by (λ (x : ℕ). x) xs

-- how many elements pass the test
unfoldable pub count_of : (ℕ → Bool) → List ℕ → ℕ
count_of p [] = 0
count_of p (x ∷ xs) = cond (p x) 1 0 + count_of p xs

-- how many elements are below v
abbrev pub belows : ℕ → List ℕ → ℕ
belows v xs = count_of (λ (x : ℕ). ltb x v) xs
