-- Parts of one work list: two of them cannot be lent at once where one is written, so a function has the whole list and the place of each.
use Rattle.std.specs.Prelude.{List, ℕ, take, drop}

-- the n elements from `at` on
abbrev pub part_at : {A : Type 0} → ℕ → ℕ → List A → List A
part_at at n xs = take n (drop at xs)
