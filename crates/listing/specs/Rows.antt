-- A plan as the operation Plan gives it: three numbers for each piece, one piece behind another, and three for each cut.
use Rattle.std.specs.Prelude.{ℕ, ◌+◌, ◌*◌, ◌≤◌, List, [], ◌∷◌, get_or}
use Rattle.base_terms.specs.Limits.{IsU64}
use Rattle.base_terms.specs.Lists.{tabulate}

-- a piece's start, end and flags; a cut's previous end, next start and reason
pub record ListedRow : Type 0 where
  pub from : ℕ
  pub to : ℕ
  pub mark : ℕ

-- row i of the numbers
abbrev pub row_at : List ℕ → ℕ → ListedRow
row_at numbers i = record { from = get_or numbers (3 * i) 0; to = get_or numbers (3 * i + 1) 0; mark = get_or numbers (3 * i + 2) 0 }

-- the first n
abbrev pub rows_of : ℕ → List ℕ → List ListedRow
rows_of n numbers = tabulate (row_at numbers) n

-- no mark is above `most`
abbrev pub MarksTo : ℕ → List ListedRow → Type 0
MarksTo most [] = Unit {0}
MarksTo most (row ∷ rows) = (row.mark ≤ most) × MarksTo most rows

-- every number is of 64 bits
pub record AllWide (numbers : List ℕ) : Type 0 where
  pub at : (i : ℕ) → IsU64 (get_or numbers i 0)
