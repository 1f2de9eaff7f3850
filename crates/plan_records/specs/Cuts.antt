-- Document 01's cut as a record: previous end, next start, reason.
use Rattle.std.specs.Prelude.{ℕ, min, List, [], ◌∷◌, get_or}
use Rattle.plan_records.specs.declared.cuts.Cut.{Cut}

-- 0 silence, 1 quiet, 2 forced; every other number is forced
abbrev pub reason_of : ℕ → ℕ
reason_of number = min number 2

-- of the numbers that the operation Plan writes for a cut
abbrev pub cut_of : ℕ → ℕ → ℕ → Cut
cut_of end start reason = record { previous_end = end; next_start = start; reason = reason_of reason }

-- the numbers again
abbrev pub numbers_of_cut : Cut → List ℕ
numbers_of_cut c = c.previous_end ∷ (c.next_start ∷ (c.reason ∷ []))

-- of the cut itself, at candidate j
abbrev pub cut_record : List ℕ → List ℕ → List ℕ → ℕ → Cut
cut_record left right reasons j = record { previous_end = get_or left j 0; next_start = get_or right j 0; reason = get_or reasons j 0 }
