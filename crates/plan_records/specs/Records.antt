-- Document 01's "the caller lends a list of piece records": a record for every three numbers that the operation Plan writes, of pieces and of cuts alike.
-- A rest of one or two numbers is no record.
use Rattle.std.specs.Prelude.{ℕ, ◌+◌, ◌*◌, ◌/◌, Bool, cond, List, [], ◌∷◌, ◌++◌, leb, length, get_or}
use Rattle.base_terms.specs.Lists.{onto, tabulate}

-- record i, made of its three numbers
abbrev pub record_at : {A : Type 0} → (ℕ → ℕ → ℕ → A) → List ℕ → ℕ → A
record_at make numbers i = make (get_or numbers (3 * i) 0) (get_or numbers (3 * i + 1) 0) (get_or numbers (3 * i + 2) 0)

-- all of them
unfoldable pub records_of : {A : Type 0} → (ℕ → ℕ → ℕ → A) → List ℕ → List A
records_of make numbers = tabulate (record_at make numbers) (length numbers / 3)

-- the numbers of records, where `back` gives those of one
unfoldable pub record_numbers : {A : Type 0} → (A → List ℕ) → List A → List ℕ
record_numbers back [] = []
record_numbers back (r ∷ rest) = back r ++ record_numbers back rest

-- ---- the call

-- the answer's number, and the lent list with it
pub record RecordsEnd (A : Type 0) : Type 0 where
  pub answer : ℕ
  pub records : List A

-- the end of a call, from its two parts
abbrev pub records_end : {A : Type 0} → ℕ → List A → RecordsEnd A
records_end answer records = record { answer = answer; records = records }

-- the first where the test passes, and else the second
abbrev pub pick : {A : Type 0} → Bool → RecordsEnd A → RecordsEnd A → RecordsEnd A
pick test a b = cond test a b

-- 0 and the records at the front of the lent list, with nothing touched beyond; or, where it is too short, 12 and nothing is written
unfoldable pub records_end_of : {A : Type 0} → (ℕ → ℕ → ℕ → A) → List ℕ → List A → RecordsEnd A
records_end_of make numbers records =
    pick (leb (length numbers / 3) (length records)) (records_end 0 (onto (records_of make numbers) records)) (records_end 12 records)
