-- Writing records one after the other: the list after some of them, and the two ends of a call. And the way back to the numbers.
use Rattle.std.specs.Prelude.{◌≡◌, length, get_or, set}
use Rattle.std.proofs.Math.Path.{refl, sym, ap}
use Rattle.std.proofs.Common.{◌∙◌, add-one, arith, take-suc, le-leb}
use mathlib.Core.List.{List, [], ◌∷◌, ◌++◌, append_assoc, append-nil}
use Prim.Native.Nat.{ℕ, zero, suc, ◌+◌, ◌*◌, ◌/◌, ◌≤◌, ◌<◌}
use Rattle.std.proofs.Math.Numerals.{add-two}
use Rattle.std.proofs.Math.ListN.{take}
use Rattle.std.proofs.Math.Seq.{take_all}
use Rattle.std.proofs.lemmas.Bool.{lt-leb}
use Rattle.base_terms.specs.Lists.{onto, tabulate}
use Rattle.base_code.specs.FrontLaws.{onto-length, onto-at, tabulate-length, tabulate-at, onto-tabulate_next}
use Rattle.plan_pieces.specs.NumbersLaws.{Numbers}
use Rattle.plan_records.specs.Records.{record_at, records_of, record_numbers, RecordsEnd, records_end, records_end_of}

module _ {A : Type 0} (make : ℕ → ℕ → ℕ → A) (numbers : List ℕ) where
  -- the record of three numbers that are known
  pub record_of : {i a b c : ℕ} → Numbers numbers i a b c → record_at make numbers i ≡ make a b c
  record_of n = rw (n.one, n.two, n.three)

  module _ (records : List A) where
    -- the lent list with the first i records written
    abbrev pub records_up_to : ℕ → List A
    records_up_to i = onto (tabulate (record_at make numbers) i) records

    -- none is written yet
    pub up_to-none : records_up_to 0 ≡ records
    unfolding onto tabulate
    up_to-none = refl

    -- it is as long as it was
    pub up_to-length : (i : ℕ) → i ≤ length records → length (records_up_to i) ≡ length records
    up_to-length i h = onto-length (tabulate (record_at make numbers) i) records (rw tabulate-length h)

    -- one more is written
    pub up_to_next : (i : ℕ) → i < length records → set (records_up_to i) i (record_at make numbers i) ≡ records_up_to (i + 1)
    up_to_next i h = rw (add-one i) (onto-tabulate_next (record_at make numbers) records i h)

    -- ---- the ends of a call

    -- 0: the list has room for all of them
    pub records_written : length numbers / 3 ≤ length records → records_end 0 (records_up_to (length numbers / 3)) ≡ records_end_of make numbers records
    unfolding records_end_of records_of
    records_written h = rw (le-leb (length numbers / 3) (length records) h)

    -- 12: the list is too short
    pub records_refused : length records < length numbers / 3 → records_end 12 records ≡ records_end_of make numbers records
    unfolding records_end_of
    records_refused h = rw (lt-leb (length numbers / 3) (length records) h)

    -- a list with room holds each of them afterwards
    pub records_at : (i : ℕ) (z : A) → length numbers / 3 ≤ length records → i < length numbers / 3
        → get_or (records_end_of make numbers records).records i z ≡ record_at make numbers i
    records_at i z room h =
        ap (λ (e : RecordsEnd A). get_or e.records i z) (sym (records_written room))
        ∙ onto-at (tabulate (record_at make numbers) (length numbers / 3)) records i z (rw tabulate-length h)
        ∙ tabulate-at (record_at make numbers) (length numbers / 3) i z h

-- ---- the way back

module _ {A : Type 0} (back : A → List ℕ) where
  numbers_append : (rs : List A) (r : A) → record_numbers back (rs ++ (r ∷ [])) ≡ record_numbers back rs ++ back r
  unfolding record_numbers
  numbers_append [] r = append-nil (back r)
  numbers_append (s ∷ rs) r = ap (λ (ns : List ℕ). back s ++ ns) (numbers_append rs r) ∙ sym (append_assoc (back s) (record_numbers back rs) (back r))

  module _ (make : ℕ → ℕ → ℕ → A) (numbers : List ℕ)
      (each : (i : ℕ) → i < length numbers / 3
      → back (record_at make numbers i) ≡ get_or numbers (3 * i) 0 ∷ (get_or numbers (3 * i + 1) 0 ∷ (get_or numbers (3 * i + 2) 0 ∷ [])))
    where
      take-three : (i : ℕ) → i < length numbers / 3
          → take (3 * suc i) numbers ≡ take (3 * i) numbers ++ (get_or numbers (3 * i) 0 ∷ (get_or numbers (3 * i + 1) 0 ∷ (get_or numbers (3 * i + 2) 0 ∷ [])))
      take-three i h =
          let e : 3 * suc i ≡ suc (suc (suc (3 * i))) = omega arith in
          rw (e, add-one (3 * i), add-two (3 * i))
          (take-suc numbers (suc (suc (3 * i))) 0 (omega (arith, h))
          ∙ ap (λ (ns : List ℕ). ns ++ (get_or numbers (suc (suc (3 * i))) 0 ∷ [])) (take-suc numbers (suc (3 * i)) 0 (omega (arith, h)))
          ∙ ap (λ (ns : List ℕ). (ns ++ (get_or numbers (suc (3 * i)) 0 ∷ [])) ++ (get_or numbers (suc (suc (3 * i))) 0 ∷ [])) (take-suc numbers (3 * i) 0 (omega (arith, h)))
          ∙ simp append_assoc)

      numbers_upto : (n : ℕ) → n ≤ length numbers / 3 → record_numbers back (tabulate (record_at make numbers) n) ≡ take (3 * n) numbers
      unfolding record_numbers tabulate
      numbers_upto zero h = refl
      numbers_upto (suc n) h =
          numbers_append (tabulate (record_at make numbers) n) (record_at make numbers n)
          ∙ ap (λ (ns : List ℕ). ns ++ back (record_at make numbers n)) (numbers_upto n (omega arith))
          ∙ ap (λ (ns : List ℕ). take (3 * n) numbers ++ ns) (each n h) ∙ sym (take-three n h)

      -- where one record is turned back, all are
      pub numbers_back : 3 * (length numbers / 3) ≡ length numbers → record_numbers back (records_of make numbers) ≡ numbers
      unfolding records_of
      numbers_back e = numbers_upto (length numbers / 3) (omega arith) ∙ take_all (3 * (length numbers / 3)) numbers (omega (arith, e))
