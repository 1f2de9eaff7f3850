-- Laws of the table by count: one row more.
use Rattle.std.specs.Prelude.{◌≡◌, Float, length, get_or, take, drop, Option}
use Rattle.std.proofs.Math.Path.{sym, ap}
use Rattle.std.proofs.Common.{subst, ◌∙◌, inl, inr, mul-le-mul_right, suc-mul, zero-mul, add-one}
use mathlib.Core.List.{List, ◌++◌}
use Prim.Native.Nat.{ℕ, zero, suc, ◌+◌, ◌-◌, ◌*◌, ◌≤◌, ◌<◌}
use native.Mathlib.Omega.{arith}
use borrow.Rule.Slice.PartMut.{put_mid}
use Rattle.std.proofs.Math.ListN.{get_or-append}
use Rattle.base_laws.specs.Tests.{lt_or_le}
use Rattle.path_pieces.specs.Pieces.{with_cut_at}
use Rattle.path_pieces.specs.Least.{found_score, found_index, predecessor_of}
use Rattle.path_pieces.specs.PredecessorLaws.{predecessor_same}
use Rattle.path_pieces.specs.declared.best.Best.{Best}
use Rattle.path_pieces.specs.declared.lengths.Lengths.{Lengths}
use Rattle.path_by_count.specs.Table.{best_with, parent_with}
use Rattle.path_by_count_tree.specs.PartLaws.{put_before, put_part}
use Rattle.path_by_count_rows.specs.Rows.{leaf_score, behind, first_score, FirstRow, NextRow}
use Rattle.path_by_count_rows.specs.RowsLaws.{first_one}
use Rattle.path_by_count.specs.Filled.{parent_in, RowsFilled}

-- each of n rows ends within the length of n rows
pub row_within : (k n w : ℕ) → k < n → k * w + w ≤ n * w
row_within k n w h = rw suc-mul at (mul-le-mul_right w h)

-- a row ends where the next one starts
pub next_start : (k w : ℕ) → k * w + w ≡ (k + 1) * w
next_start k w = rw (add-one, suc-mul)

-- ---- the rows that are written are those of the table

module _ {l : Lengths} {left right : List ℕ} {leaves : ℕ} {over₀ over : List ℕ} {cost₀ cost : List Float} {row : List ℕ} where
  -- the first row
  pub first_row_agrees : FirstRow l left right leaves over₀ cost₀ over cost row → (j : ℕ) → 0 < j → j < length left
      → (leaf_score leaves over cost j ≡ best_with l left right (behind (length left) cost₀) 1 j)
      × (get_or row j 0 ≡ parent_with l left right (behind (length left) cost₀) 1 j)
  unfolding best_with parent_with
  first_row_agrees x j p h = (
    x.score j h ∙ ap (λ (cut : List Float). first_score l left right cut j) x.cuts ∙ sym (first_one l left right (behind (length left) cost₀) j p),
    x.parent j h,
  )

  -- and each next one, where the row before is
  pub next_row_agrees : {k : ℕ}
      → ((i : ℕ) → suc k ≤ i → i < length left → leaf_score leaves over₀ cost₀ i ≡ best_with l left right (behind (length left) cost₀) (suc k) i)
      → NextRow l left right leaves over₀ cost₀ over cost row (suc (suc k)) → (j : ℕ) → suc (suc k) ≤ j → j < length left
      → (leaf_score leaves over cost j ≡ best_with l left right (behind (length left) cost₀) (suc (suc k)) j)
      × (get_or row j 0 ≡ parent_with l left right (behind (length left) cost₀) (suc (suc k)) j)
  unfolding best_with parent_with
  next_row_agrees {k} f x j h g =
      let cut = behind (length left) cost₀ in
      let own = leaf_score leaves over₀ cost₀ in
      let d : suc (suc k) - 1 ≡ suc k = omega arith in
      let e : predecessor_of l left right own (suc (suc k) - 1) j ≡ predecessor_of l left right (best_with l left right cut (suc k)) (suc k) j =
      ap (λ (from : ℕ). predecessor_of l left right own from j) d
      ∙ predecessor_same l left right own (best_with l left right cut (suc k)) (suc k) j (λ i a m. f i a (omega arith)) in (
        x.score j h g ∙ ap (λ (c : List Float). with_cut_at c j (found_score (predecessor_of l left right own (suc (suc k) - 1) j))) x.cuts
            ∙ ap (λ (z : Option Best). with_cut_at cut j (found_score z)) e,
        x.parent j h g ∙ ap found_index e,
      )

-- ---- row by row

module _ {l : Lengths} {left right : List ℕ} {leaves : ℕ} {over₀ over : List ℕ} {cost₀ cost : List Float} where
  -- the first row alone
  pub rows_first : (parent row : List ℕ) → length row ≡ length left → FirstRow l left right leaves over₀ cost₀ over cost row
      → RowsFilled l left right (behind (length left) cost₀) leaves over cost (row ++ drop (length left) parent) 1
  rows_first parent row e x = record {
    laid = x.laid;
    is_row = x.is_row;
    cuts = x.cuts;
    scores = λ j a h. (first_row_agrees x j a h).0;
    parents = λ m j a b h. let q : 0 ≡ m = omega arith in
        subst (λ (i : ℕ). parent_in (row ++ drop (length left) parent) (length left) i j ≡ parent_with l left right (behind (length left) cost₀) (suc i) j) q
        (ap (λ (i : ℕ). get_or (row ++ drop (length left) parent) i 0) (let z : 0 * length left ≡ 0 = zero-mul (length left) in let y : 0 * length left + j ≡ j = omega arith in y) ∙ get_or-append row (drop (length left) parent) 0 j (omega arith)
        ∙ (first_row_agrees x j (omega arith) h).1);
  }

  -- one more
  pub rows_next : {cut : List Float} {parent row : List ℕ} {k : ℕ} → RowsFilled l left right cut leaves over₀ cost₀ parent (suc k) → length row ≡ length left
      → suc k * length left + length left ≤ length parent → NextRow l left right leaves over₀ cost₀ over cost row (suc (suc k))
      → RowsFilled l left right cut leaves over cost (put_mid (suc k * length left) (length left) parent row) (suc (suc k))
  rows_next {cut} {parent} {row} {k} f e room x =
      let n = length left in
      let own : (i : ℕ) → suc k ≤ i → i < n → leaf_score leaves over₀ cost₀ i ≡ best_with l left right (behind n cost₀) (suc k) i =
      λ i a h. rw f.cuts (f.scores i a h) in
      let agrees : (j : ℕ) → suc (suc k) ≤ j → j < n
      → (leaf_score leaves over cost j ≡ best_with l left right cut (suc (suc k)) j) × (get_or row j 0 ≡ parent_with l left right cut (suc (suc k)) j) =
      λ j a h. rw f.cuts at (next_row_agrees own x j a h) in
      record {
        laid = x.laid;
        is_row = x.is_row;
        cuts = x.cuts ∙ f.cuts;
        scores = λ j a h. (agrees j a h).0;
        parents = λ m j a b h. elim (lt_or_le m (suc k)) [
          | inl y ↦ put_before parent row (suc k * n) n 0 e room (m * n + j) (omega (arith, row_within m (suc k) n y)) ∙ f.parents m j y b h
          | inr y ↦ let q : suc k ≡ m = omega arith in
              subst (λ (i : ℕ). parent_in (put_mid (suc k * n) n parent row) n i j ≡ parent_with l left right cut (suc i) j) q
              (put_part parent row (suc k * n) n 0 e room j h ∙ (agrees j (omega arith) h).1)
        ];
      }

  -- one more, as the loop counts
  pub rows_more : {cut : List Float} {parent row : List ℕ} (k start : ℕ) → 0 < k → start ≡ k * length left → RowsFilled l left right cut leaves over₀ cost₀ parent k
      → length row ≡ length left → start + length left ≤ length parent → NextRow l left right leaves over₀ cost₀ over cost row (k + 1)
      → RowsFilled l left right cut leaves over cost (put_mid start (start + length left - start) parent row) (k + 1)
  rows_more zero start h e f er room x = absurd (omega arith)
  rows_more {cut} {parent} {row} (suc k) start h e f er room x =
      let n = length left in
      let d : start + n - start ≡ n = omega arith in
      let q : suc k + 1 ≡ suc (suc k) = omega arith in
      let y : NextRow l left right leaves over₀ cost₀ over cost row (suc (suc k)) = rw q at x in
      let r : suc k * n + n ≤ length parent = omega arith in
      rw (d, q, e) (rows_next f er r y)
