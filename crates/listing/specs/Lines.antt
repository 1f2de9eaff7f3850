-- What holds while a loop writes a line for each row of a plan; i lines are written.
use Rattle.std.specs.Prelude.{ℕ, zero, suc, ◌+◌, ◌≤◌, ◌<◌, ◌≡◌, refl, length}
use Rattle.std.proofs.Common.{ap, ◌∙◌, inl, inr, add-one, arith, length-append}
use mathlib.Core.List.{List, [], ◌∷◌, ◌++◌, append_assoc, append-nil}
use Rattle.std.proofs.Math.Seq.{length-sets}
use Rattle.base_laws.specs.Tests.{lt_or_le}
use Rattle.base_terms.specs.Lists.{tabulate}
use Rattle.listing.specs.Text.{joined}
use Rattle.listing.specs.Rows.{ListedRow, row_at, rows_of}
use Rattle.listing.specs.Listing.{line_of, lines_of}
use Rattle.listing.specs.Written.{Room, Written}
use Rattle.listing.specs.WrittenLaws.{written_none, written_then}

module _ (line : ℕ → ℕ → ℕ → List ℕ) where
  lines_snoc : (rows : List ListedRow) (row : ListedRow) → lines_of line (rows ++ (row ∷ [])) ≡ lines_of line rows ++ line_of line row
  unfolding lines_of joined
  lines_snoc [] row = append-nil (line_of line row)
  lines_snoc (first ∷ rows) row = rw (lines_snoc rows row, append_assoc)

  -- the lines of one row more: its line stands behind the others
  pub lines_more : (numbers : List ℕ) (i : ℕ) → lines_of line (rows_of (suc i) numbers) ≡ lines_of line (rows_of i numbers) ++ line_of line (row_at numbers i)
  unfolding tabulate
  lines_more numbers i = lines_snoc (rows_of i numbers) (row_at numbers i)

  lines_grow : (numbers : List ℕ) (i n : ℕ) → i ≤ n → length (lines_of line (rows_of i numbers)) ≤ length (lines_of line (rows_of n numbers))
  lines_grow numbers i zero l = let e : i ≡ 0 = omega arith in rw e (omega arith)
  lines_grow numbers i (suc n) l = elim (lt_or_le n i) [
    | inl h ↦ let e : i ≡ suc n = omega arith in rw e (omega arith)
    | inr h ↦ rw (lines_more numbers n, length-append) (omega (arith, lines_grow numbers i n h))
  ]

-- the first i lines stand there, and there is room for all n
pub record Lines (line : ℕ → ℕ → ℕ → List ℕ) (n : ℕ) (numbers before : List ℕ) (at : ℕ) (now : List ℕ) (next i : ℕ) : Type 0 where
  pub within : i ≤ n
  pub room : Room (length (lines_of line (rows_of n numbers))) before at
  pub same : length now ≡ length before
  pub written : Written (lines_of line (rows_of i numbers)) before at now next

-- no line is written yet
pub lines_start : {line : ℕ → ℕ → ℕ → List ℕ} {n : ℕ} {numbers before : List ℕ} {at : ℕ} → Room (length (lines_of line (rows_of n numbers))) before at
    → Lines line n numbers before at before at 0
unfolding lines_of joined tabulate
lines_start {before = before} {at = at} r = record { within = omega arith; room = r; same = refl; written = written_none before at }

module _ {line : ℕ → ℕ → ℕ → List ℕ} {n : ℕ} {numbers before : List ℕ} {at : ℕ} {now : List ℕ} {next i : ℕ} (w : Lines line n numbers before at now next i) where
  -- there is room for the next line
  pub lines_room : i < n → Room (length (line_of line (row_at numbers i))) now next
  lines_room l =
      let longer : length (lines_of line (rows_of (suc i) numbers)) ≤ length (lines_of line (rows_of n numbers)) = lines_grow line numbers (suc i) n l in
      let sum : length (lines_of line (rows_of (suc i) numbers)) ≡ length (lines_of line (rows_of i numbers)) + length (line_of line (row_at numbers i)) =
      ap length (lines_more line numbers i) ∙ length-append (lines_of line (rows_of i numbers)) (line_of line (row_at numbers i)) in
      record { enough = omega (arith, w.room.enough, w.same, w.written.behind) }

  -- it is written
  pub lines_next : {now' : List ℕ} {next' : ℕ} → i < n → Written (line_of line (row_at numbers i)) now next now' next'
      → Lines line n numbers before at now' next' (i + 1)
  lines_next {now'} {next'} l v =
      let more : Written (lines_of line (rows_of (suc i) numbers)) before at now' next' =
      rw (lines_more line numbers i) (written_then (line_of line (row_at numbers i)) w.written v) in
      record {
        within = omega (arith, l);
        room = w.room;
        same = ap length v.bytes ∙ length-sets now next (line_of line (row_at numbers i)) ∙ w.same;
        written = rw add-one more;
      }

  -- all lines are
  pub lines_done : n ≤ i → Written (lines_of line (rows_of n numbers)) before at now next
  lines_done l = let e : n ≡ i = omega (arith, w.within) in rw e w.written
