-- A listing loses nothing: read back, it gives the plan or the refusal that was printed.
use Rattle.std.specs.Prelude.{ℕ, zero, suc, ◌+◌, ◌-◌, ◌*◌, ◌/◌, ◌%◌, ◌≤◌, ◌<◌, ◌≡◌, true, false, length, get_or}
use Rattle.std.proofs.Math.Path.{refl}
use Rattle.std.proofs.Common.{ap, ◌∙◌, inl, inr, arith, lt-ltb, le-ltb, le-leb, ne_eqb}
use mathlib.Core.List.{List, [], ◌∷◌, ◌++◌, append_assoc}
use Rattle.std.proofs.Math.Option.{some}
use Rattle.base_laws.specs.Tests.{lt_or_le}
use Rattle.base_terms.specs.Lists.{tabulate}
use Rattle.listing.specs.Text.{text_bytes, digit_of, decimal_within, decimal_of, joined}
use Rattle.listing.specs.Rows.{ListedRow, row_at, rows_of, MarksTo}
use Rattle.listing.specs.Listing.{flags_word, reason_word, numbers_line, plan_line, piece_line, cut_line, line_of, lines_of, listed, listing_of, refusal_line}
use Rattle.listing_parser.specs.Parse.{planned, refused, value_then, word_in, is_digit, digits_in, number_from, number_in, choice_in, flag_ends, reason_ends, row_in, rows_in, ended, plan_in, refusal_in, parsed_of}

-- ---- numbers

-- a digit is one
digit_is : (d : ℕ) → d < 10 → is_digit (digit_of d) ≡ true
digit_is d h = rw (le-leb 48 (48 + d) (omega arith), le-leb (48 + d) 57 (omega arith))

-- what it stands for
digit_value : (d : ℕ) → digit_of d - digit_of 0 ≡ d
digit_value d = omega arith

-- a digit behind others
digit_read : (n d : ℕ) (bytes : List ℕ) → d < 10 → digits_in n (digit_of d ∷ bytes) ≡ digits_in (10 * n + d) bytes
unfolding digits_in
digit_read n d bytes h = rw (digit_is d h, digit_value d)

-- a first digit
first_read : (d : ℕ) (bytes : List ℕ) → 0 < d → d < 10 → number_in (digit_of d ∷ bytes) ≡ some (digits_in d bytes)
unfolding number_in number_from
first_read d bytes p h = rw (digit_is d h, ne_eqb (digit_of d) (digit_of 0) (λ e. omega arith), digit_value d)

-- a number from the digits before its last, and its last
behind : (n : ℕ) → 10 * (n / 10) + n % 10 ≡ n
behind n = omega arith

-- the digits of a number above 0
digits_read : (most n : ℕ) (bytes : List ℕ) → 0 < n → n ≤ most → number_in (decimal_within most n ++ bytes) ≡ some (digits_in n bytes)
unfolding decimal_within
digits_read zero n bytes p h = absurd (omega arith)
digits_read (suc most) n bytes p h = elim (lt_or_le n 10) [
  | inl l ↦ rw (lt-ltb n 10 l) (first_read n bytes p l)
  | inr g ↦ rw (
    le-ltb n 10 g,
    append_assoc,
    digits_read most (n / 10) (digit_of (n % 10) ∷ bytes) (omega arith) (omega arith),
    digit_read (n / 10) (n % 10) bytes (omega arith),
    behind n,
  )
]

-- they stop at a byte that is none
digits_stop : (n b : ℕ) (bytes : List ℕ) → is_digit b ≡ false → digits_in n (b ∷ bytes) ≡ value_then n (b ∷ bytes)
unfolding digits_in
digits_stop n b bytes e = rw e

-- a number ends where a byte follows that is no digit. Behind 0 `stop` is not needed: it is there so that an edit which reads on behind a 0 is refused by
-- `zero_alone` (ParsedLaws) and not here
number_read : (n b : ℕ) (bytes : List ℕ) → is_digit b ≡ false → number_in (decimal_of n ++ (b ∷ bytes)) ≡ some (value_then n (b ∷ bytes))
unfolding number_in number_from decimal_of decimal_within
number_read zero b bytes e = let stop = digits_stop 0 b bytes e in cc
number_read (suc n) b bytes e = digits_read (suc n) (suc n) (b ∷ bytes) (omega arith) (omega arith) ∙ ap some (digits_stop (suc n) b bytes e)

-- ---- lines

-- the end of a piece's line
flags_read : (flags : ℕ) (bytes : List ℕ) → flags ≤ 3 → choice_in 0 flag_ends (flags_word flags ++ (text_bytes "\n" ++ bytes)) ≡ some (value_then flags bytes)
unfolding choice_in word_in flags_word
flags_read zero bytes h = refl
flags_read (suc zero) bytes h = refl
flags_read (suc (suc zero)) bytes h = refl
flags_read (suc (suc (suc zero))) bytes h = refl
flags_read (suc (suc (suc (suc flags)))) bytes h = absurd (omega arith)

-- the end of a cut's line
reason_read : (reason : ℕ) (bytes : List ℕ) → reason ≤ 2
    → choice_in 0 reason_ends (reason_word reason ++ (text_bytes "\n" ++ bytes)) ≡ some (value_then reason bytes)
unfolding choice_in word_in reason_word
reason_read zero bytes h = refl
reason_read (suc zero) bytes h = refl
reason_read (suc (suc zero)) bytes h = refl
reason_read (suc (suc (suc reason))) bytes h = absurd (omega arith)

-- how a plan's lines begin, with what follows
pub begun : (word : List ℕ) (a b : ℕ) (bytes : List ℕ)
    → numbers_line word a b ++ bytes ≡ word ++ (decimal_of a ++ (text_bytes " " ++ (decimal_of b ++ bytes)))
unfolding numbers_line joined
begun word a b bytes = simp append_assoc

-- a piece's line, with what follows
pub piece_is : (start end flags : ℕ) (bytes : List ℕ)
    → piece_line start end flags ++ bytes ≡ numbers_line (text_bytes "piece ") start end ++ (text_bytes " " ++ (flags_word flags ++ (text_bytes "\n" ++ bytes)))
unfolding piece_line joined
piece_is start end flags bytes = simp append_assoc

-- a cut's line, with what follows
pub cut_is : (end start reason : ℕ) (bytes : List ℕ)
    → cut_line end start reason ++ bytes ≡ numbers_line (text_bytes "cut ") end start ++ (text_bytes " " ++ (reason_word reason ++ (text_bytes "\n" ++ bytes)))
unfolding cut_line joined
cut_is end start reason bytes = simp append_assoc

-- a piece
piece_read : (row : ListedRow) (bytes : List ℕ) → row.mark ≤ 3 → row_in (text_bytes "piece ") flag_ends (line_of piece_line row ++ bytes) ≡ some (value_then row bytes)
unfolding row_in word_in
piece_read row bytes h =
    let ending = flags_word row.mark ++ (text_bytes "\n" ++ bytes) in
    rw (
      piece_is row.from row.to row.mark bytes,
      begun (text_bytes "piece ") row.from row.to (text_bytes " " ++ ending),
      number_read row.from 32 (decimal_of row.to ++ (32 ∷ ending)) refl,
      number_read row.to 32 ending refl,
      flags_read row.mark bytes h,
    )

-- a cut
cut_read : (row : ListedRow) (bytes : List ℕ) → row.mark ≤ 2 → row_in (text_bytes "cut ") reason_ends (line_of cut_line row ++ bytes) ≡ some (value_then row bytes)
unfolding row_in word_in
cut_read row bytes h =
    let ending = reason_word row.mark ++ (text_bytes "\n" ++ bytes) in
    rw (
      cut_is row.from row.to row.mark bytes,
      begun (text_bytes "cut ") row.from row.to (text_bytes " " ++ ending),
      number_read row.from 32 (decimal_of row.to ++ (32 ∷ ending)) refl,
      number_read row.to 32 ending refl,
      reason_read row.mark bytes h,
    )

-- ---- rows

-- where one row is read back from its line, so are all from their lines
module _ (line : ℕ → ℕ → ℕ → List ℕ) (word : List ℕ) (ends : List (List ℕ)) (most : ℕ)
    (row_read : (row : ListedRow) (bytes : List ℕ) → row.mark ≤ most → row_in word ends (line_of line row ++ bytes) ≡ some (value_then row bytes)) where
  rows_read : (rows : List ListedRow) (bytes : List ℕ) → MarksTo most rows
      → rows_in word ends (length rows) (lines_of line rows ++ bytes) ≡ some (value_then rows bytes)
  unfolding rows_in lines_of joined
  rows_read [] bytes h = refl
  rows_read (row ∷ rows) bytes (h, t) = rw (append_assoc, row_read row (lines_of line rows ++ bytes) h, rows_read rows bytes t)

-- ---- the whole

-- the first line, with what follows
pub plan_is : (pieces cuts : ℕ) (bytes : List ℕ) → plan_line pieces cuts ++ bytes ≡ numbers_line (text_bytes "plan ") pieces cuts ++ (text_bytes "\n" ++ bytes)
unfolding plan_line joined
plan_is pieces cuts bytes = simp append_assoc

-- the listing: the first line, the pieces' lines, the cuts' lines, and nothing
pub listed_is : (pieces cuts : List ListedRow) → listed pieces cuts ≡ plan_line (length pieces) (length cuts) ++ (lines_of piece_line pieces ++ (lines_of cut_line cuts ++ []))
unfolding listed joined
listed_is pieces cuts = refl

-- all of it
plan_read : (pieces cuts : List ListedRow) → MarksTo 3 pieces → MarksTo 2 cuts → plan_in (listed pieces cuts) ≡ some (planned pieces cuts)
unfolding plan_in word_in ended
plan_read pieces cuts p c =
    let cut_lines = lines_of cut_line cuts ++ [] in
    let lines = lines_of piece_line pieces ++ cut_lines in
    rw (
      listed_is pieces cuts,
      plan_is (length pieces) (length cuts) lines,
      begun (text_bytes "plan ") (length pieces) (length cuts) (text_bytes "\n" ++ lines),
      number_read (length pieces) 32 (decimal_of (length cuts) ++ (10 ∷ lines)) refl,
      number_read (length cuts) 10 lines refl,
      rows_read piece_line (text_bytes "piece ") flag_ends 3 piece_read pieces cut_lines p,
      rows_read cut_line (text_bytes "cut ") reason_ends 2 cut_read cuts [] c,
    )

-- the plan that was printed, by its rows
pub parsed_listed : (pieces cuts : List ListedRow) → MarksTo 3 pieces → MarksTo 2 cuts → parsed_of (listed pieces cuts) ≡ some (planned pieces cuts)
unfolding parsed_of
parsed_listed pieces cuts p c = rw (plan_read pieces cuts p c)

-- one more row
marks_snoc : (most : ℕ) (rows : List ListedRow) (row : ListedRow) → MarksTo most rows → row.mark ≤ most → MarksTo most (rows ++ (row ∷ []))
marks_snoc most [] row h l = (l, tt)
marks_snoc most (first ∷ rows) row (h, t) l = (h, marks_snoc most rows row t l)

-- rows by their numbers
marks_of_lem : (most n : ℕ) (numbers : List ℕ) → ((i : ℕ) → i < n → get_or numbers (3 * i + 2) 0 ≤ most) → MarksTo most (rows_of n numbers)
unfolding tabulate
marks_of_lem most zero numbers h = tt
marks_of_lem most (suc n) numbers h =
    marks_snoc most (rows_of n numbers) (row_at numbers n) (marks_of_lem most n numbers (λ i l. h i (omega arith))) (h n (omega arith))

-- the plan that was printed, by its numbers: flags are at most 3 and reasons at most 2
pub parsed_listing : (n : ℕ) (pieces cuts : List ℕ) → ((i : ℕ) → i < n → get_or pieces (3 * i + 2) 0 ≤ 3)
    → ((i : ℕ) → i < n - 1 → get_or cuts (3 * i + 2) 0 ≤ 2) → parsed_of (listing_of n pieces cuts) ≡ some (planned (rows_of n pieces) (rows_of (n - 1) cuts))
unfolding listing_of
parsed_listing n pieces cuts p c = parsed_listed (rows_of n pieces) (rows_of (n - 1) cuts) (marks_of_lem 3 n pieces p) (marks_of_lem 2 (n - 1) cuts c)

-- the refusal that was printed
pub parsed_refusal : (number : ℕ) → parsed_of (refusal_line number) ≡ some (refused number)
unfolding parsed_of plan_in refusal_in refusal_line joined word_in ended
parsed_refusal number = rw (number_read number 10 [] refl)
