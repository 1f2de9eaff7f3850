-- What is parsed, written again, is the bytes that were parsed: of each step of the parser, what it read stands in the bytes before what it leaves.
use Prim.Native.Nat.{ℕ, zero, suc, ◌+◌, ◌-◌, ◌*◌, ◌≤◌, ◌<◌}
use Rattle.std.specs.Prelude.{◌≡◌, true, false, ◌↔◌, eqb, leb, length}
use Rattle.std.proofs.Math.Path.{refl, ap, subst}
use Rattle.std.proofs.Common.{sym, ◌∙◌, inl, inr, arith, eqb-true, leb-true}
use mathlib.Core.List.{List, [], ◌∷◌, ◌++◌, append_assoc}
use Rattle.std.proofs.Math.Option.{Option, none, some, some-injective, none-ne-some}
use Rattle.std.proofs.lemmas.Bool.{eqb-false}
use Rattle.base_laws.specs.Tests.{both, tested}
use Rattle.listing.specs.Text.{text_bytes, digit_of, decimal_of, joined}
use Rattle.listing.proofs.TextLaws.{decimal_digit, decimal_more}
use Rattle.listing.specs.Rows.{ListedRow, MarksTo}
use Rattle.listing.specs.Listing.{flags_word, reason_word, numbers_line, piece_line, cut_line, line_of, lines_of, refusal_line}
use Rattle.listing_parser.specs.ParseLaws.{begun, piece_is, cut_is, plan_is, listed_is, parsed_listed, parsed_refusal}
use Rattle.listing_parser.specs.Parse.{Parsed, planned, refused, printed_of, Listable, Read, value_then, and_then, first_some, word_in, is_digit, digits_in, number_from, number_in, choice_in, flag_ends, reason_ends, row_in, rows_in, ended, plan_in, refusal_in, parsed_of}

-- ---- steps

-- where a chain of steps gives something, its first step does, and the rest of it goes on from there
then_back : {A B C : Type 0} (o : Option A) (next : A → Option B) (b : B) → and_then o next ≡ some b → ((a : A) → o ≡ some a → next a ≡ some b → C) → C
then_back none next b h go = absurd (none-ne-some b h)
then_back (some a) next b h go = go a refl h

-- where one of two ways gives something, it is the first or the second
else_back : {A C : Type 0} (o other : Option A) (a : A) → first_some o other ≡ some a → (o ≡ some a → C) → (other ≡ some a → C) → C
else_back none other a h first second = second h
else_back (some b) other a h first second = first h

-- ---- words and numbers

-- a word stands before the bytes behind it
word_back : (word bytes rest : List ℕ) → word_in word bytes ≡ some rest → bytes ≡ word ++ rest
unfolding word_in
word_back [] bytes rest h = some-injective bytes rest h
word_back (b ∷ word) [] rest h = absurd (none-ne-some rest h)
word_back (b ∷ word) (c ∷ bytes) rest h = elim (tested (eqb b c)) [
  | inl e ↦ rw (eqb-true b c e, word_back word bytes rest (rw e at h))
  | inr e ↦ absurd (none-ne-some rest (rw e at h))
]

-- a digit is that of a number below 10
digit_back : (b : ℕ) → is_digit b ≡ true → (b - digit_of 0 < 10) × (digit_of (b - digit_of 0) ≡ b)
digit_back b e =
    let (low, high) = both (leb 48 b) (leb b 57) e in
    (omega (arith, leb-true 48 b low, leb-true b 57 high), omega (arith, leb-true 48 b low))

-- the digits of a number above 0 and those behind them are the digits of the number that is read
digits_back : (n : ℕ) (bytes : List ℕ) → 0 < n → decimal_of n ++ bytes ≡ decimal_of (digits_in n bytes).value ++ (digits_in n bytes).rest
unfolding digits_in
digits_back n [] p = refl
digits_back n (b ∷ bytes) p = elim (tested (is_digit b)) [
  | inl e ↦
      let (small, same) = digit_back b e in
      let d = b - digit_of 0 in
      let spelled : decimal_of n ++ (b ∷ bytes) ≡ decimal_of (10 * n + d) ++ bytes =
      rw (decimal_more n d p small, append_assoc, same) in
      rw e (spelled ∙ digits_back (10 * n + d) bytes (omega arith))
  | inr e ↦ rw e refl
]

-- a number that begins with 0 is 0, and has ended there
zero_alone : (bytes : List ℕ) → number_from (digit_of 0) bytes ≡ value_then 0 bytes
unfolding number_from
zero_alone bytes = refl

-- one that begins with another digit goes on
other_first : (b : ℕ) (bytes : List ℕ) → eqb b (digit_of 0) ≡ false → number_from b bytes ≡ digits_in (b - digit_of 0) bytes
unfolding number_from
other_first b bytes e = rw e

-- a digit and what is read behind it are the digits of the number that is read
from_back : (b : ℕ) (bytes : List ℕ) → is_digit b ≡ true → b ∷ bytes ≡ decimal_of (number_from b bytes).value ++ (number_from b bytes).rest
from_back b bytes e =
    let (small, same) = digit_back b e in
    let d = b - digit_of 0 in
    elim (tested (eqb b (digit_of 0))) [
      | inl z ↦ rw (eqb-true b (digit_of 0) z, zero_alone bytes, decimal_digit 0 (omega arith))
      | inr z ↦
          let spelled : b ∷ bytes ≡ decimal_of d ++ bytes = rw (decimal_digit d small, same) in
          rw (other_first b bytes z) (spelled ∙ digits_back d bytes (omega (arith, same, eqb-false b (digit_of 0) z)))
    ]

-- a number begins with a digit
number_begins : (b : ℕ) (bytes : List ℕ) (r : Read ℕ) → number_in (b ∷ bytes) ≡ some r → is_digit b ≡ true
unfolding number_in
number_begins b bytes r h = elim (tested (is_digit b)) [ inl e ↦ e | inr e ↦ absurd (none-ne-some r (rw e at h)) ]

-- a number stands in decimal before the bytes behind it
number_back : (bytes : List ℕ) (r : Read ℕ) → number_in bytes ≡ some r → bytes ≡ decimal_of r.value ++ r.rest
unfolding number_in
number_back [] r h = absurd (none-ne-some r h)
number_back (b ∷ bytes) r h =
    let e : is_digit b ≡ true = number_begins b bytes r h in
    let same : number_from b bytes ≡ r = some-injective (number_from b bytes) r (rw e at h) in
    from_back b bytes e ∙ ap (λ (r : Read ℕ). decimal_of r.value ++ r.rest) same

-- ---- lines

-- these are the texts of the marks from k on
TextsFrom : (ℕ → List ℕ) → ℕ → List (List ℕ) → Type 0
TextsFrom text k [] = Unit {0}
TextsFrom text k (word ∷ words) = (word ≡ text k) × TextsFrom text (suc k) words

-- the text of a mark stands before the bytes behind it
choice_back : (text : ℕ → List ℕ) (k : ℕ) (words : List (List ℕ)) (bytes : List ℕ) (r : Read ℕ) → TextsFrom text k words → choice_in k words bytes ≡ some r
    → (bytes ≡ text r.value ++ r.rest) × (r.value < k + length words)
unfolding choice_in TextsFrom
choice_back text k [] bytes r t h = absurd (none-ne-some r h)
choice_back text k (word ∷ words) bytes r (is, others) h =
    else_back (and_then (word_in word bytes) (λ rest. some (value_then k rest))) (choice_in (suc k) words bytes) r h
    (λ h. then_back (word_in word bytes) (λ rest. some (value_then k rest)) r h (λ rest w h.
    subst (λ (r : Read ℕ). (bytes ≡ text r.value ++ r.rest) × (r.value < k + length (word ∷ words))) (some-injective (value_then k rest) r h)
    (word_back word bytes rest w ∙ ap (λ (t : List ℕ). t ++ rest) is, omega arith)))
    (λ h. let (e, l) = choice_back text (suc k) words bytes r others h in (e, omega (arith, l)))

-- the row that was read stands as a line before what is left, and its mark is not above `most`
abbrev RowIs : (ℕ → ℕ → ℕ → List ℕ) → ℕ → List ℕ → Read ListedRow → Type 0
RowIs line most bytes r = (bytes ≡ line_of line r.value ++ r.rest) × (r.value.mark ≤ most)

-- the rows that were read are n, and stand so one behind another
abbrev RowsAre : (ℕ → ℕ → ℕ → List ℕ) → ℕ → ℕ → List ℕ → Read (List ListedRow) → Type 0
RowsAre line most n bytes r = (bytes ≡ lines_of line r.value ++ r.rest) × (length r.value ≡ n) × MarksTo most r.value

-- lines that begin with a word and end in the text of a mark
module _ (line : ℕ → ℕ → ℕ → List ℕ) (word : List ℕ) (ends : List (List ℕ)) (text : ℕ → List ℕ) (most : ℕ)
    (line-is : (row : ListedRow) (bytes : List ℕ) → line_of line row ++ bytes ≡ numbers_line word row.from row.to ++ (text_bytes " " ++ (text row.mark ++ bytes)))
    (texts : TextsFrom text 0 ends) (marks : length ends ≡ suc most) where
  -- one of them
  row_back : (bytes : List ℕ) (r : Read ListedRow) → row_in word ends bytes ≡ some r → RowIs line most bytes r
  unfolding row_in
  row_back bytes r h =
      then_back (word_in word bytes) _ r h λ first is_IsWord h.
      then_back (number_in first) _ r h λ from is-from h.
      then_back (word_in (text_bytes " ") from.rest) _ r h λ second is-space h.
      then_back (number_in second) _ r h λ to is-to h.
      then_back (word_in (text_bytes " ") to.rest) _ r h λ third is-space-too h.
      then_back (choice_in 0 ends third) _ r h λ mark is-mark h.
      let row : ListedRow = record { from = from.value; to = to.value; mark = mark.value } in
      let (is-end, small) = choice_back text 0 ends third mark texts is-mark in
      subst (RowIs line most bytes) (some-injective (value_then row mark.rest) r h) (
        rw (
          line-is row mark.rest,
          begun word from.value to.value (text_bytes " " ++ (text mark.value ++ mark.rest)),
          ← is-end,
          ← word_back (text_bytes " ") to.rest third is-space-too,
          ← number_back second to is-to,
          ← word_back (text_bytes " ") from.rest second is-space,
          ← number_back first from is-from,
        ) (word_back word bytes first is_IsWord),
        omega (arith, small, marks),
      )

  -- n of them
  rows_back : (n : ℕ) (bytes : List ℕ) (r : Read (List ListedRow)) → rows_in word ends n bytes ≡ some r → RowsAre line most n bytes r
  unfolding rows_in lines_of joined
  rows_back zero bytes r h =
      subst (RowsAre line most 0 bytes) (some-injective (value_then [] bytes) r h) (refl, refl, tt)
  rows_back (suc n) bytes r h =
      then_back (row_in word ends bytes) _ r h λ row is_row h.
      then_back (rows_in word ends n row.rest) _ r h λ rows are-rows h.
      let (is-line, mark) = row_back bytes row is_row in
      let (are-lines, count, marks) = rows_back n row.rest rows are-rows in
      subst (RowsAre line most (suc n) bytes) (some-injective (value_then (row.value ∷ rows.value) rows.rest) r h)
      (rw (append_assoc, ← are-lines) is-line, ap suc count, (mark, marks))

-- the lines of pieces
pieces_back : (n : ℕ) (bytes : List ℕ) (r : Read (List ListedRow)) → rows_in (text_bytes "piece ") flag_ends n bytes ≡ some r → RowsAre piece_line 3 n bytes r
unfolding TextsFrom flags_word
pieces_back =
    rows_back piece_line (text_bytes "piece ") flag_ends (λ flags. flags_word flags ++ text_bytes "\n") 3
    (λ row bytes. piece_is row.from row.to row.mark bytes ∙ rw append_assoc refl)
    (refl, (refl, (refl, (refl, tt)))) refl

-- the lines of cuts
cuts_back : (n : ℕ) (bytes : List ℕ) (r : Read (List ListedRow)) → rows_in (text_bytes "cut ") reason_ends n bytes ≡ some r → RowsAre cut_line 2 n bytes r
unfolding TextsFrom reason_word
cuts_back =
    rows_back cut_line (text_bytes "cut ") reason_ends (λ reason. reason_word reason ++ text_bytes "\n") 2
    (λ row bytes. cut_is row.from row.to row.mark bytes ∙ rw append_assoc refl)
    (refl, (refl, (refl, tt))) refl

-- ---- the whole

-- nothing is left at the end
ended_back : (rest : List ℕ) (q p : Parsed) → ended rest q ≡ some p → (rest ≡ []) × (q ≡ p)
unfolding ended
ended_back [] q p h = (refl, some-injective q p h)
ended_back (b ∷ rest) q p h = absurd (none-ne-some p h)

-- the bytes are what is printed of this
abbrev IsListed : List ℕ → Parsed → Type 0
IsListed bytes p = Listable p × (printed_of p ≡ bytes)

-- pieces and cuts stand there as their listing
plan_back : (bytes : List ℕ) (p : Parsed) → plan_in bytes ≡ some p → IsListed bytes p
unfolding plan_in printed_of
plan_back bytes p h =
    then_back (word_in (text_bytes "plan ") bytes) _ p h λ first is_IsWord h.
    then_back (number_in first) _ p h λ piece_count is-pieceCount h.
    then_back (word_in (text_bytes " ") piece_count.rest) _ p h λ second is-space h.
    then_back (number_in second) _ p h λ cutCount is-cutCount h.
    then_back (word_in (text_bytes "\n") cutCount.rest) _ p h λ lines is-feed h.
    then_back (rows_in (text_bytes "piece ") flag_ends piece_count.value lines) _ p h λ pieces are-pieces h.
    then_back (rows_in (text_bytes "cut ") reason_ends cutCount.value pieces.rest) _ p h λ cuts are-cuts h.
    let (piece-lines, piece-count, flags) = pieces_back piece_count.value lines pieces are-pieces in
    let (cut-lines, cut-count, reasons) = cuts_back cutCount.value pieces.rest cuts are-cuts in
    let (nothing_left, same) = ended_back cuts.rest (planned pieces.value cuts.value) p h in
    subst (IsListed bytes) same (
      (flags, reasons),
      rw (
        listed_is pieces.value cuts.value,
        ← nothing_left,
        ← cut-lines,
        ← piece-lines,
        piece-count,
        cut-count,
        plan_is piece_count.value cutCount.value lines,
        begun (text_bytes "plan ") piece_count.value cutCount.value (text_bytes "\n" ++ lines),
        ← word_back (text_bytes "\n") cutCount.rest lines is-feed,
        ← number_back second cutCount is-cutCount,
        ← word_back (text_bytes " ") piece_count.rest second is-space,
        ← number_back first piece_count is-pieceCount,
      ) (sym (word_back (text_bytes "plan ") bytes first is_IsWord)),
    )

-- a refusal as its line
refusal_back : (bytes : List ℕ) (p : Parsed) → refusal_in bytes ≡ some p → IsListed bytes p
unfolding refusal_in printed_of refusal_line joined
refusal_back bytes p h =
    then_back (word_in (text_bytes "refused ") bytes) _ p h λ first is_IsWord h.
    then_back (number_in first) _ p h λ number is_number h.
    then_back (word_in (text_bytes "\n") number.rest) _ p h λ rest is-feed h.
    let (nothing_left, same) = ended_back rest (refused number.value) p h in
    subst (IsListed bytes) same
    (tt, rw (← nothing_left, ← word_back (text_bytes "\n") number.rest rest is-feed, ← number_back first number is_number) (sym (word_back (text_bytes "refused ") bytes first is_IsWord)))

-- and one of the two is all that is parsed
parsed_back : (bytes : List ℕ) (p : Parsed) → parsed_of bytes ≡ some p → IsListed bytes p
unfolding parsed_of
parsed_back bytes p h = else_back (plan_in bytes) (refusal_in bytes) p h (plan_back bytes p) (refusal_back bytes p)

-- what is parsed, written again, is the bytes that were parsed
pub printed_parsed : (bytes : List ℕ) (p : Parsed) → parsed_of bytes ≡ some p → printed_of p ≡ bytes
printed_parsed bytes p h = (parsed_back bytes p h).1

-- what is written, parsed, is what was written
pub parsed_printed : (p : Parsed) → Listable p → parsed_of (printed_of p) ≡ some p
unfolding printed_of
parsed_printed (planned pieces cuts) (flags, reasons) = parsed_listed pieces cuts flags reasons
parsed_printed (refused number) known = parsed_refusal number

-- so it is exactly the listings that are parsed, each as what it lists
pub parsed_exactly : (bytes : List ℕ) (p : Parsed) → (parsed_of bytes ≡ some p) ↔ (Listable p × (printed_of p ≡ bytes))
parsed_exactly bytes p = (parsed_back bytes p, λ (known, is). subst (λ (b : List ℕ). parsed_of b ≡ some p) is (parsed_printed p known))
