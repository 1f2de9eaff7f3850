-- A listing read back: what `printed_of` writes of a `Listable` is read as that, and no other bytes are read (`parsed_exactly` of ParsedLaws).
use Rattle.std.specs.Prelude.{ℕ, zero, suc, ◌+◌, ◌-◌, ◌*◌, Bool, ◌&&◌, cond, List, [], ◌∷◌, eqb, leb}
use Rattle.std.proofs.Math.Option.{Option, none, some}
use Rattle.listing.specs.Text.{text_bytes, digit_of}
use Rattle.listing.specs.Rows.{ListedRow, MarksTo}
use Rattle.listing.specs.Listing.{listed, refusal_line}

-- ---- what is printed

-- pieces and cuts, however many of each, or the number of a refusal
pub data Parsed : Type 0 where
  planned : List ListedRow → List ListedRow → Parsed
  refused : ℕ → Parsed

-- its lines
unfoldable pub printed_of : Parsed → List ℕ
printed_of (planned pieces cuts) = listed pieces cuts
printed_of (refused number) = refusal_line number

-- each of its flags and reasons has a word of its own: 0 to 3, and 0 to 2
abbrev pub Listable : Parsed → Type 0
Listable (planned pieces cuts) = MarksTo 3 pieces × MarksTo 2 cuts
Listable (refused number) = Unit {0}

-- ---- steps

-- a value that was read, and the bytes behind it
pub record Read (A : Type 0) : Type 0 where
  pub value : A
  pub rest : List ℕ

-- what was read, from its two parts
abbrev pub value_then : {A : Type 0} → A → List ℕ → Read A
value_then value rest = record { value = value; rest = rest }

-- goes on with what was read
abbrev pub and_then : {A B : Type 0} → Option A → (A → Option B) → Option B
and_then none next = none
and_then (some a) next = next a

-- the first that is something
abbrev pub first_some : {A : Type 0} → Option A → Option A → Option A
first_some none other = other
first_some (some a) other = some a

-- ---- words and numbers

-- the bytes behind a word
unfoldable pub word_in : List ℕ → List ℕ → Option (List ℕ)
word_in [] bytes = some bytes
word_in (b ∷ word) [] = none
word_in (b ∷ word) (c ∷ bytes) = cond (eqb b c) (word_in word bytes) none

-- a byte is one of the ten digits
abbrev pub is_digit : ℕ → Bool
is_digit b = leb (digit_of 0) b && leb b (digit_of 9)

-- digits up to the first byte that is none, behind those of n
unfoldable pub digits_in : ℕ → List ℕ → Read ℕ
digits_in n [] = value_then n []
digits_in n (b ∷ bytes) = cond (is_digit b) (digits_in (10 * n + (b - digit_of 0)) bytes) (value_then n (b ∷ bytes))

-- a number that begins with this digit: behind a 0 none follows
unfoldable pub number_from : ℕ → List ℕ → Read ℕ
number_from b bytes = cond (eqb b (digit_of 0)) (value_then 0 bytes) (digits_in (b - digit_of 0) bytes)

-- a number, of at least one digit
unfoldable pub number_in : List ℕ → Option (Read ℕ)
number_in [] = none
number_in (b ∷ bytes) = cond (is_digit b) (some (number_from b bytes)) none

-- one of some words: its place among them, counted from k
unfoldable pub choice_in : ℕ → List (List ℕ) → List ℕ → Option (Read ℕ)
choice_in k [] bytes = none
choice_in k (word ∷ words) bytes = first_some (and_then (word_in word bytes) (λ rest. some (value_then k rest))) (choice_in (suc k) words bytes)

-- ---- lines

-- how the line of a piece ends, by its flags
abbrev pub flag_ends : List (List ℕ)
flag_ends = text_bytes "-\n" ∷ text_bytes "s\n" ∷ text_bytes "l\n" ∷ text_bytes "sl\n" ∷ []

-- how the line of a cut ends, by its reason
abbrev pub reason_ends : List (List ℕ)
reason_ends = text_bytes "silence\n" ∷ text_bytes "quiet\n" ∷ text_bytes "forced\n" ∷ []

-- a line of a word, two numbers and one of some ends
unfoldable pub row_in : List ℕ → List (List ℕ) → List ℕ → Option (Read ListedRow)
row_in word ends bytes =
    and_then (word_in word bytes) (λ first.
    and_then (number_in first) (λ from.
    and_then (word_in (text_bytes " ") from.rest) (λ second.
    and_then (number_in second) (λ to.
    and_then (word_in (text_bytes " ") to.rest) (λ third.
    and_then (choice_in 0 ends third) (λ mark.
    some (value_then (record { from = from.value; to = to.value; mark = mark.value }) mark.rest)))))))

-- so many of them
unfoldable pub rows_in : List ℕ → List (List ℕ) → ℕ → List ℕ → Option (Read (List ListedRow))
rows_in word ends zero bytes = some (value_then [] bytes)
rows_in word ends (suc n) bytes =
    and_then (row_in word ends bytes) (λ row.
    and_then (rows_in word ends n row.rest) (λ rows.
    some (value_then (row.value ∷ rows.value) rows.rest)))

-- ---- the whole

-- nothing follows
unfoldable pub ended : List ℕ → Parsed → Option Parsed
ended [] printed = some printed
ended (b ∷ bytes) printed = none

-- the listing of a plan: its counts say how many lines follow
unfoldable pub plan_in : List ℕ → Option Parsed
plan_in bytes =
    and_then (word_in (text_bytes "plan ") bytes) (λ first.
    and_then (number_in first) (λ piece_count.
    and_then (word_in (text_bytes " ") piece_count.rest) (λ second.
    and_then (number_in second) (λ cutCount.
    and_then (word_in (text_bytes "\n") cutCount.rest) (λ lines.
    and_then (rows_in (text_bytes "piece ") flag_ends piece_count.value lines) (λ pieces.
    and_then (rows_in (text_bytes "cut ") reason_ends cutCount.value pieces.rest) (λ cuts.
    ended cuts.rest (planned pieces.value cuts.value))))))))

-- the line of a refusal
unfoldable pub refusal_in : List ℕ → Option Parsed
refusal_in bytes =
    and_then (word_in (text_bytes "refused ") bytes) (λ first.
    and_then (number_in first) (λ number.
    and_then (word_in (text_bytes "\n") number.rest) (λ rest.
    ended rest (refused number.value))))

-- what the bytes say
unfoldable pub parsed_of : List ℕ → Option Parsed
parsed_of bytes = first_some (plan_in bytes) (refusal_in bytes)
