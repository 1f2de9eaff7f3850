-- Document 01's listing: what `cutplan` prints, in ASCII, with a line feed after each line.
use Rattle.std.specs.Prelude.{ℕ, ◌+◌, ◌-◌, ◌*◌, cond, List, [], ◌∷◌, map, eqb, length}
use Rattle.listing.specs.Text.{text_bytes, decimal_of, joined}
use Rattle.listing.specs.Rows.{ListedRow, rows_of}

-- "flags (`s` short, `l` long, `sl`, `-`)": 0 none, 1 short, 2 long, and every other number both
unfoldable pub flags_word : ℕ → List ℕ
flags_word flags = cond (eqb flags 0) (text_bytes "-") (cond (eqb flags 1) (text_bytes "s") (cond (eqb flags 2) (text_bytes "l") (text_bytes "sl")))

-- "reason (silence, quiet, forced)": 0 silence, 1 quiet, and every other number forced
unfoldable pub reason_word : ℕ → List ℕ
reason_word reason = cond (eqb reason 0) (text_bytes "silence") (cond (eqb reason 1) (text_bytes "quiet") (text_bytes "forced"))

-- how a plan's lines begin: a word and two numbers
unfoldable pub numbers_line : List ℕ → ℕ → ℕ → List ℕ
numbers_line word a b = joined (word ∷ decimal_of a ∷ text_bytes " " ∷ decimal_of b ∷ [])

-- "counts of pieces and cuts"
unfoldable pub plan_line : ℕ → ℕ → List ℕ
plan_line pieces cuts = joined (numbers_line (text_bytes "plan ") pieces cuts ∷ text_bytes "\n" ∷ [])

-- "start, end, flags"
unfoldable pub piece_line : ℕ → ℕ → ℕ → List ℕ
piece_line start end flags = joined (numbers_line (text_bytes "piece ") start end ∷ text_bytes " " ∷ flags_word flags ∷ text_bytes "\n" ∷ [])

-- "previous end, next start, reason"
unfoldable pub cut_line : ℕ → ℕ → ℕ → List ℕ
cut_line end start reason = joined (numbers_line (text_bytes "cut ") end start ∷ text_bytes " " ∷ reason_word reason ∷ text_bytes "\n" ∷ [])

-- the line of a row
abbrev pub line_of : (ℕ → ℕ → ℕ → List ℕ) → ListedRow → List ℕ
line_of line row = line row.from row.to row.mark

-- a line for each row
unfoldable pub lines_of : (ℕ → ℕ → ℕ → List ℕ) → List ListedRow → List ℕ
lines_of line rows = joined (map (line_of line) rows)

-- the listing of these pieces and cuts
unfoldable pub listed : List ListedRow → List ListedRow → List ℕ
listed pieces cuts = joined (plan_line (length pieces) (length cuts) ∷ lines_of piece_line pieces ∷ lines_of cut_line cuts ∷ [])

-- the listing of a plan of n pieces, and so of n − 1 cuts, by its numbers
unfoldable pub listing_of : ℕ → List ℕ → List ℕ → List ℕ
listing_of n pieces cuts = listed (rows_of n pieces) (rows_of (n - 1) cuts)

-- "A refusal prints `refused` and its number."
unfoldable pub refusal_line : ℕ → List ℕ
refusal_line number = joined (text_bytes "refused " ∷ decimal_of number ∷ text_bytes "\n" ∷ [])

-- ---- the most bytes, where no number has more than 20 digits, and a refusal's no more than 10

-- the first line: `plan `, two numbers, a space and the line feed
abbrev pub plan_line_room : ℕ
plan_line_room = 47

-- a piece's line: `piece `, two numbers, two spaces, `sl` and the line feed
abbrev pub piece_line_room : ℕ
piece_line_room = 51

-- a cut's line: `cut `, two numbers, two spaces, `silence` and the line feed
abbrev pub cut_line_room : ℕ
cut_line_room = 54

-- a refusal's line: `refused `, a number and the line feed
abbrev pub refusal_room : ℕ
refusal_room = 19

-- a listing of n pieces
abbrev pub room_for : ℕ → ℕ
room_for n = plan_line_room + (piece_line_room + cut_line_room) * n
