-- Document 01's piece record: start, end, too short, too long.
use Rattle.std.specs.Prelude.{ℕ, ◌+◌, Bool, cond, List, [], ◌∷◌, Float, get_or}
use Rattle.path_pieces.specs.Pieces.{piece_length}
use Rattle.plan_pieces.specs.Flags.{IsShort, is_longer, has_short, has_long}
use Rattle.plan_records.specs.declared.pieces.Piece.{Piece}

-- of the numbers that the operation Plan writes for a piece
abbrev pub piece_of : ℕ → ℕ → ℕ → Piece
piece_of start end flags = record { start = start; end = end; too_short = has_short flags; too_long = has_long flags }

-- the numbers again
abbrev pub numbers_of_piece : Piece → List ℕ
numbers_of_piece p = p.start ∷ (p.end ∷ ((cond p.too_short 1 0 + cond p.too_long 2 0) ∷ []))

-- of the piece itself: from candidate i to candidate j, the tail or not, where left and right have the candidates' ends, and least and most are the minimum and the maximum
abbrev pub piece_record : List ℕ → List ℕ → Float → ℕ → Bool → ℕ → ℕ → Piece
piece_record left right least most tail i j =
    record {
      start = get_or right i 0;
      end = get_or left j 0;
      too_short = IsShort tail least (piece_length left right i j);
      too_long = is_longer most (piece_length left right i j);
    }
