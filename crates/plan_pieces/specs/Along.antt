-- Document 01's pieces (start, end, flags) and cuts (previous end, next start, reason) along a path, three numbers for each: what the Rust's `to_plan` makes, but for the tail's flag.
-- left and right have for each candidate the sample where a piece ends at it and where the next starts, as the path search takes them.
-- reasons has the number of its reason.
use Rattle.std.specs.Prelude.{ℕ, suc, ◌+◌, ◌-◌, Bool, List, [], ◌∷◌, ◌++◌, Float, length, get_or, set}
use Rattle.path_pieces.specs.Pieces.{piece_length}
use Rattle.plan_pieces.specs.Flags.{is_tail, flags_of}
use Rattle.plan_pieces.specs.declared.pieces.PieceEnds.{PieceEnds}

module _ (left right : List ℕ) where
  -- ---- pieces

  -- the piece from candidate i to candidate j, the tail or not; least and most are the minimum and the maximum, in samples
  abbrev pub piece_numbers : Float → ℕ → Bool → ℕ → ℕ → List ℕ
  piece_numbers least most tail i j = get_or right i 0 ∷ (get_or left j 0 ∷ (flags_of tail least most (piece_length left right i j) ∷ []))

  -- where piece i of a path lies, as the code holds it
  abbrev pub piece_at : List ℕ → ℕ → PieceEnds
  piece_at path i = record { start = get_or right (get_or path i 0) 0; end = get_or left (get_or path (suc i) 0) 0 }

  -- piece n of k and those after it, one from each candidate of the rest of a path to the next
  unfoldable pub piece_numbers_from : Float → ℕ → ℕ → ℕ → List ℕ → List ℕ
  piece_numbers_from least most k n [] = []
  piece_numbers_from least most k n (i ∷ []) = []
  piece_numbers_from least most k n (i ∷ (j ∷ rest)) = piece_numbers least most (is_tail k n) i j ++ piece_numbers_from least most k (suc n) (j ∷ rest)

  -- all pieces of a path, one fewer than candidates
  unfoldable pub pieces_along_numbers : Float → ℕ → List ℕ → List ℕ
  pieces_along_numbers least most path = piece_numbers_from least most (length path - 1) 0 path

  -- ---- cuts

  -- the cut at candidate j
  abbrev pub cut_numbers : List ℕ → ℕ → List ℕ
  cut_numbers reasons j = get_or left j 0 ∷ (get_or right j 0 ∷ (get_or reasons j 0 ∷ []))

  -- from the cut at candidate j on; there is none at the last
  unfoldable pub cut_numbers_from : List ℕ → ℕ → List ℕ → List ℕ
  cut_numbers_from reasons j [] = []
  cut_numbers_from reasons j (k ∷ rest) = cut_numbers reasons j ++ cut_numbers_from reasons k rest

  -- a cut at each candidate between the first of a path and its last
  unfoldable pub cuts_along_numbers : List ℕ → List ℕ → List ℕ
  cuts_along_numbers reasons [] = []
  cuts_along_numbers reasons (i ∷ []) = []
  cuts_along_numbers reasons (i ∷ (j ∷ rest)) = cut_numbers_from reasons j rest

-- ---- candidates as numbers in a list

-- the reasons, each behind the left and the right boundary
unfoldable pub reasons_in : List ℕ → List ℕ
reasons_in [] = []
reasons_in (l ∷ []) = []
reasons_in (l ∷ (r ∷ [])) = []
reasons_in (l ∷ (r ∷ (reason ∷ rest))) = reason ∷ reasons_in rest

-- three of them from `at` on
unfoldable pub put_three : ℕ → ℕ → ℕ → ℕ → List ℕ → List ℕ
put_three at a b c xs = set (set (set xs at a) (at + 1) b) (at + 2) c
