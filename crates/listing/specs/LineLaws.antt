-- The lines and the listing as the texts that they are made of: where there is room for one of them, there is room for its texts.
use Rattle.std.specs.Prelude.{ℕ, ◌-◌, ◌≡◌, List, [], ◌∷◌, length}
use Rattle.std.proofs.Common.{append-nil}
use Rattle.base_code.specs.FrontLaws.{tabulate-length}
use Rattle.base_terms.specs.Lists.{tabulate}
use Rattle.listing.specs.Text.{text_bytes, decimal_of, joined}
use Rattle.listing.specs.Rows.{row_at, rows_of}
use Rattle.listing.specs.Listing.{flags_word, reason_word, numbers_line, plan_line, piece_line, cut_line, lines_of, listed, listing_of, refusal_line}
use Rattle.listing.specs.Written.{Room, Written}
use Rattle.listing.specs.WrittenLaws.{Rooms, Wrote}

-- ---- lines: where there is room for one, there is room for the texts that it is made of

module _ {list : List ℕ} {at : ℕ} where
  -- the word and the two numbers that a line begins with
  pub numbers_rooms : (word : List ℕ) (a b : ℕ) → Room (length (numbers_line word a b)) list at
      → Rooms (word ∷ decimal_of a ∷ text_bytes " " ∷ decimal_of b ∷ []) list at
  unfolding numbers_line
  numbers_rooms word a b r = record { all = r }

  -- the first line
  pub plan_rooms : (pieces cuts : ℕ) → Room (length (plan_line pieces cuts)) list at → Rooms (numbers_line (text_bytes "plan ") pieces cuts ∷ text_bytes "\n" ∷ []) list at
  unfolding plan_line
  plan_rooms pieces cuts r = record { all = r }

  -- the line of a piece
  pub piece_rooms : (start end flags : ℕ) → Room (length (piece_line start end flags)) list at
      → Rooms (numbers_line (text_bytes "piece ") start end ∷ text_bytes " " ∷ flags_word flags ∷ text_bytes "\n" ∷ []) list at
  unfolding piece_line
  piece_rooms start end flags r = record { all = r }

  -- the line of a cut
  pub cut_rooms : (end start reason : ℕ) → Room (length (cut_line end start reason)) list at
      → Rooms (numbers_line (text_bytes "cut ") end start ∷ text_bytes " " ∷ reason_word reason ∷ text_bytes "\n" ∷ []) list at
  unfolding cut_line
  cut_rooms end start reason r = record { all = r }

  -- the line of a refusal
  pub refusal_rooms : (number : ℕ) → Room (length (refusal_line number)) list at → Rooms (text_bytes "refused " ∷ decimal_of number ∷ text_bytes "\n" ∷ []) list at
  unfolding refusal_line
  refusal_rooms number r = record { all = r }

-- ---- the listing of a plan of n pieces and m cuts

module _ (n m : ℕ) (pieces cuts : List ℕ) (counts : m ≡ n - 1) {list : List ℕ} {at : ℕ} where
  -- where there is room for it, there is room for its lines
  pub listing_rooms : Room (length (listing_of n pieces cuts)) list at
      → Rooms (plan_line n m ∷ lines_of piece_line (rows_of n pieces) ∷ lines_of cut_line (rows_of m cuts) ∷ []) list at
  unfolding listing_of listed
  listing_rooms r = rw counts (record { all = rw (tabulate-length (row_at pieces) n, tabulate-length (row_at cuts) (n - 1)) at r })

  -- its lines, one behind another, are the listing
  pub listing_wrote : {after : List ℕ} {next : ℕ}
      → Wrote (plan_line n m ∷ lines_of piece_line (rows_of n pieces) ∷ lines_of cut_line (rows_of m cuts) ∷ []) list at after next
      → Written (listing_of n pieces cuts) list at after next
  unfolding listing_of listed
  listing_wrote w = rw (tabulate-length (row_at pieces) n, tabulate-length (row_at cuts) (n - 1), ← counts) w.all

-- the listing of a plan without pieces is its first line
pub no_pieces : (pieces cuts : List ℕ) → listing_of 0 pieces cuts ≡ plan_line 0 0
unfolding listing_of listed lines_of joined tabulate
no_pieces pieces cuts = append-nil (plan_line 0 0)
