-- No listing takes more than the room that is kept for it, where its numbers have at most 64 bits.
use Prim.Native.Nat.{ℕ, zero, suc, ◌+◌, ◌-◌, ◌*◌, ◌≤◌, ◌<◌}
use Rattle.std.proofs.Common.{inl, inr, lt_of_lt_of_le, lit≤, length-append}
use Rattle.std.specs.Prelude.{List, eqb, length}
use native.Mathlib.Omega.{arith}
use Rattle.base_terms.specs.Limits.{IsU64}
use Rattle.base_laws.specs.Tests.{tested}
use Rattle.base_code.specs.FrontLaws.{tabulate-length}
use Rattle.base_terms.specs.Lists.{tabulate}
use Rattle.listing.specs.Text.{text_bytes, decimal_of, joined}
use Rattle.listing.proofs.TextLaws.{decimal_fits}
use Rattle.listing.specs.Rows.{AllWide, row_at, rows_of}
use Rattle.listing.specs.Listing.{flags_word, reason_word, numbers_line, plan_line, piece_line, cut_line, lines_of, listed, listing_of, refusal_line, plan_line_room, piece_line_room, cut_line_room, refusal_room, room_for}
use Rattle.listing.specs.Lines.{lines_more}

number_fits : (n : ℕ) → IsU64 n → length (decimal_of n) ≤ 20
number_fits n h = decimal_fits 19 n (lt_of_lt_of_le h (lit≤ tt))

flags_fit : (flags : ℕ) → length (flags_word flags) ≤ 2
unfolding flags_word
flags_fit flags = elim (tested (eqb flags 0)) [
  | inl e ↦ rw e (omega arith)
  | inr e ↦ rw e (elim (tested (eqb flags 1)) [
    | inl f ↦ rw f (omega arith)
    | inr f ↦ rw f (elim (tested (eqb flags 2)) [ inl g ↦ rw g (omega arith) | inr g ↦ rw g (omega arith) ])
  ])
]

reason_fits : (reason : ℕ) → length (reason_word reason) ≤ 7
unfolding reason_word
reason_fits reason = elim (tested (eqb reason 0)) [
  | inl e ↦ rw e (omega arith)
  | inr e ↦ rw e (elim (tested (eqb reason 1)) [ inl f ↦ rw f (omega arith) | inr f ↦ rw f (omega arith) ])
]

numbers_fit : (word : List ℕ) (a b : ℕ) → IsU64 a → IsU64 b → length (numbers_line word a b) ≤ length word + 41
unfolding numbers_line joined
numbers_fit word a b h k = simp length-append (omega (arith, number_fits a h, number_fits b k))

-- the first line of a listing takes no more than `plan_line_room`
pub plan_fits : (pieces cuts : ℕ) → IsU64 pieces → IsU64 cuts → length (plan_line pieces cuts) ≤ plan_line_room
unfolding plan_line joined
plan_fits pieces cuts h k = simp length-append (omega (arith, numbers_fit (text_bytes "plan ") pieces cuts h k))

piece_fits : (start end flags : ℕ) → IsU64 start → IsU64 end → length (piece_line start end flags) ≤ piece_line_room
unfolding piece_line joined
piece_fits start end flags h k = simp length-append (omega (arith, numbers_fit (text_bytes "piece ") start end h k, flags_fit flags))

cut_fits : (end start reason : ℕ) → IsU64 end → IsU64 start → length (cut_line end start reason) ≤ cut_line_room
unfolding cut_line joined
cut_fits end start reason h k = simp length-append (omega (arith, numbers_fit (text_bytes "cut ") end start h k, reason_fits reason))

-- the line of a refusal, whose number has 32 bits, takes no more than `refusal_room`
pub refusal_fits : (number : ℕ) → number < 4294967296 → length (refusal_line number) ≤ refusal_room
unfolding refusal_line joined
refusal_fits number h = simp length-append (omega (arith, decimal_fits 9 number (lt_of_lt_of_le h (lit≤ tt))))

module _ (line : ℕ → ℕ → ℕ → List ℕ) (room : ℕ) (fits : (a b c : ℕ) → IsU64 a → IsU64 b → length (line a b c) ≤ room) where
  lines_fit : (n : ℕ) (numbers : List ℕ) → AllWide numbers → length (lines_of line (rows_of n numbers)) ≤ room * n
  unfolding lines_of joined tabulate
  lines_fit zero numbers w = omega arith
  lines_fit (suc n) numbers w =
      let row = row_at numbers n in
      rw (lines_more line numbers n, length-append)
      (omega (arith, lines_fit n numbers w, fits row.from row.to row.mark (w.at (3 * n)) (w.at (3 * n + 1))))

-- a listing of n pieces takes no more than `room_for n`
pub listing_fits : (n : ℕ) (pieces cuts : List ℕ) → IsU64 n → AllWide pieces → AllWide cuts
    → length (listing_of n pieces cuts) ≤ room_for n
unfolding listing_of listed joined
listing_fits n pieces cuts h p c =
    rw (tabulate-length (row_at pieces) n, tabulate-length (row_at cuts) (n - 1))
    (simp length-append (omega (
      arith,
      plan_fits n (n - 1) h (omega arith),
      lines_fit piece_line piece_line_room piece_fits n pieces p,
      lines_fit cut_line cut_line_room cut_fits (n - 1) cuts c,
    )))
