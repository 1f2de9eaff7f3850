-- Thirds of the lengths are compared, so that nothing overflows; and the two ends of handing out.
use Rattle.std.specs.Prelude.{◌≡◌, refl, Bool, true, false, List, ℕ, ◌+◌, ◌-◌, ◌*◌, ◌/◌, ◌≤◌, ◌<◌, leb, length, Ok, Err}
use Rattle.std.proofs.Common.{sym, arith}
use borrow.Author.Tests.{leb-true, leb-false, le-leb, lt-leb}
use Rattle.base_terms.specs.Lists.{onto}
use Rattle.base_laws.specs.Tests.{both}
use Rattle.plan_pieces.specs.declared.answer.Error.TheVariants.{ShortOutput}
use Rattle.plan_pieces.specs.Output.{Output, output_of, handed_of, has_room, handed_out_of}

module _ (pieces piecesLength cutsLength : ℕ) where
  -- there is no room where the numbers are too few for the pieces
  pub room-short : piecesLength / 3 < pieces → false ≡ has_room pieces piecesLength cutsLength
  unfolding has_room
  room-short h = rw (lt-leb (3 * pieces) piecesLength (omega (arith, h)))

  third : (b : Bool) → (b ≡ true → pieces ≤ cutsLength / 3 + 1) → (b ≡ false → cutsLength / 3 + 1 < pieces) → b ≡ leb (3 * (pieces - 1)) cutsLength
  third true f g = sym (le-leb (3 * (pieces - 1)) cutsLength (omega (arith, f refl)))
  third false f g = sym (lt-leb (3 * (pieces - 1)) cutsLength (omega (arith, g refl)))

  -- else the cuts decide: one fewer than pieces
  pub room-cuts : pieces ≤ piecesLength / 3 → leb pieces (cutsLength / 3 + 1) ≡ has_room pieces piecesLength cutsLength
  unfolding has_room
  room-cuts h =
      rw (le-leb (3 * pieces) piecesLength (omega (arith, h)))
      (third (leb pieces (cutsLength / 3 + 1)) (leb-true pieces (cutsLength / 3 + 1)) (leb-false pieces (cutsLength / 3 + 1)))

  -- where there is room, three numbers fit for each piece and for each cut
  pub room_parts : has_room pieces piecesLength cutsLength ≡ true → (3 * pieces ≤ piecesLength) × (3 * (pieces - 1) ≤ cutsLength)
  unfolding has_room
  room_parts e =
      let p = both (leb (3 * pieces) piecesLength) (leb (3 * (pieces - 1)) cutsLength) e in
      (leb-true (3 * pieces) piecesLength p.0, leb-true (3 * (pieces - 1)) cutsLength p.1)

module _ (pieces : ℕ) (piece_numbers cut_numbers : List ℕ) (out : Output) where
  -- without room the end is 12
  pub out-short : has_room pieces (length out.pieces) (length out.cuts) ≡ false
      → handed_of (Err ShortOutput) out ≡ handed_out_of pieces piece_numbers cut_numbers out
  unfolding handed_out_of
  out-short n = rw n

  -- with room in both the plan is handed out
  pub out-planned : (ps cs : List ℕ) → has_room pieces (length out.pieces) (length out.cuts) ≡ true → ps ≡ onto piece_numbers out.pieces
      → cs ≡ onto cut_numbers out.cuts → handed_of (Ok pieces) (output_of ps cs) ≡ handed_out_of pieces piece_numbers cut_numbers out
  unfolding handed_out_of
  out-planned ps cs n e f = rw (n, e, f)
