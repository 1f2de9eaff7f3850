-- A piece's record has all that its numbers say.
use Rattle.std.specs.Prelude.{◌≡◌, refl, Bool, cond, List, [], ◌∷◌, ℕ, zero, suc, ◌+◌, ◌≤◌, Float, get_or}
use Rattle.std.proofs.Common.{ap, arith}
use Rattle.path_pieces.specs.Pieces.{piece_length}
use Rattle.plan_pieces.specs.Flags.{has_short, has_long, flags_of}
use Rattle.plan_pieces.specs.FlagsLaws.{short-stands, long_stands}
use Rattle.plan_records.specs.Pieces.{piece_of, numbers_of_piece, piece_record}

-- of the flags that a plan sets, each stands in the record exactly where the plan sets it
pub piece_flagged : (left right : List ℕ) (least : Float) (most : ℕ) (tail : Bool) (i j : ℕ)
    → piece_of (get_or right i 0) (get_or left j 0) (flags_of tail least most (piece_length left right i j)) ≡ piece_record left right least most tail i j
piece_flagged left right least most tail i j =
    rw (short-stands tail least most (piece_length left right i j), long_stands tail least most (piece_length left right i j))

flags_back : (flags : ℕ) → flags ≤ 3 → cond (has_short flags) 1 0 + cond (has_long flags) 2 0 ≡ flags
flags_back zero h = refl
flags_back (suc zero) h = refl
flags_back (suc (suc zero)) h = refl
flags_back (suc (suc (suc zero))) h = refl
flags_back (suc (suc (suc (suc n)))) h = absurd (omega arith)

-- the record's numbers are those that it was made of
pub piece_back : (start end flags : ℕ) → flags ≤ 3 → numbers_of_piece (piece_of start end flags) ≡ start ∷ (end ∷ (flags ∷ []))
piece_back start end flags h = ap (λ (f : ℕ). start ∷ (end ∷ (f ∷ []))) (flags_back flags h)
