-- With no more shares than frames, each share has a frame at least: so the cuts between shares are different places in rising order.
use Rattle.std.specs.Prelude.{◌≡◌, refl, ℕ, zero, suc, ◌+◌, ◌-◌, ◌*◌, ◌≤◌, ◌<◌, length, get_or}
use Rattle.std.proofs.Common.{sym, ap, subst, le-div_iff_mul-le, div-lt_iff_lt-mul, mul_comm, suc-mul, add-mul, arith}
use mathlib.Core.List.Memᴰ
use mathlib.Core.List.{List, [], ◌∷◌, Memᴰ}
use Rattle.std.proofs.Math.Nat.{mul-div-le}
use Rattle.candidate_span.specs.Gaps.{Cut, Spread}
use Rattle.candidate_span.specs.GapsLaws.{spread_ends}
use Rattle.candidate_span.specs.Span.{Span}
use Rattle.division.specs.Division.{kept_in, Place, Row, Division}
use Rattle.division.specs.Pieces.{pieces_of}
use Rattle.division.specs.PiecesLaws.{row_inside, pieces_count}
use Rattle.division.specs.Places.{cut_at, places_of}
use Rattle.division.specs.PlacesLaws.{in_place, place_inside, places_divide, places_count}
use Rattle.division.specs.Shares.{frames_before, place_after, shares_from, shares_of}

-- ---- shares of a number of frames

-- each share has a frame at least
pub share_some : (frames shares i : ℕ) → 0 < shares → shares ≤ frames → frames_before frames shares i < frames_before frames shares (suc i)
share_some frames shares i h l =
    (le-div_iff_mul-le h).1
    (omega (arith, suc-mul (frames_before frames shares i) shares, suc-mul i frames, mul-div-le (i * frames) shares, mul_comm shares (frames_before frames shares i)))

-- and before the last one not all frames are shared out
pub share_less : (frames shares i : ℕ) → 0 < shares → shares ≤ frames → i < shares → frames_before frames shares i < frames
share_less frames shares i h l k = (div-lt_iff_lt-mul h).1 (go (shares - suc i) (omega arith))
  where
    go : (d : ℕ) → shares ≡ suc i + d → i * frames < frames * shares
    go d e = omega (arith, h, l, mul_comm frames shares, ap (λ (t : ℕ). t * frames) e, add-mul (suc i) d frames, suc-mul i frames)

-- ---- the cuts of a row by number

row_at : (a : ℕ) (ks : List Cut) (z i : ℕ) (d : Cut) → i < length ks → Memᴰ (get_or ks i d) ks
row_at a [] z i d h = absurd (omega arith)
row_at a (k ∷ ks) z zero d h = Memᴰ.head refl
row_at a (k ∷ ks) z (suc i) d h = Memᴰ.tail (row_at a ks z i d (omega arith))

row_rises : (a : ℕ) (ks : List Cut) (z i j : ℕ) (d : Cut) → Row a ks z → i < j → j < length ks → (get_or ks i d).right < (get_or ks j d).left
row_rises a [] z i j d r h l = absurd (omega arith)
row_rises a (k ∷ ks) z i zero d r h l = absurd (omega arith)
row_rises a (k ∷ ks) z zero (suc j) d r h l = (row_inside k.right ks z (get_or ks j d) r.2 (row_at k.right ks z j d (omega arith))).0
row_rises a (k ∷ ks) z (suc i) (suc j) d r h l = row_rises k.right ks z i j d r.2 (omega arith) (omega arith)

-- ---- the cuts between shares

from-length : (s : Span) (shares i n : ℕ) → length (shares_from s shares i n) ≡ n
from-length s shares i zero = refl
from-length s shares i (suc n) = ap suc (from-length s shares (suc i) n)

module _ (s : Span) (spread : Spread s.first s.gaps s.last) where
  after_place : (j : ℕ) → 0 < j → j < kept_in s → Place s (place_after s j)
  after_place j h l =
      in_place s spread (place_after s j)
      (row_at s.first (places_of s) s.last (j - 1) (cut_at 0) (omega (arith, pieces_count s.first (places_of s) s.last, places_count s spread)))

  after_rises : (i j : ℕ) → 0 < i → i < j → j < kept_in s → (place_after s i).right < (place_after s j).left
  after_rises i j h l m =
      row_rises s.first (places_of s) s.last (i - 1) (j - 1) (cut_at 0) (places_divide s spread).rises (omega arith)
      (omega (arith, pieces_count s.first (places_of s) s.last, places_count s spread))

  module _ (shares : ℕ) (some : 0 < shares) (fit : shares ≤ kept_in s) where
    -- before the cut after a share lies a frame at least
    pub share_first : (i : ℕ) → 0 < i → 0 < frames_before (kept_in s) shares i
    share_first zero h = absurd (omega arith)
    share_first (suc i) h = omega (arith, share_some (kept_in s) shares i some fit)

    -- so between a share and the next stands a place
    pub share_place : (i : ℕ) → 0 < i → i < shares → Place s (place_after s (frames_before (kept_in s) shares i))
    share_place i h l = after_place (frames_before (kept_in s) shares i) (share_first i h) (share_less (kept_in s) shares i some fit l)

    share_rises : (i : ℕ) → 0 < i → suc i < shares → (place_after s (frames_before (kept_in s) shares i)).right < (place_after s (frames_before (kept_in s) shares (suc i))).left
    share_rises i h l =
        after_rises (frames_before (kept_in s) shares i) (frames_before (kept_in s) shares (suc i)) (share_first i h) (share_some (kept_in s) shares i some fit)
        (share_less (kept_in s) shares (suc i) some fit l)

    from_row : (a i n : ℕ) → 0 < i → i + n ≤ shares → a < s.last → (0 < n → a < (place_after s (frames_before (kept_in s) shares i)).left) → Row a (shares_from s shares i n) s.last
    from_row a i zero h l e f = e
    from_row a i (suc n) h l e f =
        let o = place_inside s spread (place_after s (frames_before (kept_in s) shares i)) (share_place i h (omega arith)) in (
          f (omega arith),
          o.1,
          from_row (place_after s (frames_before (kept_in s) shares i)).right (suc i) n (omega arith) (omega arith) o.2 (λ t. share_rises i h (omega arith)),
        )

    from-placed : (i n : ℕ) → 0 < i → i + n ≤ shares → (k : Cut) → Memᴰ k (shares_from s shares i n) → Place s k
    from-placed i zero h l k m = absurd (Memᴰ.not-nil m)
    from-placed i (suc n) h l k (Memᴰ.head e) = subst (Place s) (sym e) (share_place i h (omega arith))
    from-placed i (suc n) h l k (Memᴰ.tail m) = from-placed (suc i) n (omega arith) (omega arith) k m

    -- equal shares are a division
    pub shares_divide : Division s (shares_of s shares)
    shares_divide =
        record {
          rises = from_row s.first 1 (shares - 1) (omega arith) (omega arith) (spread_ends s.first s.gaps s.last spread)
              (λ t. (place_inside s spread (place_after s (frames_before (kept_in s) shares 1)) (share_place 1 (omega arith) (omega arith))).0);
          placed = from-placed 1 (shares - 1) (omega arith) (omega arith);
        }

    -- into exactly that many pieces
    pub shares_count : length (pieces_of s (shares_of s shares)) ≡ shares
    shares_count = omega (arith, some, pieces_count s.first (shares_of s shares) s.last, from-length s shares 1 (shares - 1))
