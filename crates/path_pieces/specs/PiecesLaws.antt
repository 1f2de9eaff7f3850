-- Laws of a piece over the limit, what the test says and that it counts at most one, of the piece rule under a longer limit, and of the cut at a candidate.
use Rattle.std.specs.Prelude.{◌≡◌, List, ℕ, suc, ◌≤◌, ◌<◌, T, ltb, leb, eqb, Float, length, get_or}
use Rattle.std.proofs.Common.{le_trans, arith, lt-ltb, le-ltb, inl, inr, leb→le, le→leb}
use Rattle.std.specs.Float.{nan}
use Rattle.base_laws.specs.Tests.{lt_or_le, tested, or_l, or_r, or_split}
use Rattle.path_pieces.specs.Pieces.{piece_length, over_of, is_within, may_start, with_cut, with_cut_at}
use Rattle.path_pieces.specs.declared.score.Score.{Score}

-- a longer piece counts
pub over_longer : (limit len : ℕ) → limit < len → over_of limit len ≡ 1
unfolding over_of
over_longer limit len h = rw (lt-ltb limit len h)

-- a piece within the limit does not
pub over-within : (limit len : ℕ) → len ≤ limit → over_of limit len ≡ 0
unfolding over_of
over-within limit len h = rw (le-ltb limit len h)

-- it counts once at most
pub over-one : (limit len : ℕ) → over_of limit len ≤ 1
unfolding over_of
over-one limit len = elim (tested (ltb limit len)) [ inl e ↦ rw e (omega arith) | inr e ↦ rw e (omega arith) ]

-- and no less for a longer piece
pub over_mono : (limit len more : ℕ) → len ≤ more → over_of limit len ≤ over_of limit more
over_mono limit len more h = elim (lt_or_le limit len) [
  | inl l ↦ rw (over_longer limit len l, over_longer limit more (omega arith)) (omega arith)
  | inr g ↦ rw (over-within limit len g) (omega arith)
]

-- and no more under a longer limit
pub over_raised : (low high : ℕ) → low ≤ high → (len : ℕ) → over_of high len ≤ over_of low len
over_raised low high up len = elim (lt_or_le low len) [
  | inl l ↦ rw (over_longer low len l) (over-one high len)
  | inr g ↦ rw (over-within high len (le_trans g up)) (omega arith)
]

-- ---- the piece rule

-- a piece that it allows is allowed under a longer limit
pub start_raised : (low high : ℕ) → low ≤ high → (left right : List ℕ) (j i : ℕ) → T (may_start low left right j i) → T (may_start high left right j i)
unfolding may_start is_within
start_raised low high up left right j i t =
    let len = piece_length left right i j in
    elim (or_split (leb len low) (eqb (suc i) j) t) [
      | inl w ↦ or_l (leb len high) (eqb (suc i) j) (le→leb len high (le_trans (leb→le len low w) up))
      | inr n ↦ or_r (leb len high) (eqb (suc i) j) n
    ]

-- ---- the cut at a candidate

-- at an inner candidate it is added
pub cut_at-inner : (cut : List Float) (j : ℕ) (s : Score) → suc j < length cut → with_cut_at cut j s ≡ with_cut s (get_or cut j nan)
unfolding with_cut_at
cut_at-inner cut j s h = rw (lt-ltb (suc j) (length cut) h)

-- at the last there is none
pub cut_at-last : (cut : List Float) (j : ℕ) (s : Score) → length cut ≤ suc j → with_cut_at cut j s ≡ s
unfolding with_cut_at
cut_at-last cut j s h = rw (le-ltb (suc j) (length cut) h)

-- it adds no piece
pub cut_at-over : (cut : List Float) (j : ℕ) (s : Score) → (with_cut_at cut j s).over ≡ s.over
unfolding with_cut_at with_cut
cut_at-over cut j s = elim (tested (ltb (suc j) (length cut))) [ inl e ↦ rw e | inr e ↦ rw e ]
