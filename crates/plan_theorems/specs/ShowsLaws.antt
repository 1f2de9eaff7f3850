-- An output that shows a division fills the span: what holds of the division's pieces and cuts by the list holds of the output by the number.
use Rattle.std.specs.Prelude.{◌≡◌, refl, List, [], ◌∷◌, ℕ, zero, suc, ◌-◌, ◌≤◌, ◌<◌, length, get_or}
use Rattle.std.proofs.Common.{sym, ap, ◌∙◌, arith}
use Rattle.grid.specs.Boundary.{boundary_of}
use Rattle.grid.specs.BoundaryLaws.{Accepted}
use Rattle.grid.specs.declared.boundary.FrameGrid.{FrameGrid}
use Rattle.candidate_span.specs.Gaps.{Cut}
use Rattle.candidate_span.specs.Span.{Span}
use Rattle.division.specs.Division.{Division}
use Rattle.division.specs.Pieces.{Piece, piece_from, pieces_from, pieces_of, length_of, total, between, InOrder}
use Rattle.division.specs.PiecesLaws.{pieces_count, pieces_add, pieces_order}
use Rattle.division.specs.Places.{cut_at}
use Rattle.plan_pieces.specs.Output.{Output}
use Rattle.plan_theorems.specs.Made.{length_at, previous_end_of, next_start_of, sum_up_to, Shows, Fills}

-- ---- sums

sum_same : (n : ℕ) (f h : ℕ → ℕ) → ((i : ℕ) → i < n → f i ≡ h i) → sum_up_to f n ≡ sum_up_to h n
sum_same zero f h e = refl
sum_same (suc n) f h e = omega (arith, e 0 (omega arith), sum_same n (λ (i : ℕ). f (suc i)) (λ (i : ℕ). h (suc i)) (λ i l. e (suc i) (omega arith)))

-- ---- pieces and cuts by their numbers

abbrev piece_at : List Piece → ℕ → Piece
piece_at ps i = get_or ps i (piece_from 0 0)

abbrev cut_in : List Cut → ℕ → Cut
cut_in ks i = get_or ks i (cut_at 0)

row_starts : (a : ℕ) (ks : List Cut) (z : ℕ) → (piece_at (pieces_from a ks z) 0).start ≡ a
row_starts a [] z = refl
row_starts a (k ∷ ks) z = refl

row_stops : (a : ℕ) (ks : List Cut) (z : ℕ) → (piece_at (pieces_from a ks z) (length ks)).end ≡ z
row_stops a [] z = refl
row_stops a (k ∷ ks) z = row_stops k.right ks z

-- a cut goes from the end of one piece to the start of the next
row_left : (a : ℕ) (ks : List Cut) (z i : ℕ) → i < length ks → (cut_in ks i).left ≡ (piece_at (pieces_from a ks z) i).end
row_left a [] z i h = absurd (omega arith)
row_left a (k ∷ ks) z zero h = refl
row_left a (k ∷ ks) z (suc i) h = row_left k.right ks z i (omega arith)

row_right : (a : ℕ) (ks : List Cut) (z i : ℕ) → i < length ks → (cut_in ks i).right ≡ (piece_at (pieces_from a ks z) (suc i)).start
row_right a [] z i h = absurd (omega arith)
row_right a (k ∷ ks) z zero h = sym (row_starts k.right ks z)
row_right a (k ∷ ks) z (suc i) h = row_right k.right ks z i (omega arith)

-- ---- in samples

module _ (g : FrameGrid) where
  rises_at : (ps : List Piece) (i : ℕ) → InOrder g ps → i < length ps → boundary_of g (piece_at ps i).start < boundary_of g (piece_at ps i).end
  rises_at [] i o h = absurd (omega arith)
  rises_at (p ∷ []) zero o h = o
  rises_at (p ∷ []) (suc i) o h = absurd (omega arith)
  rises_at (p ∷ (q ∷ ps)) zero o h = o.0
  rises_at (p ∷ (q ∷ ps)) (suc i) o h = rises_at (q ∷ ps) i o.2 (omega arith)

  order_at : (ps : List Piece) (i : ℕ) → InOrder g ps → suc i < length ps → boundary_of g (piece_at ps i).end ≤ boundary_of g (piece_at ps (suc i)).start
  order_at [] i o h = absurd (omega arith)
  order_at (p ∷ []) i o h = absurd (omega arith)
  order_at (p ∷ (q ∷ ps)) zero o h = o.1
  order_at (p ∷ (q ∷ ps)) (suc i) o h = order_at (q ∷ ps) i o.2 (omega arith)

  total-sum : (ps : List Piece) → total g ps ≡ sum_up_to (λ (i : ℕ). length_of g (piece_at ps i)) (length ps)
  total-sum [] = refl
  total-sum (p ∷ ps) = omega (arith, total-sum ps)

  between-sum : (ks : List Cut) → between g ks ≡ sum_up_to (λ (i : ℕ). boundary_of g (cut_in ks i).right - boundary_of g (cut_in ks i).left) (length ks)
  between-sum [] = refl
  between-sum (k ∷ ks) = omega (arith, between-sum ks)

-- ---- the output

module _ (g : FrameGrid) (ok : Accepted g) (s : Span) (inside : s.last ≤ g.frames) (cuts : List Cut) (d : Division s cuts) (k : ℕ) (out : Output)
    (shown : Shows g s cuts k out) where
  count : k ≡ suc (length cuts)
  count = sym shown.number ∙ pieces_count s.first cuts s.last

  ordered : InOrder g (pieces_of s cuts)
  ordered = pieces_order g ok s cuts inside d

  pieces_sum : sum_up_to (length_at out) k ≡ total g (pieces_of s cuts)
  pieces_sum =
      sum_same k (length_at out) (λ (i : ℕ). length_of g (piece_at (pieces_of s cuts) i)) (λ i h. omega (arith, shown.piece_start_lem i h, shown.piece_end_lem i h))
      ∙ ap (sum_up_to (λ (i : ℕ). length_of g (piece_at (pieces_of s cuts) i))) (sym shown.number) ∙ sym (total-sum g (pieces_of s cuts))

  cuts-sum : sum_up_to (λ (i : ℕ). next_start_of out i - previous_end_of out i) (k - 1) ≡ between g cuts
  cuts-sum =
      let n : k - 1 ≡ length cuts = omega (arith, count) in
      sum_same (k - 1) (λ (i : ℕ). next_start_of out i - previous_end_of out i) (λ (i : ℕ). boundary_of g (cut_in cuts i).right - boundary_of g (cut_in cuts i).left)
      (λ i h. omega (arith, shown.cut_start i (omega (arith, h)), shown.cut_end i (omega (arith, h))))
      ∙ ap (sum_up_to (λ (i : ℕ). boundary_of g (cut_in cuts i).right - boundary_of g (cut_in cuts i).left)) n ∙ sym (between-sum g cuts)

  -- an output that shows a division fills the span with its pieces
  pub shows_fills : Fills (boundary_of g s.first) (boundary_of g s.last) k out
  shows_fills = record {
    some = omega (arith, count);
    starts = shown.piece_start_lem 0 (omega (arith, count)) ∙ ap (boundary_of g) (row_starts s.first cuts s.last);
    stops = shown.piece_end_lem (k - 1) (omega (arith, count)) ∙ ap (λ (i : ℕ). boundary_of g (piece_at (pieces_of s cuts) i).end) last
        ∙ ap (boundary_of g) (row_stops s.first cuts s.last);
    rises = λ i h. rw (shown.piece_start_lem i h, shown.piece_end_lem i h) (rises_at g (pieces_of s cuts) i ordered (omega (arith, h, shown.number)));
    order = λ i h. rw (shown.piece_end_lem i (omega (arith, h)), shown.piece_start_lem (suc i) h) (order_at g (pieces_of s cuts) i ordered (omega (arith, h, shown.number)));
    cuts = λ i h. (
      shown.cut_start i h ∙ ap (boundary_of g) (row_left s.first cuts s.last i (omega (arith, h, count))) ∙ sym (shown.piece_end_lem i (omega (arith, h))),
      shown.cut_end i h ∙ ap (boundary_of g) (row_right s.first cuts s.last i (omega (arith, h, count))) ∙ sym (shown.piece_start_lem (suc i) h),
    );
    adds = omega (arith, pieces_sum, cuts-sum, pieces_add g ok s cuts d);
  }
    where
      last : k - 1 ≡ length cuts
      last = omega (arith, count)
