-- Laws of the walk back: the loop that writes the path from its end, and that the rows of the table give the table's path.
use Rattle.std.specs.Prelude.{◌≡◌, Float, length, get_or, take}
use Rattle.std.proofs.Math.Path.{refl, sym, ap}
use Rattle.std.proofs.Common.{◌∙◌, le_refl, arith, length-append, take-append-drop, take-suc, length-take-le}
use mathlib.Core.List.{List, [], ◌∷◌, ◌++◌, append_assoc, append-nil}
use Prim.Native.Nat.{ℕ, zero, suc, ◌+◌, ◌-◌, ◌*◌, ◌≤◌, ◌<◌}
use Rattle.std.proofs.Math.ListN.{drop, set}
use Rattle.std.proofs.Math.Seq.{set_at}
use Rattle.base_terms.specs.Lists.{onto}
use Rattle.path_pieces.specs.Domain.{Searchable}
use Rattle.path_pieces.specs.declared.lengths.Lengths.{Lengths}
use Rattle.path_by_count.specs.Table.{parent_with, way_with}
use Rattle.path_by_count.specs.TableLaws.{parent-reached, parent_allowed}
use Rattle.path_by_count.specs.Filled.{parent_in, RowsFilled}
use Rattle.path_by_count.specs.FilledLaws.{row_within}
use Rattle.path_by_count.specs.Walk.{way_in, Back}

-- a path of k pieces has one candidate more
pub way_length : (parent : List ℕ) (n k j : ℕ) → length (way_in parent n k j) ≡ suc k
unfolding way_in
way_length parent n zero j = refl
way_length parent n (suc k) j = simp length-append (omega (arith, way_length parent n k (parent_in parent n k j)))

-- ---- the loop: after the steps that are left, k of them, the path goes on with what is written

-- k steps are left from candidate j, and the list holds the candidates passed
pub record Walking (parent : List ℕ) (n pieces : ℕ) (path₀ path : List ℕ) (k j : ℕ) : Type 0 where
  pub rest : List ℕ
  pub way : way_in parent n k j ++ rest ≡ way_in parent n pieces (n - 1)
  pub written : path ≡ take (suc k) path₀ ++ (rest ++ drop (suc pieces) path₀)
  pub left_over : k ≤ pieces
  pub reached : k ≤ j
  pub inside : j < n

module _ {parent : List ℕ} {n pieces : ℕ} {path₀ : List ℕ} (back : Back parent n pieces) where
  -- before the first step
  pub walking_start : pieces + 1 ≤ length path₀ → Walking parent n pieces path₀ path₀ pieces (n - 1)
  walking_start h = record {
    rest = [];
    way = append-nil (way_in parent n pieces (n - 1));
    written = sym (take-append-drop (suc pieces) path₀);
    left_over = le_refl pieces;
    reached = omega (arith, back.fewer);
    inside = omega (arith, back.fewer);
  }

  module _ {path : List ℕ} {k j : ℕ} (room : pieces + 1 ≤ length path₀) (w : Walking parent n pieces path₀ path (suc k) j) where
    -- one step back
    pub walking_next : Walking parent n pieces path₀ (set path (suc k) j) k (parent_in parent n k j)
    unfolding way_in
    walking_next =
        let f = back.falling k j (omega (arith, w.left_over)) w.reached w.inside in
        record {
          rest = j ∷ w.rest;
          way = sym (append_assoc (way_in parent n k (parent_in parent n k j)) (j ∷ []) w.rest) ∙ w.way;
          written = ap (λ (xs : List ℕ). set xs (suc k) j) (w.written ∙ ap (λ (xs : List ℕ). xs ++ (w.rest ++ drop (suc pieces) path₀)) (take-suc path₀ (suc k) 0 (omega (arith, w.left_over)))
              ∙ append_assoc (take (suc k) path₀) (get_or path₀ (suc k) 0 ∷ []) (w.rest ++ drop (suc pieces) path₀))
              ∙ set_at (take (suc k) path₀) (get_or path₀ (suc k) 0) (w.rest ++ drop (suc pieces) path₀) j (suc k) (length-take-le (suc k) path₀ (omega (arith, w.left_over)));
          left_over = omega (arith, w.left_over);
          reached = f.0;
          inside = omega (arith, f.1, w.inside);
        }

  -- as the loop counts
  pub walking_more : {path : List ℕ} {k j : ℕ} (i m : ℕ) → pieces + 1 ≤ length path₀ → k ≡ suc i → m ≡ suc i → Walking parent n pieces path₀ path k j
      → Walking parent n pieces path₀ (set path m j) i (get_or parent (i * n + j) 0)
  walking_more {path} {k} {j} i m room e d w =
      let u : Walking parent n pieces path₀ path (suc i) j = rw e at w in
      rw d (walking_next room u)

  -- the parent that is read lies in the list
  pub walking_inside : {path : List ℕ} {k j : ℕ} (i : ℕ) → i < k → Walking parent n pieces path₀ path k j → i * n + j < length parent
  walking_inside i h w = omega (arith, row_within i pieces n (omega (arith, w.left_over)), w.inside, back.room)

  -- at the first candidate
  pub walking_done : {path : List ℕ} {j : ℕ} → pieces + 1 ≤ length path₀ → Walking parent n pieces path₀ path 0 j
      → set path 0 j ≡ onto (way_in parent n pieces (n - 1)) path₀
  unfolding way_in onto
  walking_done {path} {j} room w =
      ap (λ (xs : List ℕ). set xs 0 j) (w.written ∙ ap (λ (xs : List ℕ). xs ++ (w.rest ++ drop (suc pieces) path₀)) (take-suc path₀ 0 0 (omega arith)))
      ∙ ap (λ (xs : List ℕ). xs ++ drop (suc pieces) path₀) w.way
      ∙ ap (λ (m : ℕ). way_in parent n pieces (n - 1) ++ drop m path₀) (sym (way_length parent n pieces (n - 1)))

-- ---- the rows of the table

module _ {l : Lengths} {left right : List ℕ} {cut : List Float} {leaves : ℕ} {over : List ℕ} {cost : List Float} {parent : List ℕ} {k : ℕ}
    (f : RowsFilled l left right cut leaves over cost parent k) where
  ok : Searchable l left right cut
  ok = rw f.cuts at f.laid.domain

  -- can be walked back
  pub rows_back : k < length left → k * length left ≤ length parent → Back parent (length left) k
  rows_back h room = record {
    few = ok.candidates.few;
    fewer = h;
    room = room;
    falling = λ m j a b g. rw (f.parents m j a b g) ((parent-reached ok m j b g).0, (parent_allowed ok m j b g).0);
  }

  -- to the table's path
  pub rows_way : (m j : ℕ) → m ≤ k → m ≤ j → j < length left → way_in parent (length left) m j ≡ way_with l left right cut m j
  unfolding way_in way_with
  rows_way zero j a b h = refl
  rows_way (suc m) j a b h =
      let e = f.parents m j a b h in
      let r = parent-reached ok m j b h in
      ap (λ (p : ℕ). way_in parent (length left) m p ++ (j ∷ [])) e
      ∙ ap (λ (xs : List ℕ). xs ++ (j ∷ [])) (rows_way m (parent_with l left right cut (suc m) j) (omega arith) r.0 (omega (arith, (parent_allowed ok m j b h).0)))
