-- Laws of the search by count: its steps one after the other.
use Rattle.std.specs.Prelude.{◌≡◌, ℕ, ◌+◌, ◌-◌, ◌*◌, ◌≤◌, ◌<◌, Float, get_or}
use Rattle.std.proofs.Math.Path.{refl, sym, ap}
use Rattle.std.proofs.Common.{◌∙◌, le_refl, arith}
use mathlib.Core.List.{List, []}
use borrow.Rule.Slice.PartMut.{put_mid}
use Rattle.std.specs.Float.{binary64}
use Rattle.std.specs.Float.Ieee.{of_bits}
use Rattle.std.proofs.Math.ListN.{length, set}
use Rattle.base_laws.specs.Nonneg.{nought_is}
use Rattle.base_terms.specs.Layout.{behind_tree, end_by_count}
use Rattle.base_terms.specs.Lists.{onto}
use Rattle.base_code.specs.FrontLaws.{onto_nil, onto_next}
use Rattle.path_pieces.specs.declared.lengths.Lengths.{Lengths}
use Rattle.path_pieces.specs.declared.score.Score.{Score}
use Rattle.path_rules.specs.Paths.{piece_count, last_candidate}
use Rattle.path_by_count.specs.Table.{best_with, way_with, best_path_by_count, best_score_by_count}
use Rattle.path_by_count_tree.specs.Tree.{Leaves}
use Rattle.path_by_count_rows.specs.First.{FirstStarts}
use Rattle.path_by_count_rows.specs.Rows.{Laid, leaf_score}
use Rattle.path_by_count.specs.Filled.{RowsFilled}
use Rattle.path_by_count_tree.specs.PartLaws.{put_part}
use Rattle.path_by_count.specs.Walk.{way_in}
use Rattle.path_by_count.specs.WalkLaws.{way_length, rows_back, rows_way}
use Rattle.path_by_count.specs.Counted.{TreeRoom, FoundCounted, SolutionByCount}

module _ {l : Lengths} {left right : List ℕ} where
  -- the first starts written behind the tree
  pub room_laid : {over : List ℕ} {cost : List Float} {leaves from to : ℕ} (first : List ℕ) → TreeRoom l left right over cost → Leaves (length left) leaves
      → from ≡ behind_tree (length left) → to ≡ end_by_count (length left) → FirstStarts l.limit left right first
      → length (put_mid from (to - from) over first) ≡ length over → Laid l left right leaves (put_mid from (to - from) over first) cost
  room_laid {over} {cost} {leaves} {from} {to} first r t ef et f e =
      let n = length left in
      let d : to - from ≡ n = omega (arith, ef, et) in
      record {
        domain = r.domain;
        tree = t;
        overs = omega (arith, r.overs, e);
        costs = r.costs;
        firsts = λ j h. ap (λ (w : ℕ). get_or (put_mid from w over first) (behind_tree n + j) 0) d ∙ ap (λ (m : ℕ). get_or (put_mid from n over first) (m + j) 0) (sym ef)
            ∙ put_part over first from n 0 f.each (omega (arith, r.overs, ef)) j h ∙ f.start j h;
      }

  module _ {cut : List Float} where
    -- the rows give the score and the way back
    pub rows_sought : {leaves : ℕ} {over : List ℕ} {cost : List Float} {parent : List ℕ} {pieces : ℕ} → RowsFilled l left right cut leaves over cost parent pieces
        → pieces < length left → pieces * length left ≤ length parent → FoundCounted l left right cut parent pieces (leaf_score leaves over cost (last_candidate left))
    rows_sought {pieces = pieces} f h room = record {
      is = f.scores (last_candidate left) (omega arith) (omega arith);
      back = rows_back f h room;
      way = rows_way f pieces (last_candidate left) (le_refl pieces) (omega arith) (omega arith);
    }

    -- the walk back writes the path
    pub sought_solved : {count : ℕ} {parent path₀ path : List ℕ} {score : Score} (pieces : ℕ) → pieces ≡ piece_count left count → FoundCounted l left right cut parent pieces score
        → path ≡ onto (way_in parent (length left) pieces (last_candidate left)) path₀
        → SolutionByCount l left right cut count path₀ path (record { score = score; len = pieces + 1 })
    unfolding best_path_by_count best_score_by_count
    sought_solved {count} {parent} {path₀} {path} pieces e s w = record {
      score = rw (← e) s.is;
      count_is = rw (← e, ← s.way) (omega (arith, way_length parent (length left) pieces (last_candidate left)));
      written = rw (← e, ← s.way) w;
    }

    -- one candidate alone
    pub none_solved : {count : ℕ} {path₀ : List ℕ} (pieces : ℕ) → pieces ≡ piece_count left count → pieces ≡ 0 → last_candidate left ≡ 0 → 0 < length path₀
        → SolutionByCount l left right cut count path₀ (set path₀ 0 0) (record { score = record { over = 0; cost = of_bits binary64 0 }; len = 1 })
    unfolding best_path_by_count best_score_by_count best_with way_with
    none_solved {count} {path₀} pieces e z last h =
        let p : piece_count left count ≡ 0 = sym e ∙ z in
        record {
          score = ap (λ (c : Float). record { over = 0; cost = c }) (nought_is binary64) ∙ sym (ap (λ (k : ℕ). best_with l left right cut k (last_candidate left)) p);
          count_is = sym (ap (λ (k : ℕ). length (way_with l left right cut k (last_candidate left))) p);
          written = rw p (rw last (ap (λ (xs : List ℕ). set xs 0 0) (sym (onto_nil path₀)) ∙ onto_next [] path₀ 0 0 refl h));
        }
