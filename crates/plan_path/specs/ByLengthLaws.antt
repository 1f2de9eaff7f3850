-- The path by length in one list: the table leaves its parents in the part that was lent to it, and the walk back writes behind that part.
use Rattle.std.specs.Prelude.{◌≡◌, List, ℕ, ◌+◌, ◌-◌, ◌≤◌, Float, length, take, drop}
use Rattle.std.proofs.Common.{sym, ap, ◌∙◌, arith}
use borrow.Rule.Slice.PartMut.{put_mid, mid_len, same_len_mid, take_put, drop_put}
use Rattle.base_terms.specs.Layout.{behind_table}
use Rattle.base_terms.specs.Lists.{onto}
use Rattle.candidate_points.specs.Placed.{placed}
use Rattle.candidate_points.specs.PlacedLaws.{placed-length, placed-take}
use Rattle.path_pieces.specs.declared.lengths.Lengths.{Lengths}
use Rattle.path_rules.specs.declared.solved.Solved.{Solved}
use Rattle.path_rules.specs.Paths.{Allowed, last_candidate}
use Rattle.path_rules.specs.PathsLaws.{candidates_few}
use Rattle.path_by_length.specs.Table.{way_to, best_path, best_score}
use Rattle.path_by_length.proofs.Theorems.{best_path_allowed}
use Rattle.path_by_length.specs.Solved.{cuts_in, parents_in, parent_at, Parents, TableRoom, Settled}
use Rattle.path_by_length.proofs.SolvedLaws.{filled_parents, filled-path}
use Rattle.plan_lists.specs.Within.{part_at}
use Rattle.plan_lists.specs.WithinLaws.{part_back, placed-rest}
use Rattle.plan_lists.specs.Back.{WayRoom}
use Rattle.plan_path.specs.Held.{PathHeld}

module _ {l : Lengths} {left right : List ℕ} (search at : ℕ) (work₀ : List ℕ) {cost₀ : List Float} {over : List ℕ} {cost : List Float} {answer : Solved}
    (room : TableRoom l left right (part_at search (at - search) work₀) cost₀) (ordered : search ≤ at) (enough : at + length left ≤ length work₀)
    (done : Settled l left right (part_at search (at - search) work₀) cost₀ over cost answer) where
  -- the list with the search's part back in it
  abbrev work₁ : List ℕ
  work₁ = put_mid search (at - search) work₀ over

  part_long : length (part_at search (at - search) work₀) ≡ at - search
  part_long = mid_len search at work₀ (omega arith)

  long : length over ≡ at - search
  long = done.filled.overs ∙ part_long

  same : length work₁ ≡ length work₀
  same = same_len_mid search (at - search) work₀ over done.filled.overs

  -- the parents stand there
  parents : part_at (search + behind_table (length left)) (length left) work₁ ≡ parents_in (length left) over
  parents = part_back search (at - search) work₀ over (behind_table (length left)) (length left) (omega arith) (omega (arith, long, part_long, room.overs))

  path : way_to (parent_at (part_at (search + behind_table (length left)) (length left) work₁)) (last_candidate left) ≡ best_path l left right (cuts_in (length left) cost₀)
  path = rw parents (filled-path room done.filled)

  leads : Parents (part_at (search + behind_table (length left)) (length left) work₁) (last_candidate left)
  leads = rw parents (filled_parents room done.filled)

  few : length (best_path l left right (cuts_in (length left) cost₀)) ≤ length left
  few =
      candidates_few (Allowed l.limit left right) (λ i j a. a.0) left (best_path l left right (cuts_in (length left) cost₀)) room.domain.candidates.some
      (best_path_allowed room.domain)

  -- so the walk back can start
  pub length_way : WayRoom (search + behind_table (length left)) (length left) at work₁ answer.len
  length_way = record {
    leads = leads;
    long = done.count ∙ sym (ap length path);
    apart = omega (arith, part_long, room.overs, ordered);
    room = omega (arith, same, done.count, few);
  }

  -- and what it writes is the best path, held behind the search's part
  pub length-held : (work : List ℕ) → work ≡ placed at (way_to (parent_at (part_at (search + behind_table (length left)) (length left) work₁)) (last_candidate left)) work₁
      → PathHeld search at (best_path l left right (cuts_in (length left) cost₀)) (best_score l left right (cuts_in (length left) cost₀) (last_candidate left)) work₀ work answer
  length-held work e =
      let best = best_path l left right (cuts_in (length left) cost₀) in
      let is : work ≡ placed at best work₁ = rw path at e in
      let fits : at + length best ≤ length work₁ = omega (arith, same, few) in
      record {
        score_is = done.score;
        count_is = done.count;
        held = ap (drop at) is ∙ placed-rest at best work₁ (omega (arith, same)) ∙ ap (onto best) (drop_put search at work₀ over ordered (omega arith) long);
        before = ap (take search) is ∙ placed-take at best work₁ fits search ordered ∙ take_put search (at - search) work₀ over (omega arith);
        same = ap length is ∙ placed-length at best work₁ fits ∙ same;
      }
