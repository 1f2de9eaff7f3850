-- The costs are copied into the search's part, to where the search reads them: behind the scores by length, behind the tree by count.
use Rattle.std.specs.Prelude.{◌≡◌, List, ℕ, ◌+◌, ◌-◌, ◌*◌, ◌≤◌, Float, length, take, drop}
use Rattle.std.proofs.Common.{sym, ap, subst, ◌∙◌, arith, length-drop, take-add, take-take, drop-drop, drop_at, length-take-le}
use borrow.Rule.Slice.PartMut.{put_mid, mid_len, take_put}
use Rattle.base_terms.specs.Layout.{search_at, path_at, rights_at, costs_at, scores_at, end_f64, behind_table, behind_tree}
use Rattle.candidate_points.specs.Placed.{placed}
use Rattle.candidate_points.specs.PlacedLaws.{placed-length, placed_part, placed-take}
use Rattle.path_pieces.specs.declared.lengths.Lengths.{Lengths}
use Rattle.path_rules.specs.declared.solved.Solved.{Solved}
use Rattle.path_rules.specs.Paths.{last_candidate}
use Rattle.path_by_length.specs.Table.{best_path, best_score}
use Rattle.path_by_count.specs.Table.{best_path_by_count, best_score_by_count}
use Rattle.path_by_length.specs.Solved.{cuts_in, TableRoom}
use Rattle.path_by_count_rows.specs.Rows.{behind}
use Rattle.path_by_count.specs.Counted.{TreeRoom}
use Rattle.plan_lists.specs.Within.{part_at}
use Rattle.plan_path.specs.Held.{PathHeld}
use Rattle.plan_path.specs.Search.{lefts_in, rights_in, costs_in, SearchRoom}

-- a part of a list's front is that part of the list
pub part_of : {A : Type 0} (m n size : ℕ) (xs : List A) → m + n ≤ size → m ≤ length xs → take n (drop m (take size xs)) ≡ take n (drop m xs)
part_of m n size xs h g =
    let e : size ≡ m + (size - m) = omega arith in
    ap (λ (k : ℕ). take n (drop m (take k xs))) e
    ∙ ap (λ t. take n (drop m t)) (take-add m (size - m) xs)
    ∙ ap (take n) (drop_at (take m xs) (take (size - m) (drop m xs)) m (length-take-le m xs g))
    ∙ take-take n (size - m) (drop m xs) (omega arith)

-- what was written inside a part stands there when the part is lent
pub written_in : {A : Type 0} (start m n size : ℕ) (p xs : List A) → length p ≡ n → start + m + n ≤ length xs → m + n ≤ size
    → take n (drop m (part_at start size (placed (start + m) p xs))) ≡ p
written_in start m n size p xs e h g =
    let fits : start + m + length p ≤ length xs = omega arith in
    part_of m n size (drop start (placed (start + m) p xs)) g (rw (length-drop, placed-length (start + m) p xs fits) (omega arith))
    ∙ ap (take n) (drop-drop m start (placed (start + m) p xs)) ∙ placed_part (start + m) p xs fits n (sym e)

module _ {l : Lengths} (frames n : ℕ) (work positions : List ℕ) (costs : List Float) (room : SearchRoom l frames n work positions costs) where
  -- the list of costs with the cuts' behind the search's first m
  abbrev copied : ℕ → List Float
  copied m = placed (scores_at frames + m) (costs_in frames n costs) costs

  -- the parts as they are lent
  abbrev rights : List ℕ
  rights = part_at (rights_at frames) (rights_at frames + n - rights_at frames) positions

  abbrev over : List ℕ
  over = part_at (search_at frames) (path_at frames - search_at frames) work

  abbrev scores : ℕ → List Float
  scores m = part_at (scores_at frames) (end_f64 frames - scores_at frames) (copied m)

  -- there are n left positions
  pub left_long : length (lefts_in n positions) ≡ n
  left_long = length-take-le n positions (omega (arith, room.few, room.u64s))

  right_is : rights ≡ rights_in frames n positions
  right_is = let d : rights_at frames + n - rights_at frames ≡ n = omega arith in rw d

  cuts_long : length (costs_in frames n costs) ≡ n
  cuts_long = length-take-le n (drop (costs_at frames) costs) (rw length-drop (omega (arith, room.few, room.f64s)))

  over_long : length over ≡ path_at frames - search_at frames
  over_long = mid_len (search_at frames) (path_at frames) work (omega (arith, room.u32s))

  module _ (m : ℕ) (behind-it : scores_at frames + (m + n) ≤ end_f64 frames) where
    fits : scores_at frames + m + length (costs_in frames n costs) ≤ length costs
    fits = omega (arith, cuts_long, room.f64s)

    copied_long : length (copied m) ≡ length costs
    copied_long = placed-length (scores_at frames + m) (costs_in frames n costs) costs fits

    scores_long : length (scores m) ≡ end_f64 frames - scores_at frames
    scores_long = mid_len (scores_at frames) (end_f64 frames) (copied m) (omega (arith, copied_long, room.f64s))

    cuts_are : take n (drop m (scores m)) ≡ costs_in frames n costs
    cuts_are = written_in (scores_at frames) m n (end_f64 frames - scores_at frames) (costs_in frames n costs) costs cuts_long (omega (arith, room.f64s)) (omega arith)

    -- levels and costs are as they were once the search's part is back
    pub costs_kept : (part : List Float) → take (scores_at frames) (put_mid (scores_at frames) (end_f64 frames - scores_at frames) (copied m) part) ≡ take (scores_at frames) costs
    costs_kept part =
        take_put (scores_at frames) (end_f64 frames - scores_at frames) (copied m) part (omega (arith, copied_long, room.f64s))
        ∙ placed-take (scores_at frames + m) (costs_in frames n costs) costs fits (scores_at frames) (omega arith)

  -- by length: what the search reads behind the table are the costs of the cuts
  pub length-cuts : cuts_in (length (lefts_in n positions)) (scores (behind_table n)) ≡ costs_in frames n costs
  length-cuts = rw left_long (cuts_are (behind_table n) (omega (arith, room.few)))

  -- so the search by length may be asked
  pub length-room : TableRoom l (lefts_in n positions) rights over (scores (behind_table n))
  length-room = record {
    domain = rw (length-cuts, right_is) room.domain;
    overs = omega (arith, over_long, left_long, room.few);
    costs = omega (arith, scores_long (behind_table n) (omega (arith, room.few)), left_long, room.few);
  }

  -- by count: what the search reads behind the tree are the costs of the cuts
  pub count_cuts : behind (length (lefts_in n positions)) (scores (behind_tree n)) ≡ costs_in frames n costs
  unfolding behind
  count_cuts = rw left_long (cuts_are (behind_tree n) (omega (arith, room.few)))

  -- so the search by count may be asked
  pub count_room : TreeRoom l (lefts_in n positions) rights over (scores (behind_tree n))
  count_room = record {
    domain = rw (count_cuts, right_is) room.domain;
    overs = omega (arith, over_long, left_long, room.few);
    costs = omega (arith, scores_long (behind_tree n) (omega (arith, room.few)), left_long, room.few);
  }

  -- there is a place for each candidate behind the search's part
  pub path_room : (search_at frames ≤ path_at frames) × (path_at frames + length (lefts_in n positions) ≤ length work)
  path_room = (omega arith, omega (arith, left_long, room.few, room.u32s))

  -- and for each row of parents
  pub parent-room : (pieces size : ℕ) → pieces * n ≤ size → pieces * length (lefts_in n positions) ≤ size
  parent-room pieces size h = subst (λ (m : ℕ). pieces * m ≤ size) (sym left_long) h

  -- ---- once the costs are copied

  module _ (x : List Float) where
    abbrev lent : List Float
    lent = part_at (scores_at frames) (end_f64 frames - scores_at frames) x

    -- the list as it is after the copy may be lent to the search by length
    pub length-lent : x ≡ copied (behind_table n) → TableRoom l (lefts_in n positions) rights over lent
    length-lent e = rw e length-room

    -- and to the search by count
    pub count_lent : x ≡ copied (behind_tree n) → TreeRoom l (lefts_in n positions) rights over lent
    count_lent e = rw e count_room

    -- the search's part is back, and the path is that of the candidates held
    pub length-sought : x ≡ copied (behind_table n) → (part : List Float) (work' : List ℕ) (answer : Solved)
        → PathHeld (search_at frames) (path_at frames) (best_path l (lefts_in n positions) rights (cuts_in (length (lefts_in n positions)) lent))
        (best_score l (lefts_in n positions) rights (cuts_in (length (lefts_in n positions)) lent) (last_candidate (lefts_in n positions))) work work' answer
        → PathHeld (search_at frames) (path_at frames) (best_path l (lefts_in n positions) (rights_in frames n positions) (costs_in frames n costs))
        (best_score l (lefts_in n positions) (rights_in frames n positions) (costs_in frames n costs) (last_candidate (lefts_in n positions))) work work' answer
        × (take (scores_at frames) (put_mid (scores_at frames) (end_f64 frames - scores_at frames) x part) ≡ take (scores_at frames) costs)
    length-sought e part work' answer held =
        let cuts : cuts_in (length (lefts_in n positions)) lent ≡ costs_in frames n costs = rw e length-cuts in
        (rw (cuts, right_is) at held, rw e (costs_kept (behind_table n) (omega (arith, room.few)) part))

    -- the same by count
    pub count_sought : x ≡ copied (behind_tree n) → (count : ℕ) (part : List Float) (work' : List ℕ) (answer : Solved)
        → PathHeld (search_at frames) (path_at frames) (best_path_by_count l (lefts_in n positions) rights (behind (length (lefts_in n positions)) lent) count)
        (best_score_by_count l (lefts_in n positions) rights (behind (length (lefts_in n positions)) lent) count) work work' answer
        → PathHeld (search_at frames) (path_at frames) (best_path_by_count l (lefts_in n positions) (rights_in frames n positions) (costs_in frames n costs) count)
        (best_score_by_count l (lefts_in n positions) (rights_in frames n positions) (costs_in frames n costs) count) work work' answer
        × (take (scores_at frames) (put_mid (scores_at frames) (end_f64 frames - scores_at frames) x part) ≡ take (scores_at frames) costs)
    count_sought e count part work' answer held =
        let cuts : behind (length (lefts_in n positions)) lent ≡ costs_in frames n costs = rw e count_cuts in
        (rw (cuts, right_is) at held, rw e (costs_kept (behind_tree n) (omega (arith, room.few)) part))
