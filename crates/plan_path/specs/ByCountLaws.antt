-- The path by count in one list: the rows leave their parents in the list of parents, so the search's part is back when the walk writes behind it.
use Rattle.std.specs.Prelude.{◌≡◌, List, [], ◌++◌, ℕ, ◌+◌, ◌-◌, ◌≤◌, Float, length, take, drop, set}
use Rattle.std.proofs.Common.{sym, ap, subst, ◌∙◌, append-nil, le_refl, arith, length-set, length-drop, length-append, drop_of_length-le, drop_at, length-take-le, take-take, take_all}
use borrow.Rule.Slice.PartMut.{put_mid, post_of, take_put, drop_put, mid_len}
use Rattle.std.proofs.lemmas.List.{take-set-le, drop-set-add}
use Rattle.path_pieces.specs.declared.lengths.Lengths.{Lengths}
use Rattle.path_rules.specs.declared.solved.Solved.{Solved}
use Rattle.path_by_count.specs.Table.{best_path_by_count, best_score_by_count}
use Rattle.path_by_count.specs.Counted.{SolutionByCount}
use Rattle.plan_lists.specs.Within.{part_at}
use Rattle.plan_path.specs.Held.{PathHeld}

-- what the search by count says of a path in a list of its own, where that list is the rest of the work list
pub solved_held : {l : Lengths} {left right : List ℕ} {cut : List Float} {count : ℕ} (search at : ℕ) (work₀ work : List ℕ) {answer : Solved}
    → SolutionByCount l left right cut count (drop at work₀) (drop at work) answer → take search work ≡ take search work₀ → length work ≡ length work₀
    → PathHeld search at (best_path_by_count l left right cut count) (best_score_by_count l left right cut count) work₀ work answer
solved_held search at work₀ work s e f = record { score_is = s.score; count_is = s.count_is; held = s.written; before = e; same = f }

-- a path of one candidate: one place is written
pub set-held : {l : Lengths} {left right : List ℕ} {cut : List Float} {count : ℕ} (search at : ℕ) (work₀ : List ℕ) {answer : Solved} → search ≤ at
    → SolutionByCount l left right cut count (drop at work₀) (set (drop at work₀) 0 0) answer
    → PathHeld search at (best_path_by_count l left right cut count) (best_score_by_count l left right cut count) work₀ (set work₀ at 0) answer
set-held {l} {left} {right} {cut} {count} search at work₀ {answer} h s =
    let z : at + 0 ≡ at = omega arith in
    let e : drop at (set work₀ at 0) ≡ set (drop at work₀) 0 0 = ap (λ (p : ℕ). drop at (set work₀ p 0)) (sym z) ∙ drop-set-add at work₀ 0 0 in
    solved_held search at work₀ (set work₀ at 0)
    (subst (λ (path : List ℕ). SolutionByCount l left right cut count (drop at work₀) path answer) (sym e) s)
    (take-set-le search work₀ at 0 h) (length-set work₀ at 0)

-- the search's part is back, and then the rest of the list is lent
module _ (search at : ℕ) (work₀ over : List ℕ) (ordered : search ≤ at) (enough : at ≤ length work₀)
    (kept : length (put_mid search (at - search) work₀ over) ≡ length work₀) where
  abbrev work₁ : List ℕ
  work₁ = put_mid search (at - search) work₀ over

  abbrev rest : List ℕ
  rest = part_at at (length work₁ - at) work₁

  long : length over ≡ at - search
  long =
      let after = post_of search (at - search) work₀ in
      omega (
        arith,
        kept,
        length-append (take search work₀) (over ++ after),
        length-append over after,
        length-take-le search work₀ (omega arith),
        length-drop (at - search) (drop search work₀),
        length-drop search work₀,
      )

  -- it has the places from `at` on
  pub rest_long : length rest ≡ length work₀ - at
  rest_long = omega (arith, kept, mid_len at (length work₁) work₁ (le_refl (length work₁)))

  rest_is : rest ≡ drop at work₀
  rest_is = take_all (length work₁ - at) (drop at work₁) (rw length-drop (omega arith)) ∙ drop_put search at work₀ over ordered enough long

  -- the path is written there
  pub rest-held : {l : Lengths} {left right : List ℕ} {cut : List Float} {count : ℕ} (path : List ℕ) {answer : Solved}
      → length (put_mid at (length work₁ - at) work₁ path) ≡ length work₁ → SolutionByCount l left right cut count rest path answer
      → PathHeld search at (best_path_by_count l left right cut count) (best_score_by_count l left right cut count) work₀ (put_mid at (length work₁ - at) work₁ path) answer
  rest-held {l} {left} {right} {cut} {count} path {answer} same s =
      let front = length-take-le at work₁ (omega (arith, kept)) in
      let none : post_of at (length work₁ - at) work₁ ≡ [] = drop_of_length-le (drop at work₁) {i = length work₁ - at} (rw length-drop (omega arith)) in
      let e : drop at (put_mid at (length work₁ - at) work₁ path) ≡ path =
      drop_at (take at work₁) (path ++ post_of at (length work₁ - at) work₁) at front ∙ ap (λ (t : List ℕ). path ++ t) none ∙ append-nil path in
      solved_held search at work₀ (put_mid at (length work₁ - at) work₁ path)
      (subst (λ (p : List ℕ). SolutionByCount l left right cut count (drop at work₀) p answer) (sym e)
      (subst (λ (p : List ℕ). SolutionByCount l left right cut count p path answer) rest_is s))
      (sym (take-take search at (put_mid at (length work₁ - at) work₁ path) ordered) ∙ ap (take search) (take_put at (length work₁ - at) work₁ path (omega (arith, kept)))
      ∙ take-take search at work₁ ordered ∙ take_put search (at - search) work₀ over (omega arith))
      (same ∙ kept)
