-- Laws about parts of one list: a part that was lent and written, and a list that was written over from some place on.
use Rattle.std.specs.Prelude.{◌≡◌, List, ◌++◌, ℕ, ◌+◌, ◌≤◌, length, take, drop}
use Rattle.std.proofs.Common.{sym, ap, ◌∙◌, arith, length-drop, take-append-drop, drop-drop, drop_at, length-take-le}
use borrow.Rule.Slice.PartMut.{put_mid, post_of}
use Rattle.std.proofs.lemmas.List.{take-append-le, drop-append-le}
use Rattle.base_terms.specs.Lists.{onto}
use Rattle.candidate_points.specs.Placed.{placed}
use Rattle.plan_lists.specs.Within.{part_at}

-- a list whose front is as it was, and whose rest has p over its front, is the list with p written from there on
pub within-placed : {A : Type 0} (at : ℕ) (p xs₀ xs : List A) → take at xs ≡ take at xs₀ → drop at xs ≡ onto p (drop at xs₀) → xs ≡ placed at p xs₀
unfolding onto placed
within-placed at p xs₀ xs e f = sym (take-append-drop at xs) ∙ rw (e, f, drop-drop)

-- and the rest of such a list has p over its front
pub placed-rest : {A : Type 0} (at : ℕ) (p xs : List A) → at ≤ length xs → drop at (placed at p xs) ≡ onto p (drop at xs)
unfolding onto placed
placed-rest at p xs h = drop_at (take at xs) (p ++ drop (at + length p) xs) at (length-take-le at xs h) ∙ ap (λ t. p ++ t) (sym (drop-drop (length p) at xs))

-- a part of a part is found in the list once that part is back
pub part_back : {A : Type 0} (start k : ℕ) (xs part : List A) (m n : ℕ) → start ≤ length xs → m + n ≤ length part
    → part_at (start + m) n (put_mid start k xs part) ≡ take n (drop m part)
part_back start k xs part m n h g =
    ap (take n) (sym (drop-drop m start (put_mid start k xs part))
    ∙ ap (drop m) (drop_at (take start xs) (part ++ post_of start k xs) start (length-take-le start xs h))
    ∙ drop-append-le m part (post_of start k xs) (omega arith))
    ∙ take-append-le n (drop m part) (post_of start k xs) (rw length-drop (omega arith))
