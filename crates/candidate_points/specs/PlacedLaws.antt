-- What stands where after a list was written over the middle of another, and after a range of a list was filled.
use Rattle.std.specs.Prelude.{◌≡◌, List, ◌++◌, ℕ, ◌+◌, ◌-◌, ◌≤◌, ◌<◌, take, replicate}
use Rattle.std.proofs.Math.Path.{sym, ap}
use Rattle.std.proofs.Common.{◌∙◌, append_assoc, arith, length-append, take_at, drop_at, length-take-le, drop-drop, get_or-append-add}
use Rattle.std.proofs.Math.ListN.{length, drop, get_or, length-drop, length-replicate, get_or-replicate, get_or-append}
use Rattle.std.proofs.Math.Seq.{take-take, get_or-take, get_or-drop}
use borrow.Rule.Slice.PartMut.{put_mid, Post-is, put_same}
use Rattle.candidate_points.specs.Placed.{placed}
use Rattle.silence_runs.specs.Runs.{put_run}

-- ---- a list written over another

module _ {A : Type 0} (base : ℕ) (p xs : List A) (fits : base + length p ≤ length xs) where
  front : length (take base xs) ≡ base
  front = length-take-le base xs (omega arith)

  -- the list is as long as before
  pub placed-length : length (placed base p xs) ≡ length xs
  unfolding placed
  placed-length = simp (length-append, length-drop, front) (omega arith)

  -- what stands before is as it was
  pub placed-take : (m : ℕ) → m ≤ base → take m (placed base p xs) ≡ take m xs
  unfolding placed
  placed-take m h =
      sym (take-take m base (placed base p xs) h) ∙ ap (take m) (take_at (take base xs) (p ++ drop (base + length p) xs) base front) ∙ take-take m base xs h

  -- the same, by places
  pub placed-before : (j : ℕ) (z : A) → j < base → get_or (placed base p xs) j z ≡ get_or xs j z
  placed-before j z h =
      sym (get_or-take base (placed base p xs) j z h) ∙ ap (λ (l : List A). get_or l j z) (placed-take base (omega arith)) ∙ get_or-take base xs j z h

  -- what was written
  pub placed_part : (k : ℕ) → k ≡ length p → take k (drop base (placed base p xs)) ≡ p
  unfolding placed
  placed_part k e = rw (drop_at (take base xs) (p ++ drop (base + length p) xs) base front) (take_at p (drop (base + length p) xs) k (sym e))

  beyond : drop (base + length p) (placed base p xs) ≡ drop (base + length p) xs
  unfolding placed
  beyond = rw (← append_assoc) (drop_at (take base xs ++ p) (drop (base + length p) xs) (base + length p) (simp (length-append, front)))

  -- as much is written over it again
  pub placed_again : (q : List A) → length q ≡ length p → placed base q (placed base p xs) ≡ placed base q xs
  placed_again q e = unfold placed in (rw (e, beyond, placed-take base (omega arith)))

  -- a part that was lent, and is back
  pub placed_put : (end : ℕ) → end ≡ base + length p → put_mid base (end - base) xs p ≡ placed base p xs
  unfolding placed
  placed_put end e = rw (Post-is base end xs (omega arith), e)

-- what stands there, written over itself
pub placed_same : {A : Type 0} (base k : ℕ) (xs : List A) → base + k ≤ length xs → placed base (take k (drop base xs)) xs ≡ xs
unfolding placed
placed_same base k xs h =
    let long : length (take k (drop base xs)) ≡ k = length-take-le k (drop base xs) (simp length-drop (omega arith)) in
    rw (long, ← drop-drop) (put_same base k xs)

-- ---- a range filled

after_front : {A : Type 0} (ps qs : List A) (n k : ℕ) (z : A) → length ps ≡ n → n ≤ k → get_or (ps ++ qs) k z ≡ get_or qs (k - n) z
after_front {A} ps qs n k z e h = ap (λ (j : ℕ). get_or (ps ++ qs) j z) (omega arith) ∙ get_or-append-add ps qs (k - n) z

module _ (a b w : ℕ) (xs : List ℕ) (order : a ≤ b) (fits : b ≤ length xs) where
  low_part : length (take a xs) ≡ a
  low_part = length-take-le a xs (omega arith)

  -- the list is as long as before
  pub put_length : length (put_run a b w xs) ≡ length xs
  unfolding put_run
  put_length = simp (length-append, length-drop, length-replicate, low_part) (omega arith)

  -- before the range each number is as it was
  pub put_before : (k z : ℕ) → k < a → get_or (put_run a b w xs) k z ≡ get_or xs k z
  unfolding put_run
  put_before k z h = get_or-append (take a xs) (replicate (b - a) w ++ drop b xs) z k (omega (arith, low_part)) ∙ get_or-take a xs k z h

  -- in the range each is the new one
  pub put_in : (k z : ℕ) → a ≤ k → k < b → get_or (put_run a b w xs) k z ≡ w
  unfolding put_run
  put_in k z h l =
      after_front (take a xs) (replicate (b - a) w ++ drop b xs) a k z low_part h
      ∙ get_or-append (replicate (b - a) w) (drop b xs) z (k - a) (omega (arith, length-replicate (b - a) w)) ∙ get_or-replicate (b - a) (k - a) w z (omega arith)

  -- after the range each is as it was
  pub put_after : (k z : ℕ) → b ≤ k → get_or (put_run a b w xs) k z ≡ get_or xs k z
  unfolding put_run
  put_after k z h =
      after_front (take a xs) (replicate (b - a) w ++ drop b xs) a k z low_part (omega arith)
      ∙ after_front (replicate (b - a) w) (drop b xs) (b - a) (k - a) z (length-replicate (b - a) w) (omega arith)
      ∙ get_or-drop b xs (k - a - (b - a)) z ∙ ap (λ (j : ℕ). get_or xs j z) (omega arith)
