-- A part of a list in its middle that is written anew: what stands there, and what beside it.
use Rattle.std.specs.Prelude.{◌≡◌, length, get_or, take, drop, replicate}
use Rattle.std.proofs.Math.Path.{sym, ap}
use Rattle.std.proofs.Common.{◌∙◌, get_or-take, get_or-drop, length-take-le, get_or-append-add}
use Rattle.std.proofs.lemmas.List.{length-replicate, get_or-replicate}
use mathlib.Core.List.{List, ◌++◌}
use Prim.Native.Nat.{ℕ, ◌+◌, ◌-◌, ◌≤◌, ◌<◌}
use native.Mathlib.Omega.{arith}
use borrow.Rule.Slice.PartMut.{put_mid, drop_put, mid_len}
use Rattle.std.proofs.Math.ListN.{get_or-append}

module _ {A : Type 0} (l r : List A) (a w : ℕ) (z : A) (e : length r ≡ w) (h : a + w ≤ length l) where
  -- what stands before it
  pub put_before : (m : ℕ) → m < a → get_or (put_mid a w l r) m z ≡ get_or l m z
  put_before m g = get_or-append (take a l) (r ++ drop w (drop a l)) z m (rw (length-take-le a l (omega arith)) g) ∙ get_or-take a l m z g

  -- the part itself
  pub put_part : (j : ℕ) → j < w → get_or (put_mid a w l r) (a + j) z ≡ get_or r j z
  put_part j g =
      ap (λ (n : ℕ). get_or (take a l ++ (r ++ drop w (drop a l))) (n + j) z) (sym (length-take-le a l (omega arith)))
      ∙ get_or-append-add (take a l) (r ++ drop w (drop a l)) j z ∙ get_or-append r (drop w (drop a l)) z j (omega arith)

-- the part from `from` to `to` filled with v
module _ {A : Type 0} (l r : List A) (from to : ℕ) (v z : A) (f : from ≤ to) (h : to ≤ length l) (e : r ≡ replicate (length (take (to - from) (drop from l))) v) where
  abbrev after : List A
  after = put_mid from (to - from) l r

  size : length r ≡ to - from
  size = ap length e ∙ length-replicate (length (take (to - from) (drop from l))) v ∙ mid_len from to l h

  -- v stands there
  pub filled_part : (k : ℕ) → from ≤ k → k < to → get_or after k z ≡ v
  filled_part k g m =
      let d : from + (k - from) ≡ k = omega arith in
      ap (λ (n : ℕ). get_or after n z) (sym d) ∙ put_part l r from (to - from) z size (omega arith) (k - from) (omega arith)
      ∙ ap (λ (s : List A). get_or s (k - from) z) e
      ∙ get_or-replicate (length (take (to - from) (drop from l))) (k - from) v z (rw (mid_len from to l h) (omega arith))

  -- what stands before it stays
  pub filled_before : (k : ℕ) → k < from → get_or after k z ≡ get_or l k z
  filled_before k g = put_before l r from (to - from) z size (omega arith) k g

  -- and what stands behind it
  pub filled_after : (k : ℕ) → to ≤ k → get_or after k z ≡ get_or l k z
  filled_after k g =
      let d : to + (k - to) ≡ k = omega arith in
      ap (λ (n : ℕ). get_or after n z) (sym d) ∙ sym (get_or-drop to after (k - to) z) ∙ ap (λ (s : List A). get_or s (k - to) z) (drop_put from to l r f h size)
      ∙ get_or-drop to l (k - to) z ∙ ap (λ (n : ℕ). get_or l n z) d
