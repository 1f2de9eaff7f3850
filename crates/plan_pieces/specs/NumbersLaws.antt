-- Three numbers for each piece and for each cut, in the order of the path.
use Rattle.std.specs.Prelude.{◌≡◌, Float, length, get_or}
use Rattle.std.proofs.Math.Path.{refl, ap}
use Rattle.std.proofs.Common.{◌∙◌, arith}
use mathlib.Core.List.{List, [], ◌∷◌}
use Prim.Native.Nat.{ℕ, zero, suc, ◌+◌, ◌-◌, ◌*◌, ◌<◌}
use Rattle.path_pieces.specs.Pieces.{piece_length}
use Rattle.plan_pieces.specs.Flags.{is_tail, flags_of}
use Rattle.plan_pieces.specs.Along.{piece_numbers_from, pieces_along_numbers, cut_numbers_from, cuts_along_numbers}

-- the three numbers of piece or cut i
pub record Numbers (ns : List ℕ) (i first second third : ℕ) : Type 0 where
  pub one : get_or ns (3 * i) 0 ≡ first
  pub two : get_or ns (3 * i + 1) 0 ≡ second
  pub three : get_or ns (3 * i + 2) 0 ≡ third

-- three more stand before them
numbers_on : (x y z : ℕ) (ns : List ℕ) (i a b c : ℕ) → Numbers ns i a b c → Numbers (x ∷ (y ∷ (z ∷ ns))) (suc i) a b c
numbers_on x y z ns i a b c n =
    record {
      one = let e : 3 * suc i ≡ suc (suc (suc (3 * i))) = omega arith in ap at e ∙ n.one;
      two = let e : 3 * suc i + 1 ≡ suc (suc (suc (3 * i + 1))) = omega arith in ap at e ∙ n.two;
      three = let e : 3 * suc i + 2 ≡ suc (suc (suc (3 * i + 2))) = omega arith in ap at e ∙ n.three;
    }
  where
    at : ℕ → ℕ
    at k = get_or (x ∷ (y ∷ (z ∷ ns))) k 0

module _ (left right : List ℕ) where
  -- ---- pieces

  from-length : (least : Float) (most k n : ℕ) (path : List ℕ) → length (piece_numbers_from left right least most k n path) ≡ 3 * (length path - 1)
  unfolding piece_numbers_from
  from-length least most k n [] = refl
  from-length least most k n (i ∷ []) = refl
  from-length least most k n (i ∷ (j ∷ rest)) = omega (arith, from-length least most k (suc n) (j ∷ rest))

  -- a path has one piece fewer than candidates
  pub pieces_length : (least : Float) (most : ℕ) (path : List ℕ) → length (pieces_along_numbers left right least most path) ≡ 3 * (length path - 1)
  unfolding pieces_along_numbers
  pieces_length least most path = from-length least most (length path - 1) 0 path

  -- piece i of those from n on is piece m = n + i of all
  numbers_from : (least : Float) (most k n : ℕ) (path : List ℕ) (i m : ℕ) → m ≡ n + i → suc i < length path
      → Numbers (piece_numbers_from left right least most k n path) i
      (get_or right (get_or path i 0) 0) (get_or left (get_or path (suc i) 0) 0)
      (flags_of (is_tail k m) least most (piece_length left right (get_or path i 0) (get_or path (suc i) 0)))
  unfolding piece_numbers_from
  numbers_from least most k n [] i m e h = absurd (omega arith)
  numbers_from least most k n (p ∷ []) i m e h = absurd (omega arith)
  numbers_from least most k n (p ∷ (q ∷ rest)) zero m e h =
      let same : n ≡ m = omega (arith, e) in
      record { one = refl; two = refl; three = ap (λ (x : ℕ). flags_of (is_tail k x) least most (piece_length left right p q)) same }
  numbers_from least most k n (p ∷ (q ∷ rest)) (suc i) m e h =
      numbers_on _ _ _ (piece_numbers_from left right least most k (suc n) (q ∷ rest)) i _ _ _
      (numbers_from least most k (suc n) (q ∷ rest) i m (omega (arith, e)) (omega arith))

  -- piece i starts at the right end of candidate i of the path, ends at the left end of the next, and has the flags of its length and of its place
  pub piece_numbers_lem : (least : Float) (most : ℕ) (path : List ℕ) (i : ℕ) → suc i < length path
      → Numbers (pieces_along_numbers left right least most path) i
      (get_or right (get_or path i 0) 0) (get_or left (get_or path (suc i) 0) 0)
      (flags_of (is_tail (length path - 1) i) least most (piece_length left right (get_or path i 0) (get_or path (suc i) 0)))
  unfolding pieces_along_numbers
  piece_numbers_lem least most path i h = numbers_from least most (length path - 1) 0 path i i (omega arith) h

  -- ---- cuts

  cuts-from-length : (reasons : List ℕ) (j : ℕ) (path : List ℕ) → length (cut_numbers_from left right reasons j path) ≡ 3 * length path
  unfolding cut_numbers_from
  cuts-from-length reasons j [] = refl
  cuts-from-length reasons j (k ∷ rest) = omega (arith, cuts-from-length reasons k rest)

  -- and one cut fewer than pieces
  pub cuts-length : (reasons path : List ℕ) → length (cuts_along_numbers left right reasons path) ≡ 3 * (length path - 1 - 1)
  unfolding cuts_along_numbers
  cuts-length reasons [] = refl
  cuts-length reasons (i ∷ []) = refl
  cuts-length reasons (i ∷ (j ∷ rest)) = omega (arith, cuts-from-length reasons j rest)

  -- cut i lies at candidate i + 1 of the path
  pub cut_numbers_lem : (reasons path : List ℕ) (i : ℕ) → suc (suc i) < length path
      → Numbers (cuts_along_numbers left right reasons path) i
      (get_or left (get_or path (suc i) 0) 0) (get_or right (get_or path (suc i) 0) 0) (get_or reasons (get_or path (suc i) 0) 0)
  unfolding cuts_along_numbers cut_numbers_from
  cut_numbers_lem reasons [] i h = absurd (omega arith)
  cut_numbers_lem reasons (p ∷ []) i h = absurd (omega arith)
  cut_numbers_lem reasons (p ∷ (q ∷ [])) i h = absurd (omega arith)
  cut_numbers_lem reasons (p ∷ (q ∷ (r ∷ rest))) zero h = record { one = refl; two = refl; three = refl }
  cut_numbers_lem reasons (p ∷ (q ∷ (r ∷ rest))) (suc i) h =
      numbers_on _ _ _ (cuts_along_numbers left right reasons (q ∷ (r ∷ rest))) i _ _ _ (cut_numbers_lem reasons (q ∷ (r ∷ rest)) i (omega arith))
