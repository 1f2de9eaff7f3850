-- A cut parts a piece into two that lie inside it, so more cuts make no piece longer; and cuts are added one at a time, so every number of pieces between two is met.
use Rattle.std.specs.Prelude.{◌≡◌, refl, ◌⊎◌, ℕ, zero, suc, ◌-◌, ◌≤◌, ◌<◌, length}
use Rattle.std.proofs.Common.{ap, subst, inl, inr, arith}
use mathlib.Core.List.Memᴰ
use mathlib.Core.List.{List, [], ◌∷◌, Memᴰ}
use Rattle.base_laws.specs.Tests.{lt_or_le}
use Rattle.grid.specs.BoundaryLaws.{Accepted, boundary_mono}
use Rattle.grid.specs.declared.boundary.FrameGrid.{FrameGrid}
use Rattle.candidate_span.specs.Gaps.{Cut}
use Rattle.candidate_span.specs.Span.{Span}
use Rattle.division.specs.Division.{Row, Division, Among}
use Rattle.division.specs.Pieces.{piece_from, pieces_from, pieces_of, length_of, longest}
use Rattle.division.specs.PiecesLaws.{row_from, row_inside, pieces_count}
use Rattle.division.specs.Refine.{Refined}

-- the first list is the second with some left out
pub data Sublist : List Cut → List Cut → Type 0 where
  none : Sublist [] []
  keep : {k : Cut} {ks cs : List Cut} → Sublist ks cs → Sublist (k ∷ ks) (k ∷ cs)
  skip : {k : Cut} {ks cs : List Cut} → Sublist ks cs → Sublist ks (k ∷ cs)

part_whole : (ks : List Cut) → Sublist ks ks
part_whole [] = none
part_whole (k ∷ ks) = keep (part_whole ks)

part_empty : (cs : List Cut) → Sublist [] cs
part_empty [] = none
part_empty (c ∷ cs) = skip (part_empty cs)

part_length : {ks cs : List Cut} → Sublist ks cs → length ks ≤ length cs
part_length none = omega arith
part_length (keep p) = omega (arith, part_length p)
part_length (skip p) = omega (arith, part_length p)

-- a row with some cuts left out is a row
pub part_row : {ks cs : List Cut} (a z : ℕ) → Sublist ks cs → Row a cs z → Row a ks z
part_row a z none r = r
part_row a z (keep {k = k} p) r = (r.0, r.1, part_row k.right z p r.2)
part_row a z (skip {k = k} {ks = ks} p) r = row_from a k.right ks z (omega arith) (part_row k.right z p r.2)

-- and has no other cuts
pub part_among : {ks cs : List Cut} → Sublist ks cs → Among ks cs
part_among none k m = m
part_among (keep p) k (Memᴰ.head e) = Memᴰ.head e
part_among (keep p) k (Memᴰ.tail m) = Memᴰ.tail (part_among p k m)
part_among (skip p) k m = Memᴰ.tail (part_among p k m)

-- ---- a row of cuts that another row has is that row with some left out

-- a row that starts after cut c does not have it
past : (b : ℕ) (ks : List Cut) (z : ℕ) (c : Cut) (cs : List Cut) → c.left ≤ b → Row b ks z → Among ks (c ∷ cs) → Among ks cs
past b ks z c cs h r m k i = go (m k i)
  where
    go : Memᴰ k (c ∷ cs) → Memᴰ k cs
    go (Memᴰ.head e) = absurd (omega (arith, h, ap (λ (j : Cut). j.left) e, (row_inside b ks z k r i).0))
    go (Memᴰ.tail j) = j

part_of : (a b : ℕ) (ks cs : List Cut) (z : ℕ) → Row a cs z → Row b ks z → Among ks cs → Sublist ks cs
part_of a b [] cs z r s m = part_empty cs
part_of a b (k ∷ ks) [] z r s m = absurd (Memᴰ.not-nil (m k (Memᴰ.head refl)))
part_of a b (k ∷ ks) (c ∷ cs) z r s m =
    go (m k (Memᴰ.head refl)) (λ t. part_of c.right k.right ks cs z r.2 s.2 t) (λ q t. part_of c.right c.right (k ∷ ks) cs z r.2 q t)
  where
    rest : Among ks (c ∷ cs)
    rest j i = m j (Memᴰ.tail i)

    go : Memᴰ k (c ∷ cs) → (Among ks cs → Sublist ks cs) → (Row c.right (k ∷ ks) z → Among (k ∷ ks) cs → Sublist (k ∷ ks) cs) → Sublist (k ∷ ks) (c ∷ cs)
    go (Memᴰ.head e) f f' =
        let l : c.left ≤ k.right = omega (arith, s.1, ap (λ (j : Cut). j.left) e) in
        subst (λ (j : Cut). Sublist (k ∷ ks) (j ∷ cs)) e (keep (f (past k.right ks z c cs l s.2 rest)))
    go (Memᴰ.tail i) f f' =
        let q = row_inside c.right cs z k r.2 i in
        skip (f' (q.0, s.1, s.2) (past c.right (k ∷ ks) z c cs (omega (arith, r.1)) (q.0, s.1, s.2) m))

-- a division whose cuts another has is that other with some left out
pub divisions_part : (s : Span) (ks cs : List Cut) → Division s ks → Division s cs → Among ks cs → Sublist ks cs
divisions_part s ks cs d e m = part_of s.first s.first ks cs s.last e.rises d.rises m

-- fewer cuts are fewer pieces
pub fewer_cuts : (s : Span) (ks cs : List Cut) → Division s ks → Division s cs → Among ks cs → length (pieces_of s ks) ≤ length (pieces_of s cs)
fewer_cuts s ks cs d e m =
    omega (arith, pieces_count s.first ks s.last, pieces_count s.first cs s.last, part_length (divisions_part s ks cs d e m))

-- ---- more cuts, no longer piece

module _ (g : FrameGrid) (ok : Accepted g) where
  -- a piece that starts no earlier and ends no later than the first piece
  under_first : (a b e c : ℕ) (ks : List Cut) (z : ℕ) → a ≤ b → e ≤ c → Row c ks z → length_of g (piece_from b e) ≤ longest g (pieces_from a ks z)
  under_first a b e c [] z h l r = omega (arith, boundary_mono g ok a b h, boundary_mono g ok e z (omega arith))
  under_first a b e c (k ∷ ks) z h l r = omega (arith, boundary_mono g ok a b h, boundary_mono g ok e k.left (omega (arith, r.0)))

  part_longest : {ks cs : List Cut} (a b z : ℕ) → a ≤ b → Sublist ks cs → Row b cs z → longest g (pieces_from b cs z) ≤ longest g (pieces_from a ks z)
  part_longest a b z h none r = omega (arith, boundary_mono g ok a b h)
  part_longest a b z h (keep {k = k} p) r = omega (arith, boundary_mono g ok a b h, part_longest k.right k.right z (omega arith) p r.2)
  part_longest a b z h (skip {k = k} {ks = ks} {cs = cs} p) r =
      omega (
        arith,
        under_first a b k.left k.right ks z h r.1 (part_row k.right z p r.2),
        part_longest a k.right z (omega (arith, r.0, r.1)) p r.2,
      )

  -- the division that has every cut of another has no longer piece
  pub more-cuts : (s : Span) (ks cs : List Cut) → Division s ks → Division s cs → Among ks cs → longest g (pieces_of s cs) ≤ longest g (pieces_of s ks)
  more-cuts s ks cs d e m = part_longest s.first s.first s.last (omega arith) (divisions_part s ks cs d e m) e.rises

-- ---- every number of pieces between

record Between (ks cs : List Cut) (n : ℕ) : Type 0 where
  pub list : List Cut
  pub over : Sublist ks list
  pub under : Sublist list cs
  pub size : length list ≡ n

part_between : {ks cs : List Cut} (n : ℕ) → Sublist ks cs → length ks ≤ n → n ≤ length cs → Between ks cs n
part_between n none h l = record { list = []; over = none; under = none; size = omega arith }
part_between zero (keep p) h l = absurd (omega arith)
part_between (suc n) (keep {k = k} p) h l =
    let r = part_between n p (omega arith) (omega arith) in
    record { list = k ∷ r.list; over = keep r.over; under = keep r.under; size = ap suc r.size }
part_between n (skip {k = k} {ks = ks} {cs = cs} p) h l = go (part_between n p h) (lt_or_le (length cs) n)
  where
    go : (n ≤ length cs → Between ks cs n) → (length cs < n) ⊎ (n ≤ length cs) → Between ks (k ∷ cs) n
    go f (inl m) = record { list = k ∷ cs; over = skip p; under = part_whole (k ∷ cs); size = omega arith }
    go f (inr m) = let r = f m in record { list = r.list; over = r.over; under = skip r.under; size = r.size }

-- between a division and one that has its cuts and more, there is one of every number of pieces between
pub refine : (s : Span) (ks cs : List Cut) → Division s ks → Division s cs → Among ks cs
    → (n : ℕ) → length (pieces_of s ks) ≤ n → n ≤ length (pieces_of s cs) → Refined s ks cs n
refine s ks cs d e m n h l =
    let p = pieces_count s.first ks s.last in
    let q = pieces_count s.first cs s.last in
    let b = part_between (n - 1) (divisions_part s ks cs d e m) (omega arith) (omega arith) in
    record {
      cuts = b.list;
      divides = record { rises = part_row s.first s.last b.under e.rises; placed = λ k i. e.placed k (part_among b.under k i) };
      number = omega (arith, pieces_count s.first b.list s.last, b.size);
      over = part_among b.over;
      under = part_among b.under;
    }
