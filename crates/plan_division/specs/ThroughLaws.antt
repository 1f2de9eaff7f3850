-- A division all of whose cuts are candidates is the division along a path: its cuts rise, so their candidates' numbers do.
use Rattle.std.specs.Prelude.{◌≡◌, refl, ◌⊎◌, ℕ, suc, ◌-◌, ◌≤◌, ◌<◌, T, leb, eqb, length}
use Rattle.std.proofs.Common.{sym, ap, subst, ◌∙◌, inl, eq-or-lt_of_le, arith, le→leb}
use Rattle.std.proofs.Math.Logic.{inr}
use mathlib.Core.List.{List, [], ◌∷◌, Memᴰ}
use Rattle.base_laws.specs.Tests.{lt_or_le, or_l}
use Rattle.path_pieces.specs.Pieces.{piece_length, over_of, is_within, may_start}
use Rattle.path_pieces.specs.PiecesLaws.{over_longer}
use Rattle.path_rules.specs.Paths.{AllowedByCount, Onward, Path, over_from, over_count}
use Rattle.candidate_span.specs.Gaps.{Cut}
use Rattle.candidate_span.specs.Span.{Span}
use Rattle.division.specs.Division.{Row, Division}
use Rattle.candidates.specs.declared.candidate.Candidate.{Candidate}
use Rattle.plan_division.specs.Along.{ends_at, cuts_at, cuts_along, RisingPath}
use Rattle.plan_division.specs.Across.{HasCut, Across}

-- ---- a path from a division

module _ (s : Span) (cs : List Candidate) (p : Across s cs) where
  -- a candidate that ends before another starts comes before it
  number_order : (i j : ℕ) → i < length cs → j < length cs → (ends_at cs i).right < (ends_at cs j).left → i < j
  number_order i j h l d = elim (lt_or_le i j) [ inl q ↦ q | inr q ↦ absurd (go (eq-or-lt_of_le q)) ]
    where
      go : (j ≡ i) ⊎ (j < i) → ⊥
      go (inl e) = omega (arith, d, ap (λ (n : ℕ). (ends_at cs n).left) e, p.inside i h)
      go (inr q) = omega (arith, d, p.apart j i q h, p.inside i h, p.inside j l)

  -- the rest of a path from candidate i on, through the cuts ks
  record Through (i : ℕ) (ks : List Cut) : Type 0 where
    pub next : ℕ
    pub rest : List ℕ
    pub rises : Onward (λ (a b : ℕ). a < b) i (next ∷ rest) (length cs - 1)
    pub cuts : cuts_at cs (next ∷ rest) ≡ ks

  through-cut : (i : ℕ) (k : Cut) (ks : List Cut) (c : HasCut cs k) → i < c.number → Through c.number ks → Through i (k ∷ ks)
  through-cut i k ks c h t = record {
    next = c.number;
    rest = t.next ∷ t.rest;
    rises = (h, t.rises);
    cuts = ap (λ (j : Cut). j ∷ cuts_at cs (t.next ∷ t.rest)) c.is ∙ ap (λ (js : List Cut). k ∷ js) t.cuts;
  }

  through : (i : ℕ) (ks : List Cut) → i < length cs - 1 → Row (ends_at cs i).right ks s.last → ((k : Cut) → Memᴰ k ks → HasCut cs k) → Through i ks
  through i [] h r f = record { next = length cs - 1; rest = []; rises = (h, refl); cuts = refl }
  through i (k ∷ ks) h r f =
      let c = f k (Memᴰ.head refl) in
      through-cut i k ks c
      (number_order i c.number (omega arith) (omega (arith, c.before)) (omega (arith, r.0, ap (λ (a : Cut). a.left) c.is)))
      (through c.number ks (omega (arith, c.before)) (subst (λ (a : ℕ). Row a ks s.last) (sym (ap (λ (a : Cut). a.right) c.is)) r.2)
      (λ (a : Cut) (m : Memᴰ a ks). f a (Memᴰ.tail m)))

  -- the path along which a division runs
  pub record PathOf (cuts : List Cut) : Type 0 where
    pub path : List ℕ
    pub rising : RisingPath cs path
    pub along : cuts_along cs path ≡ cuts

  pub division_path : (cuts : List Cut) → Division s cuts → ((k : Cut) → Memᴰ k cuts → HasCut cs k) → PathOf cuts
  division_path cuts d f =
      let t = through 0 cuts (omega (arith, p.some)) (subst (λ (a : ℕ). Row a cuts s.last) (sym p.starts) d.rises) f in
      record { path = 0 ∷ (t.next ∷ t.rest); rising = (refl, t.rises); along = t.cuts }

-- ---- a path with no piece over the limit is allowed

module _ (limit : ℕ) (left right : List ℕ) where
  within_starts : (i j : ℕ) → over_of limit (piece_length left right i j) ≡ 0 → T (may_start limit left right j i)
  unfolding may_start is_within
  within_starts i j e = or_l (leb (piece_length left right i j) limit) (eqb (suc i) j) (le→leb (piece_length left right i j) limit (go (lt_or_le limit (piece_length left right i j))))
    where
      go : (limit < piece_length left right i j) ⊎ (piece_length left right i j ≤ limit) → piece_length left right i j ≤ limit
      go (inl h) = absurd (omega (arith, e, over_longer limit (piece_length left right i j) h))
      go (inr h) = h

  onward_allowed : (i : ℕ) (rest : List ℕ) (last : ℕ) → Onward (λ (a b : ℕ). a < b) i rest last → over_from limit left right i rest ≡ 0
      → Onward (AllowedByCount limit left right) i rest last
  unfolding over_from
  onward_allowed i [] last r e = r
  onward_allowed i (j ∷ rest) last (h, r) e = ((h, inr (within_starts i j (omega arith))), onward_allowed j rest last r (omega arith))

  pub none-over_allowed : (path : List ℕ) (last : ℕ) → Path (λ (a b : ℕ). a < b) path last → over_count limit left right path ≡ 0
      → Path (AllowedByCount limit left right) path last
  unfolding over_count
  none-over_allowed [] last r e = r
  none-over_allowed (i ∷ rest) last (q, r) e = (q, onward_allowed i rest last r e)
