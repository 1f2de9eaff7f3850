-- Each point is as far on as the limit allows, or a frame on: so the pieces between points are within the limit or single frames.
use Rattle.std.specs.Prelude.{◌≡◌, refl, ◌⊎◌, Bool, cond, ltb, eqb}
use Rattle.std.proofs.Math.Path.{sym, ap}
use Rattle.std.proofs.Common.{subst, ◌∙◌}
use Rattle.std.proofs.Math.Logic.{inl, inr}
use Rattle.std.proofs.Math.Bool.{true, false}
use mathlib.Core.List.Memᴰ
use mathlib.Core.List.{List, [], ◌∷◌, Memᴰ}
use Prim.Native.Nat.{ℕ, zero, suc, ◌+◌, ◌-◌, ◌≤◌, ◌<◌, max}
use native.Mathlib.Omega.{arith}
use Rattle.std.proofs.Math.ListN.{length}
use borrow.Author.Tests.{ltb-false, eqb-true, eqb-false, lt-ltb, le-ltb, eq-eqb, ne_eqb}
use Rattle.base_laws.specs.Tests.{lt_or_le}
use Rattle.grid.specs.BoundaryLaws.{Accepted}
use Rattle.grid.specs.declared.boundary.FrameGrid.{FrameGrid}
use Rattle.candidate_span.specs.Gaps.{Cut}
use Rattle.division.specs.Division.{Row}
use Rattle.division.specs.Pieces.{Piece, piece_from, pieces_from, IsSingle, length_of}
use Rattle.division.specs.Places.{cut_at}
use Rattle.completion_reach.specs.Reachable.{reachable_of}
use Rattle.completion_reach.specs.ReachableLaws.{reached}
use Rattle.completion_reach.specs.Cuts.{mark_cut, marking}
use Rattle.completion.specs.CutsLaws.{mark_length}
use Rattle.completion.specs.Bridge.{on_to, bridge_from, bridge_of}

module _ (g : FrameGrid) (limit z : ℕ) where
  -- a step goes on, and not beyond z
  step_on : (a : ℕ) → a < z → (a < on_to g limit z a) × (on_to g limit z a ≤ z)
  step_on a h = let r = reached g limit a (z - a) in (omega arith, omega (arith, r.high, h))

  -- the piece that it makes is within the limit or a single frame
  step-short : (a : ℕ) → (length_of g (piece_from a (on_to g limit z a)) ≤ limit) ⊎ (on_to g limit z a ≡ suc a)
  step-short a = elim (lt_or_le (reachable_of g limit a z) (a + 1)) [
    | inl h ↦ inr (omega arith)
    | inr h ↦
        let e : reachable_of g limit a z ≡ on_to g limit z a = omega arith in
        inl (subst (λ (k : ℕ). length_of g (piece_from a k) ≤ limit) e (reached g limit a (z - a)).within)
  ]

  -- ---- the points rise, and the pieces between them are within the limit or single frames

  bridge_row : (n a : ℕ) → a < z → Row a (bridge_from g limit z n a) z
  unfolding bridge_from
  bridge_row zero a h = h
  bridge_row (suc n) a h =
      go (ltb limit (length_of g (piece_from a z))) (eqb (on_to g limit z a) z) (eqb-false (on_to g limit z a) z) (bridge_row n (on_to g limit z a))
    where
      go : (b c : Bool) → (c ≡ false → on_to g limit z a ≡ z → ⊥) → (on_to g limit z a < z → Row (on_to g limit z a) (bridge_from g limit z n (on_to g limit z a)) z)
          → Row a (cond b (cond c [] (cut_at (on_to g limit z a) ∷ bridge_from g limit z n (on_to g limit z a))) []) z
      go true true f rest = h
      go true false f rest =
          let s = step_on a h in
          let l : on_to g limit z a < z = below (on_to g limit z a) z s.1 (f refl) in
          (s.0, omega arith, rest l)
        where
          below : (i j : ℕ) → i ≤ j → (i ≡ j → ⊥) → i < j
          below i j k d = elim (lt_or_le i j) [ inl q ↦ q | inr q ↦ absurd (d (omega arith)) ]
      go false c f rest = h

  abbrev Short : Piece → Type 0
  Short p = (length_of g p ≤ limit) ⊎ IsSingle p

  short_piece : (a e : ℕ) → (length_of g (piece_from a e) ≤ limit) ⊎ (e ≡ suc a) → (p : Piece) → p ≡ piece_from a e → Short p
  short_piece a e (inl h) p q = inl (subst (λ (c : Piece). length_of g c ≤ limit) (sym q) h)
  short_piece a e (inr h) p q = inr (ap (λ (c : Piece). c.end) q ∙ h ∙ sym (ap (λ (c : Piece). suc c.start) q))

  -- the last piece, where z is within the limit or a frame on
  last-short : (a : ℕ) → (length_of g (piece_from a z) ≤ limit) ⊎ (z ≡ suc a) → (p : Piece) → Memᴰ p (pieces_from a [] z) → Short p
  last-short a s p (Memᴰ.head q) = short_piece a z s p q
  last-short a s p (Memᴰ.tail m) = absurd (Memᴰ.not-nil m)

  pieces_short : (n a : ℕ) → a < z → z ≤ a + n → (p : Piece) → Memᴰ p (pieces_from a (bridge_from g limit z n a) z) → Short p
  unfolding bridge_from
  pieces_short zero a h l p m = absurd (omega arith)
  pieces_short (suc n) a h l p m =
      go (ltb limit (length_of g (piece_from a z))) (eqb (on_to g limit z a) z) (ltb-false limit (length_of g (piece_from a z))) (eqb-true (on_to g limit z a) z) (eqb-false (on_to g limit z a) z) m
      (λ i j k. pieces_short n (on_to g limit z a) i j p k)
    where
      below : (i j : ℕ) → i ≤ j → (i ≡ j → ⊥) → i < j
      below i j k d = elim (lt_or_le i j) [ inl q ↦ q | inr q ↦ absurd (d (omega arith)) ]

      go : (b c : Bool) → (b ≡ false → length_of g (piece_from a z) ≤ limit) → (c ≡ true → on_to g limit z a ≡ z) → (c ≡ false → on_to g limit z a ≡ z → ⊥)
          → Memᴰ p (pieces_from a (cond b (cond c [] (cut_at (on_to g limit z a) ∷ bridge_from g limit z n (on_to g limit z a))) []) z)
          → (on_to g limit z a < z → z ≤ on_to g limit z a + n → Memᴰ p (pieces_from (on_to g limit z a) (bridge_from g limit z n (on_to g limit z a)) z) → Short p) → Short p
      go true true f f' f'' i rest = last-short a (subst (λ (k : ℕ). (length_of g (piece_from a k) ≤ limit) ⊎ (k ≡ suc a)) (f' refl) (step-short a)) p i
      go true false f f' f'' (Memᴰ.head q) rest = short_piece a (on_to g limit z a) (step-short a) p q
      go true false f f' f'' (Memᴰ.tail i) rest =
          let s = step_on a h in
          rest (below (on_to g limit z a) z s.1 (f'' refl)) (omega (arith, l, s.0)) i
      go false c f f' f'' i rest = last-short a (inl (f refl)) p i

-- as code finds it
pub on_to_lem : (g : FrameGrid) (limit z a r next : ℕ) → r ≡ reachable_of g limit a z → next ≡ max r (a + 1) → next ≡ on_to g limit z a
on_to_lem g limit z a r next e h = h ∙ ap (λ (k : ℕ). max k (a + 1)) e

-- the points between two neighbours rise
pub bridge_rises : (g : FrameGrid) (limit a z : ℕ) → a < z → Row a (bridge_of g limit a z) z
bridge_rises g limit a z h = bridge_row g limit z (z - a) a h

-- and every piece between them is within the limit or a single frame
pub bridge_short : (g : FrameGrid) (limit a z : ℕ) → a < z → (p : Piece) → Memᴰ p (pieces_from a (bridge_of g limit a z) z) → (length_of g p ≤ limit) ⊎ IsSingle p
bridge_short g limit a z h p m = pieces_short g limit z (z - a) a h (omega arith) p m

-- ---- what code that marks them needs, and what holds on its way

-- an accepted recording's grid, and room for a mark at each boundary between
pub record Bridgeable (g : FrameGrid) (base from end : ℕ) (work : List ℕ) : Type 0 where
  pub accepted : Accepted g
  pub order : from < end
  pub room : base + end ≤ length work

-- from boundary a the points still ahead are marked
pub record Bridging (g : FrameGrid) (base from end limit : ℕ) (work₀ : List ℕ) (a : ℕ) (work : List ℕ) : Type 0 where
  pub before : a < end
  pub size : length work ≡ length work₀
  pub ahead : (n : ℕ) → end ≤ a + n → marking base (bridge_from g limit end n a) work ≡ marking base (bridge_of g limit from end) work₀

module _ (g : FrameGrid) (base from end limit : ℕ) (work₀ : List ℕ) (fit : Bridgeable g base from end work₀) where
  -- as many steps as there are boundaries are enough
  enough : (n m a : ℕ) → a < end → end ≤ a + n → end ≤ a + m → bridge_from g limit end n a ≡ bridge_from g limit end m a
  unfolding bridge_from
  enough zero m a h k l = absurd (omega arith)
  enough (suc n) zero a h k l = absurd (omega arith)
  enough (suc n) (suc m) a h k l =
      go (ltb limit (length_of g (piece_from a end))) (eqb (on_to g limit end a) end) (eqb-false (on_to g limit end a) end) (λ i j e. enough n m (on_to g limit end a) i j e)
    where
      below : (i j : ℕ) → i ≤ j → (i ≡ j → ⊥) → i < j
      below i j q d = elim (lt_or_le i j) [ inl t ↦ t | inr t ↦ absurd (d (omega arith)) ]

      go : (b c : Bool) → (c ≡ false → on_to g limit end a ≡ end → ⊥)
          → (on_to g limit end a < end → end ≤ on_to g limit end a + n → end ≤ on_to g limit end a + m → bridge_from g limit end n (on_to g limit end a) ≡ bridge_from g limit end m (on_to g limit end a))
          → cond b (cond c [] (cut_at (on_to g limit end a) ∷ bridge_from g limit end n (on_to g limit end a))) []
          ≡ cond b (cond c [] (cut_at (on_to g limit end a) ∷ bridge_from g limit end m (on_to g limit end a))) []
      go true true f rest = refl
      go true false f rest =
          let s = step_on g limit end a h in
          ap (λ (ks : List Cut). cut_at (on_to g limit end a) ∷ ks) (rest (below (on_to g limit end a) end s.1 (f refl)) (omega (arith, k, s.0)) (omega (arith, l, s.0)))
      go false c f rest = refl

  -- before the first point all are ahead
  pub bridging_start : Bridging g base from end limit work₀ from work₀
  bridging_start =
      record {
        before = fit.order;
        size = refl;
        ahead = λ (n : ℕ) (h : end ≤ from + n). ap (λ (ks : List Cut). marking base ks work₀) (enough n (end - from) from fit.order h (omega (arith, fit.order)));
      }

  module _ (a : ℕ) (work : List ℕ) (w : Bridging g base from end limit work₀ a work) where
    -- the rest is within the limit
    pub bridging_within : length_of g (piece_from a end) ≤ limit → work ≡ marking base (bridge_of g limit from end) work₀
    unfolding bridge_from marking
    bridging_within h = sym (rw (le-ltb limit (length_of g (piece_from a end)) h)) ∙ w.ahead (suc end) (omega arith)

    module _ (over : limit < length_of g (piece_from a end)) (next : ℕ) (is : next ≡ on_to g limit end a) where
      -- the next boundary that a piece reaches is the end
      pub bridging_end : next ≡ end → work ≡ marking base (bridge_of g limit from end) work₀
      unfolding bridge_from marking
      bridging_end e =
          sym (rw (lt-ltb limit (length_of g (piece_from a end)) over, eq-eqb (on_to g limit end a) end (sym is ∙ e))) ∙ w.ahead (suc end) (omega arith)

      module _ (short : next ≡ end → ⊥) where
        -- it is not: then it lies between
        pub bridging_on : (a < next) × (next < end)
        bridging_on =
            let s = step_on g limit end a w.before in
            elim (lt_or_le next end) [ inl h ↦ (omega (arith, is, s.0), h) | inr h ↦ absurd (short (omega (arith, is, s.1, h))) ]

        -- where there is room for its mark
        pub bridging_room : base + next < length work
        bridging_room = omega (arith, bridging_on.1, fit.room, w.size)

        step : (m : ℕ) → bridge_from g limit end (suc m) a ≡ cut_at next ∷ bridge_from g limit end m next
        unfolding bridge_from
        step m =
            rw (lt-ltb limit (length_of g (piece_from a end)) over, ne_eqb (on_to g limit end a) end (λ (e : on_to g limit end a ≡ end). short (is ∙ e)))
            (ap (λ (k : ℕ). cut_at k ∷ bridge_from g limit end m k) (sym is))

        -- with that mark the points behind it are still ahead
        pub bridging_next : (work' : List ℕ) → work' ≡ mark_cut base (cut_at next) work → Bridging g base from end limit work₀ next work'
        unfolding marking
        bridging_next work' e =
            record { before = bridging_on.1; size = ap length e ∙ mark_length base (cut_at next) work ∙ w.size; ahead = ahead }
          where
            ahead : (n : ℕ) → end ≤ next + n → marking base (bridge_from g limit end n next) work' ≡ marking base (bridge_of g limit from end) work₀
            ahead n h =
                ap (marking base (bridge_from g limit end n next)) e
                ∙ ap (λ (ks : List Cut). marking base ks (mark_cut base (cut_at next) work)) (enough n (end + n) next bridging_on.1 h (omega arith))
                ∙ ap (λ (ks : List Cut). marking base ks work) (sym (step (end + n))) ∙ w.ahead (suc (end + n)) (omega arith)
