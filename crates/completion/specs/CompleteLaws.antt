-- Marks stand before the candidates, which stay as they are while the points between them are marked.
use Rattle.std.specs.Prelude.{◌≡◌, Bool, true, false, cond, eqb, get_or, set}
use Rattle.std.proofs.Math.Path.{refl, sym, ap}
use Rattle.std.proofs.Common.{◌∙◌, get_or-set_other}
use Rattle.std.proofs.Math.Logic.{inl, inr}
use mathlib.Core.List.Memᴰ
use mathlib.Core.List.{List, [], ◌∷◌, Memᴰ}
use Prim.Native.Nat.{ℕ, zero, suc, ◌+◌, ◌*◌, ◌≤◌, ◌<◌}
use native.Mathlib.Omega.{arith}
use Rattle.std.proofs.Math.ListN.{length}
use Rattle.grid.specs.BoundaryLaws.{Accepted}
use Rattle.grid.specs.declared.boundary.FrameGrid.{FrameGrid}
use Rattle.candidate_span.specs.Gaps.{Cut}
use Rattle.division.specs.PiecesLaws.{row_inside}
use Rattle.completion_reach.specs.Cuts.{mark_cut, marking}
use Rattle.completion.specs.MarkingLaws.{marking-length, marking-append}
use Rattle.completion.specs.Bridge.{bridge_of}
use Rattle.completion.specs.BridgeLaws.{Bridgeable, bridge_rises}
use Rattle.completion.specs.Complete.{left_held, right_held, bridges_of}

-- ---- marks

-- what stands behind the marks stays
marking-beyond : (base : ℕ) (ks : List Cut) (work : List ℕ) (i : ℕ) → ((k : Cut) → Memᴰ k ks → base + k.left < i) → get_or (marking base ks work) i 0 ≡ get_or work i 0
unfolding marking
marking-beyond base [] work i f = refl
marking-beyond base (k ∷ ks) work i f =
    marking-beyond base ks (mark_cut base k work) i (λ (j : Cut) (m : Memᴰ j ks). f j (Memᴰ.tail m)) ∙ go (eqb k.left k.right)
  where
    go : (b : Bool) → get_or (cond b (set work (base + k.left) 1) work) i 0 ≡ get_or work i 0
    go true = get_or-set_other work (base + k.left) i 1 0 (λ (e : i ≡ base + k.left). omega (arith, e, f k (Memᴰ.head refl)))
    go false = refl

-- ---- the walk over the candidates

-- an accepted recording's grid, marks and then candidates, each of which ends before the next starts, none beyond the frames
pub record Completable (g : FrameGrid) (base entries steps : ℕ) (work : List ℕ) : Type 0 where
  pub accepted : Accepted g
  pub apart : base + g.frames ≤ entries
  pub room : entries + 3 * steps + 1 ≤ length work
  pub rises : (i : ℕ) → i < steps → right_held entries work i < left_held entries work (suc i)
  pub within : (i : ℕ) → i < steps → left_held entries work (suc i) ≤ g.frames

-- the points of the first i steps are marked
pub record Completing (g : FrameGrid) (base entries steps limit : ℕ) (work₀ : List ℕ) (i : ℕ) (work : List ℕ) : Type 0 where
  pub upto : i ≤ steps
  pub size : length work ≡ length work₀
  pub is : work ≡ marking base (bridges_of g limit entries work₀ i) work₀

module _ (g : FrameGrid) (base entries steps limit : ℕ) (work₀ : List ℕ) (fit : Completable g base entries steps work₀) where
  bridges_inside : (n : ℕ) → n ≤ steps → (k : Cut) → Memᴰ k (bridges_of g limit entries work₀ n) → k.left < g.frames
  unfolding bridges_of
  bridges_inside zero h k m = absurd (Memᴰ.not-nil m)
  bridges_inside (suc n) h k m = elim (Memᴰ.append_cases (bridges_of g limit entries work₀ n) m) [
    | inl i ↦ bridges_inside n (omega arith) k i
    | inr i ↦
        let o = row_inside (right_held entries work₀ n) (bridge_of g limit (right_held entries work₀ n) (left_held entries work₀ (suc n))) (left_held entries work₀ (suc n)) k
        (bridge_rises g limit (right_held entries work₀ n) (left_held entries work₀ (suc n)) (fit.rises n (omega arith))) i in
        omega (arith, o.1, o.2, fit.within n (omega arith))
  ]

  -- before the first step none is marked
  pub completing_start : Completing g base entries steps limit work₀ 0 work₀
  unfolding bridges_of marking
  completing_start = record { upto = omega arith; size = refl; is = refl }

  module _ (i : ℕ) (work : List ℕ) (w : Completing g base entries steps limit work₀ i work) where
    -- what stands from the candidates on is as it was
    stays : (j : ℕ) → entries ≤ j → get_or work j 0 ≡ get_or work₀ j 0
    stays j h =
        ap (λ (xs : List ℕ). get_or xs j 0) w.is
        ∙ marking-beyond base (bridges_of g limit entries work₀ i) work₀ j
        (λ (k : Cut) (m : Memᴰ k (bridges_of g limit entries work₀ i)). omega (arith, h, fit.apart, bridges_inside i w.upto k m))

    module _ (more : i < steps) (from end : ℕ) (begins : from ≡ get_or work (entries + 3 * i + 1) 0) (stops : end ≡ get_or work (entries + 3 * i + 3) 0) where
      from_is : from ≡ right_held entries work₀ i
      from_is = begins ∙ stays (entries + 3 * i + 1) (omega arith)

      end_is : end ≡ left_held entries work₀ (suc i)
      end_is =
          let e : entries + 3 * i + 3 ≡ entries + 3 * suc i = omega arith in
          stops ∙ stays (entries + 3 * i + 3) (omega arith) ∙ ap (λ (j : ℕ). get_or work₀ j 0) e

      -- a step may be bridged
      pub completing_fit : Bridgeable g base from end work
      completing_fit =
          record {
            accepted = fit.accepted;
            order = omega (arith, from_is, end_is, fit.rises i more);
            room = omega (arith, end_is, fit.within i more, fit.apart, fit.room, w.size);
          }

      -- after it the points of one step more are marked
      pub completing_next : (work' : List ℕ) → work' ≡ marking base (bridge_of g limit from end) work → Completing g base entries steps limit work₀ (i + 1) work'
      unfolding bridges_of
      completing_next work' e =
          record {
            upto = omega arith;
            size = ap length e ∙ marking-length base (bridge_of g limit from end) work ∙ w.size;
            is = e ∙ (λ j. marking base (bridge_of g limit (from_is j) (end_is j)) (w.is j))
                ∙ sym (marking-append base (bridges_of g limit entries work₀ i) (bridge_of g limit (right_held entries work₀ i) (left_held entries work₀ (suc i))) work₀)
                ∙ ap (λ (n : ℕ). marking base (bridges_of g limit entries work₀ n) work₀) next;
          }
        where
          next : suc i ≡ i + 1
          next = omega arith

    -- after the last all are
    pub completing_done : steps ≤ i → work ≡ marking base (bridges_of g limit entries work₀ steps) work₀
    completing_done h =
        let e : i ≡ steps = omega (arith, h, w.upto) in
        w.is ∙ ap (λ (n : ℕ). marking base (bridges_of g limit entries work₀ n) work₀) e
