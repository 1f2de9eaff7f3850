-- The grid points by the steps of a walk: blocked boundaries are passed, each open one starts a block.
use Rattle.std.specs.Prelude.{◌≡◌, Bool, true, false, ◌||◌, cond, List, [], ◌∷◌, ltb, eqb, Float}
use Rattle.std.proofs.Math.Path.{refl}
use Prim.Native.Nat.{ℕ, zero, suc, ◌+◌, ◌-◌, ◌≤◌, ◌<◌}
use Rattle.std.proofs.Common.{arith, ltb-true, ltb-false, ne_eqb}
use Rattle.candidate_costs.specs.Quietest.{quietest_of}
use Rattle.candidate_costs.specs.QuietestLaws.{quietest_within}
use Rattle.candidate_points.specs.FlagsLaws.{not_both}
use Rattle.candidate_points.specs.Points.{block_end, points_from, grid_points, is_in}
use Rattle.candidate_points.specs.BlocksLaws.{end_within_lem, end_after_lem}

-- the points from boundary k on
pub data PointWalk (blocked : ℕ → Bool) (levels : List Float) (block last : ℕ) : ℕ → List ℕ → Type 0 where
  ended : {k : ℕ} → last ≤ k → PointWalk blocked levels block last k []
  passed : {k : ℕ} {ps : List ℕ} → k < last → blocked k ≡ true → PointWalk blocked levels block last (suc k) ps → PointWalk blocked levels block last k ps
  opened : {k p : ℕ} {ps : List ℕ} → k < last → blocked k ≡ false → p ≡ quietest_of levels k (block_end blocked block last k)
      → PointWalk blocked levels block last (block_end blocked block last k) ps → PointWalk blocked levels block last k (p ∷ ps)

module _ (blocked : ℕ → Bool) (levels : List Float) (block last : ℕ) (some : 1 ≤ block) where
  -- the next points, as the definition has them
  walk_inner : (fuel k : ℕ) → ((j : ℕ) → last ≤ j + fuel → PointWalk blocked levels block last j (points_from blocked levels block last fuel j)) → last ≤ k + suc fuel → k < last
      → (b : Bool) → blocked k ≡ b → PointWalk blocked levels block last k
      (cond b (points_from blocked levels block last fuel (suc k)) (quietest_of levels k (block_end blocked block last k) ∷ points_from blocked levels block last fuel (block_end blocked block last k)))
  walk_inner fuel k f h l true e = passed l e (f (suc k) (omega arith))
  walk_inner fuel k f h l false e = opened l e refl (f (block_end blocked block last k) (omega (arith, end_after_lem blocked block last k some l e)))

  walk_step : (fuel k : ℕ) → ((j : ℕ) → last ≤ j + fuel → PointWalk blocked levels block last j (points_from blocked levels block last fuel j)) → last ≤ k + suc fuel
      → (b : Bool) → (b ≡ true → k < last) → (b ≡ false → last ≤ k) → PointWalk blocked levels block last k
      (cond b (cond (blocked k) (points_from blocked levels block last fuel (suc k)) (quietest_of levels k (block_end blocked block last k) ∷ points_from blocked levels block last fuel (block_end blocked block last k))) [])
  walk_step fuel k f h true p q = walk_inner fuel k f h (p refl) (blocked k) refl
  walk_step fuel k f h false p q = ended (q refl)

  walk_from : (fuel k : ℕ) → last ≤ k + fuel → PointWalk blocked levels block last k (points_from blocked levels block last fuel k)
  unfolding points_from
  walk_from zero k h = ended {k = k} (omega arith)
  walk_from (suc fuel) k h =
      walk_step fuel k (λ (j : ℕ) (l : last ≤ j + fuel). walk_from fuel j l) h (ltb k last) (ltb-true k last) (ltb-false k last)

  -- the grid points are those of the walk from the span's first boundary on
  pub points_walk : (first : ℕ) → PointWalk blocked levels block last (suc first) (grid_points blocked levels block first last)
  unfolding grid_points
  points_walk first = walk_from (last - suc first) (suc first) (omega arith)

  -- no point is before the walk
  pub walk_before : {k : ℕ} {ps : List ℕ} → PointWalk blocked levels block last k ps → (j : ℕ) → j < k → is_in ps j ≡ false
  unfolding is_in
  walk_before (ended h) j l = refl
  walk_before (passed h e w) j l = walk_before w j (omega arith)
  walk_before {k = k} (opened {p = p} h e q w) j l =
      let a = end_after_lem blocked block last k some h e in
      let d : p ≡ j → ⊥ = λ (s : p ≡ j). omega (arith, q, quietest_within levels k (block_end blocked block last k) a) in
      rw (ne_eqb p j d) (walk_before w j (omega arith))

  -- nor at the span's last boundary or after it
  pub walk_beyond : {k : ℕ} {ps : List ℕ} → PointWalk blocked levels block last k ps → (j : ℕ) → last ≤ j → is_in ps j ≡ false
  unfolding is_in
  walk_beyond (ended h) j l = refl
  walk_beyond (passed h e w) j l = walk_beyond w j l
  walk_beyond {k = k} (opened {p = p} h e q w) j l =
      let a = end_after_lem blocked block last k some h e in
      let d : p ≡ j → ⊥ = λ (s : p ≡ j). omega (arith, q, quietest_within levels k (block_end blocked block last k) a, end_within_lem blocked block last k h) in
      rw (ne_eqb p j d) (walk_beyond w j l)

-- ---- what a walk does next

-- the block that starts at k: its point comes first
pub record Opened (blocked : ℕ → Bool) (levels : List Float) (block last k : ℕ) (ps : List ℕ) : Type 0 where
  pub others : List ℕ
  pub are : ps ≡ quietest_of levels k (block_end blocked block last k) ∷ others
  pub walk : PointWalk blocked levels block last (block_end blocked block last k) others

module _ {blocked : ℕ → Bool} {levels : List Float} {block last : ℕ} where
  -- at a blocked boundary it goes on to the next
  pub walk_pass : {k : ℕ} {ps : List ℕ} → PointWalk blocked levels block last k ps → k < last → blocked k ≡ true → PointWalk blocked levels block last (suc k) ps
  walk_pass (ended h) l e = absurd (omega arith)
  walk_pass (passed h f w) l e = w
  walk_pass (opened h f q w) l e = absurd (not_both e f)

  -- at an open one it starts a block
  pub walk_open : {k : ℕ} {ps : List ℕ} → PointWalk blocked levels block last k ps → k < last → blocked k ≡ false → Opened blocked levels block last k ps
  walk_open (ended h) l e = absurd (omega arith)
  walk_open (passed h f w) l e = absurd (not_both f e)
  walk_open (opened {ps = qs} h f q w) l e = record { others = qs; are = rw q; walk = w }

  -- the points from there on are the block's own and those after it
  pub opened_in : {k : ℕ} {ps : List ℕ} → (o : Opened blocked levels block last k ps) (j : ℕ) → is_in ps j ≡ (eqb (quietest_of levels k (block_end blocked block last k)) j || is_in o.others j)
  unfolding is_in
  opened_in o j = rw o.are
