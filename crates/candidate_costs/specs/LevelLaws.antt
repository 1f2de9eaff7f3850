-- Boundary levels are written from the left, each from the level of the frame before it and of the frame after it.
use Rattle.std.specs.Prelude.{◌≡◌, refl, false, List, [], ◌∷◌, ℕ, zero, suc, ◌+◌, ◌-◌, ◌≤◌, ◌<◌, pos, Float, length, get_or, set}
use Rattle.std.proofs.Common.{sym, subst, ◌∙◌, not-suc-le-zero, add-one, arith, length-set}
use Rattle.std.proofs.Math.Path.{ap}
use Rattle.std.specs.Float.Ieee.{nan, binary64, add, div, of_int, round}
use Rattle.std.specs.Float.{fin}
use Rattle.base_terms.specs.Lists.{tabulate, onto}
use Rattle.base_code.specs.FrontLaws.{tabulate-length, tabulate-at, onto-tabulate_next, onto-tabulate-one, onto-tabulate-set}
use Rattle.grid.specs.Validate.{level_count}
use Rattle.grid.specs.declared.validate.Domain.{Domain}
use Rattle.grid.specs.declared.validate.Domain.TheVariants.{Decibels}
use Rattle.candidate_costs.specs.Window.{sum_from, sum_of, mean_of}
use Rattle.candidate_costs.specs.WindowLaws.{Windowed, around_first, around_inner, around_last, one_back}
use Rattle.candidate_costs.specs.Normalize.{unit}
use Rattle.candidate_costs.specs.Level.{level_at}

-- a program's `2.0`
abbrev pub double : Float
double = fin false 1 (pos 1)

mean_one : (x : Float) → mean_of (x ∷ []) ≡ div binary64 x unit
unfolding mean_of sum_of sum_from of_int round
mean_one x = refl

mean_two : (x y : Float) → mean_of (x ∷ (y ∷ [])) ≡ div binary64 (add binary64 x y) double
unfolding mean_of sum_of sum_from of_int round
mean_two x y = refl

forth_back : (k : ℕ) → k ≡ k + 1 - 1
forth_back k = omega arith

-- ---- the level of a boundary by its frames, of which frame i has the level f i

module _ (f : ℕ → Float) (n : ℕ) where
  frames-length : length (tabulate f n) ≡ n
  frames-length = tabulate-length f n

  -- the first boundary has the level of the first frame
  pub level_first : 0 < n → level_at (tabulate f n) 0 ≡ div binary64 (f 0) unit
  unfolding level_at
  level_first h =
      ap mean_of (around_first (tabulate f n) nan (omega (arith, frames-length))) ∙ mean_one (get_or (tabulate f n) 0 nan)
      ∙ ap (λ (x : Float). div binary64 x unit) (tabulate-at f n 0 nan h)

  -- a boundary between two frames has their mean
  pub level_inner : (k : ℕ) → suc k < n → level_at (tabulate f n) (suc k) ≡ div binary64 (add binary64 (f k) (f (suc k))) double
  unfolding level_at
  level_inner k h =
      ap mean_of (around_inner (tabulate f n) k nan (omega (arith, frames-length))) ∙ mean_two (get_or (tabulate f n) k nan) (get_or (tabulate f n) (suc k) nan)
      ∙ rw (tabulate-at f n k nan (omega arith), tabulate-at f n (suc k) nan h)

  -- the last boundary has the level of the last frame
  pub level_last : (k : ℕ) → suc k ≡ n → level_at (tabulate f n) (suc k) ≡ div binary64 (f k) unit
  unfolding level_at
  level_last k h =
      ap mean_of (around_last (tabulate f n) k nan (omega (arith, frames-length))) ∙ mean_one (get_or (tabulate f n) k nan)
      ∙ ap (λ (x : Float). div binary64 x unit) (tabulate-at f n k nan (omega arith))

  -- ---- all of them, from the left

  -- what holds while a loop that ends at `end` writes the level of boundary k, holding the level of the frame before it
  pub record Levelling (out₀ : List Float) (end : ℕ) (out : List Float) (before : Float) (k : ℕ) : Type 0 where
    pub some : 0 < k
    pub within : k ≤ n
    pub ends : end ≡ n
    pub room : n < length out₀
    pub same : length out ≡ length out₀
    pub held : before ≡ f (k - 1)
    pub written : out ≡ onto (tabulate (level_at (tabulate f n)) k) out₀

  -- the first one is written before the loop
  pub levelling_start : (out : List Float) (before : Float) → 0 < n → n < length out → before ≡ f 0
      → Levelling (set out 0 (div binary64 before unit)) n (set out 0 (div binary64 before unit)) before 1
  levelling_start out before h r e =
      let v = div binary64 before unit in
      let g = level_at (tabulate f n) in
      search (arith, length-set out 0 v, onto-tabulate-one g out v (omega arith) (rw e (sym (level_first h))) ∙ sym (onto-tabulate-set g out 1 0 v (omega arith)))

  -- each next one is written from the frame before it and the one after it
  pub levelling_next : (out₀ : List Float) (end : ℕ) (out : List Float) (before here : Float) (k : ℕ) → k < end → here ≡ f k
      → Levelling out₀ end out before k → Levelling out₀ end (set out k (div binary64 (add binary64 before here) double)) here (k + 1)
  levelling_next out₀ end out before here zero l e w = absurd (not-suc-le-zero w.some)
  levelling_next out₀ end out before here (suc k) l e w =
      let s : suc k < n = omega (arith, w.ends) in
      let v : div binary64 (add binary64 before here) double ≡ level_at (tabulate f n) (suc k) = rw (level_inner k s, e, w.held, one_back k) refl in
      record {
        some = omega arith;
        within = omega arith;
        ends = w.ends;
        room = w.room;
        same = length-set out (suc k) (div binary64 (add binary64 before here) double) ∙ w.same;
        held = e ∙ ap f (forth_back (suc k));
        written = rw (v, w.written, add-one) (onto-tabulate_next (level_at (tabulate f n)) out₀ (suc k) (omega (arith, w.room)));
      }

  -- and the last one after it
  pub levelling_done : (out₀ : List Float) (first : Float) (end : ℕ) (out : List Float) (before : Float) (k : ℕ) → end ≤ k → Levelling (set out₀ 0 first) end out before k
      → set out end (div binary64 before unit) ≡ onto (tabulate (level_at (tabulate f n)) (suc n)) out₀
  levelling_done out₀ first end out before zero l w = absurd (not-suc-le-zero w.some)
  levelling_done out₀ first end out before (suc k) l w =
      let g = level_at (tabulate f n) in
      let s : suc k ≡ n = omega (arith, w.ends, w.within) in
      let v : div binary64 before unit ≡ g n = subst (λ (j : ℕ). div binary64 before unit ≡ g j) s (rw (level_last k s, w.held, one_back k) refl) in
      let o : out ≡ onto (tabulate g n) (set out₀ 0 first) = subst (λ (j : ℕ). out ≡ onto (tabulate g j) (set out₀ 0 first)) s w.written in
      rw (w.ends, v, o) (onto-tabulate_next g (set out₀ 0 first) n w.room ∙ onto-tabulate-set g out₀ (suc n) 0 first (omega arith))

-- ---- what the code asks of its input

-- windows for the values, and for decibels a level lent for each
pub record Measured (domain : Domain) (width : ℕ) (values levels : List Float) : Type 0 where
  pub windows : Windowed width values
  pub lends : length levels ≡ level_count domain (length values)

-- of decibels a level is lent for each value
pub lent_each : (domain : Domain) (width : ℕ) (values levels : List Float) → ◌≡◌ {A = Domain} domain Decibels → Measured domain width values levels → length levels ≡ length values
lent_each domain width values levels e m = m.lends ∙ ap (λ (d : Domain). level_count d (length values)) e
