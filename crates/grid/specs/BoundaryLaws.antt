-- Boundaries rise strictly up to the frame count in an accepted recording: each frame holds a sample at least, and the last one starts before the length.
use Rattle.std.specs.Prelude.{◌≡◌, Bool, true, false, ◌&&◌, cond, ℕ, zero, suc, ◌+◌, ◌-◌, ◌*◌, ◌/◌, ◌≤◌, ◌<◌, T, ltb, eqb}
use Rattle.std.proofs.Common.{sym, ap, subst, ◌∙◌, inl, inr, le_refl, le_of_lt, lt_trans, eq-or-lt_of_le, add-le-add, le_of_eq, not-le_of_lt, suc-mul, div-mul-le_self, le-div_iff_mul-le, zero-mul, add-one, arith, ltb→lt, eqb→eq, lt-ltb, le-ltb}
use Rattle.std.proofs.Math.Nat.{zero-div}
use Rattle.std.specs.Float.Ieee.Fits.{and_l, and_r}
use Rattle.base_laws.specs.Tests.{lt_or_le}
use Rattle.grid.specs.declared.boundary.FrameGrid.{FrameGrid}
use Rattle.grid.specs.Boundary.{Bounded, start_of, boundary_of, covers}

-- what tests 1, 3, 4 and 6 leave of a grid: its numbers are bounded, each frame spans a sample at least, and the frames cover the length
pub record Accepted (g : FrameGrid) : Type 0 where
  pub bounded : Bounded g
  pub spans : g.frame_rate ≤ g.hop * g.sample_rate
  pub covered : T (covers g)

-- ---- starts

step : (k h f : ℕ) → 0 < f → f ≤ h → k * h / f < suc k * h / f
step k h f F l = (le-div_iff_mul-le F).1 (rw (suc-mul (k * h / f) f, suc-mul k h) (add-le-add (div-mul-le_self (k * h) f) l))

-- each frame of an accepted grid starts after the one before
pub start_rises : (g : FrameGrid) → Accepted g → (k : ℕ) → start_of g k < start_of g (k + 1)
unfolding start_of
start_rises g a k = rw add-one (step k (g.hop * g.sample_rate) g.frame_rate a.bounded.divisor a.spans)

-- ---- boundaries

-- of a covered length that is not empty the last frame starts before the end
last-first : (n start len next : ℕ) → 0 < n → T (cond (eqb len 0) (eqb n 0) (ltb 0 n && ltb start len && ltb len next)) → start < len
last-first n start len next h = go (eqb len 0)
  where
    go : (b : Bool) → T (cond b (eqb n 0) (ltb 0 n && ltb start len && ltb len next)) → start < len
    go true t = absurd (not-le_of_lt h (le_of_eq (eqb→eq n 0 t)))
    go false t = ltb→lt start len (and_r (ltb 0 n) (ltb start len) (and_l (ltb 0 n && ltb start len) (ltb len next) t))

-- the last frame of an accepted grid starts before the length
pub last_start : (g : FrameGrid) → Accepted g → 0 < g.frames → start_of g (g.frames - 1) < g.len
unfolding covers
last_start g a h = last-first g.frames (start_of g (g.frames - 1)) g.len (start_of g (g.frames + 1)) h a.covered

-- a boundary below the frame count is the start of its frame
pub boundary_inner : (g : FrameGrid) (k : ℕ) → k < g.frames → boundary_of g k ≡ start_of g k
unfolding boundary_of
boundary_inner g k h = rw (lt-ltb k g.frames h)

-- every other boundary is the length
pub boundary_last : (g : FrameGrid) (k : ℕ) → g.frames ≤ k → boundary_of g k ≡ g.len
unfolding boundary_of
boundary_last g k h = rw (le-ltb k g.frames h)

-- the first is 0, where there is a frame
pub boundary_zero : (g : FrameGrid) → 0 < g.frames → boundary_of g 0 ≡ 0
unfolding start_of
boundary_zero g h = boundary_inner g 0 h ∙ rw (zero-mul, zero-div)

-- document 01: "in an accepted recording each boundary up to the frame count is above the one before"
pub boundary_rises : (g : FrameGrid) → Accepted g → (k : ℕ) → k < g.frames → boundary_of g k < boundary_of g (k + 1)
boundary_rises g a k h =
    let next : (j n : ℕ) → j < n → j + 1 ≤ n = λ j n l. omega arith in
    let some : (j n : ℕ) → j < n → 0 < n = λ j n l. omega arith in
    let before_last : (j n : ℕ) → j + 1 ≡ n → n - 1 ≡ j = λ j n e. omega arith in
    elim (eq-or-lt_of_le (next k g.frames h)) [
      | inl e ↦
          rw (boundary_inner g k h, boundary_last g (k + 1) (le_of_eq (sym e)))
          (subst (λ (j : ℕ). start_of g j < g.len) (before_last k g.frames e) (last_start g a (some k g.frames h)))
      | inr l ↦ rw (boundary_inner g k h, boundary_inner g (k + 1) l) (start_rises g a k)
    ]

-- a later boundary is above an earlier one, up to the frame count
pub boundary_above : (g : FrameGrid) → Accepted g → (j k : ℕ) → j < k → k ≤ g.frames → boundary_of g j < boundary_of g k
boundary_above g a j k h l =
    subst (λ (m : ℕ). boundary_of g j < boundary_of g m) (there j k h) (climb (k - (j + 1)) (subst (λ (m : ℕ). m ≤ g.frames) (sym (there j k h)) l))
  where
    there : (i m : ℕ) → i < m → i + suc (m - (i + 1)) ≡ m
    there i m d = omega arith

    climb : (d : ℕ) → j + suc d ≤ g.frames → boundary_of g j < boundary_of g (j + suc d)
    climb zero e = boundary_rises g a j (omega arith)
    climb (suc d) e =
        let f : j + suc d < g.frames = omega arith in
        let further : j + suc d + 1 ≡ j + suc (suc d) = omega arith in
        lt_trans (climb d (le_of_lt f)) (rw further at (boundary_rises g a (j + suc d) f))

-- no boundary is above the length
pub boundary_le_len : (g : FrameGrid) → Accepted g → (k : ℕ) → boundary_of g k ≤ g.len
boundary_le_len g a k = elim (lt_or_le k g.frames) [
  | inl h ↦ le_of_lt (subst (λ (m : ℕ). boundary_of g k < m) (boundary_last g g.frames (le_refl g.frames)) (boundary_above g a k g.frames h (le_refl g.frames)))
  | inr h ↦ le_of_eq (boundary_last g k h)
]

-- boundaries never fall, whatever their number
pub boundary_mono : (g : FrameGrid) → Accepted g → (j k : ℕ) → j ≤ k → boundary_of g j ≤ boundary_of g k
boundary_mono g a j k h = elim (lt_or_le k g.frames) [
  | inl b ↦ elim (eq-or-lt_of_le h) [
    | inl e ↦ le_of_eq (ap (boundary_of g) e)
    | inr l ↦ le_of_lt (boundary_above g a j k l (le_of_lt b))
  ]
  | inr e ↦ subst (λ (m : ℕ). boundary_of g j ≤ m) (sym (boundary_last g k e)) (boundary_le_len g a j)
]
