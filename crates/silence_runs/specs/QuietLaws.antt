-- The frames below off are written from the left, each by its own value and flag byte.
use Rattle.std.specs.Prelude.{◌≡◌, refl, ℕ, suc, ◌+◌, ◌≤◌, ◌<◌, Float, length, get_or, drop, set}
use Rattle.std.proofs.Math.Path.{sym, ap}
use Rattle.std.proofs.Common.{◌∙◌, add-one, arith, drop_of_length-le, take_all}
use mathlib.Core.List.{List, [], ◌∷◌, ◌++◌, append-nil}
use Rattle.std.specs.Float.Ieee.{nan}
use Rattle.std.proofs.Math.ListN.{take, length-set}
use Rattle.std.proofs.Math.Seq.{drop-cons, take-suc-set, append_snoc}
use Rattle.silence_runs.specs.RunsLaws.{each_length}
use Rattle.silence_runs.specs.Quiet.{below_at, below_off, own, quiet_runs}

-- what holds while a loop that ends at `end` writes which frames are below off
pub record BelowWritten (off : Float) (values : List Float) (flags : List ℕ) (end : ℕ) (below : List ℕ) (i : ℕ) : Type 0 where
  pub within : i ≤ length values
  pub ends : end ≡ length values
  pub flagged : length flags ≡ length values
  pub same : length below ≡ length values
  pub left : take i below ++ below_off off (drop i values) (drop i flags) ≡ below_off off values flags

module _ (off : Float) (values : List Float) (flags : List ℕ) where
  -- frame i is written
  pub below_next : (end : ℕ) (below : List ℕ) (i s : ℕ) → i < end → s ≡ below_at off (get_or values i nan) (get_or flags i 0) → BelowWritten off values flags end below i
      → BelowWritten off values flags end (set below i s) (i + 1)
  unfolding below_off
  below_next end below i s l e w =
      let step : below_off off (drop i values) (drop i flags) ≡ s ∷ below_off off (drop (suc i) values) (drop (suc i) flags) =
      rw (e, drop-cons values i nan (omega arith), drop-cons flags i 0 (omega arith)) in
      let moved : take (i + 1) (set below i s) ++ below_off off (drop (i + 1) values) (drop (i + 1) flags) ≡ below_off off values flags =
      rw (add-one, take-suc-set below i s (omega arith)) (append_snoc (take i below) s (below_off off (drop (suc i) values) (drop (suc i) flags)) ∙ ap (λ (t : List ℕ). take i below ++ t) (sym step) ∙ w.left) in
      record { within = omega arith; ends = w.ends; flagged = w.flagged; same = length-set below i s ∙ w.same; left = moved }

  -- every frame is written
  pub below_done : (end : ℕ) (below : List ℕ) (i : ℕ) → end ≤ i → BelowWritten off values flags end below i → below ≡ below_off off values flags
  unfolding below_off
  below_done end below i l w =
      sym (append-nil below) ∙ sym (ap (λ (t : List ℕ). t ++ []) (take_all i below (omega arith)))
      ∙ sym (ap (λ (vs : List Float). take i below ++ below_off off vs (drop i flags)) (drop_of_length-le values {i = i} (omega arith))) ∙ w.left

-- there is a number for each frame
pub quiet_length : (below : List ℕ) → length (quiet_runs below) ≡ length below
unfolding quiet_runs
quiet_length = each_length 1 own

-- and a flag for each
pub below_length : (off : Float) (values : List Float) (flags : List ℕ) → length flags ≡ length values → length (below_off off values flags) ≡ length values
unfolding below_off
below_length off [] flags e = refl
below_length off (v ∷ values) [] e = e
below_length off (v ∷ values) (f ∷ flags) e = ap suc (below_length off values flags (omega arith))
