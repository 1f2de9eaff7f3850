-- A silence's padded bounds, as the Rust's `silence_bounds` gives them: what is left of it once padding is kept beside the sound on both sides.
-- At the recording's ends there is no sound, and so no padding.
use Rattle.std.specs.Prelude.{ℕ, ◌+◌, ◌-◌, min, Bool, not, ◌&&◌, cond, eqb}
use Rattle.candidate_span.specs.declared.bounds.Bounds.{Bounds}
use Rattle.candidate_span.specs.declared.padding.Padding.{Padding}

-- the lower bound of a silence that starts at frame `start`
unfoldable pub low_of : Padding → ℕ → ℕ
low_of p start = cond (eqb start 0) 0 (min (start + p.tail) p.frames)

-- the upper bound of a silence that ends before frame `end`
unfoldable pub high_of : Padding → ℕ → ℕ
high_of p end = cond (eqb end p.frames) p.frames (end - p.pre)

-- both bounds of a silence
abbrev pub bounds_of : Padding → ℕ → ℕ → Bounds
bounds_of p start end = record { lo = low_of p start; hi = high_of p end }

-- a silence of a recording of n frames is inner: it has sound on both sides
unfoldable pub is_inner : ℕ → ℕ → ℕ → Bool
is_inner n start end = not (eqb start 0) && not (eqb end n)
