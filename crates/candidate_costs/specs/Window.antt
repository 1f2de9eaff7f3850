-- Document 01's smoothing window, and the mean of a part: "each window is summed afresh, left to right".
use Rattle.std.specs.Prelude.{List, [], ◌∷◌, ℕ, ◌+◌, ◌-◌, ◌/◌, min, max, pos, Float, length, take, drop}
use Rattle.std.specs.Float.{binary64}
use Rattle.std.specs.Float.Ieee.{add, div, of_int}
use Rattle.base_terms.specs.Floats.{nought}
use Rattle.grid.specs.Durations.{frames_ceil}

-- ---- parts

-- the elements from one place up to another
abbrev pub part_of : {A : Type 0} → ℕ → ℕ → List A → List A
part_of from to xs = take (to - from) (drop from xs)

-- from `back` before place i up to `ahead` after it, clipped to the list
unfoldable pub clipped : {A : Type 0} → ℕ → ℕ → List A → ℕ → List A
clipped back ahead xs i = part_of (i - back) (min (i + ahead) (length xs)) xs

-- how many frames of a window lie before its own frame
abbrev pub half_of : ℕ → ℕ
half_of width = (width - 1) / 2

-- the smoothing window of frame i: the values from i − half to i + width − half, clipped
unfoldable pub window_of : ℕ → List Float → ℕ → List Float
window_of width values i = clipped (half_of width) (width - half_of width) values i

-- the Rust's SMOOTHING, 150 ms in nanoseconds
abbrev pub smoothing : ℕ
smoothing = 150000000

-- a window's width in frames: 150 ms rounded up, and one at least
unfoldable pub width_of : ℕ → ℕ → ℕ
width_of frameRate hop = max 1 (frames_ceil frameRate hop smoothing)

-- the widest window: 150 ms at the highest frame rate
abbrev pub max_width : ℕ
max_width = 28800

-- ---- means

-- a, and then each value added in its turn; an f32 is the same value as an f64
unfoldable pub sum_from : Float → List Float → Float
sum_from a [] = a
sum_from a (x ∷ xs) = sum_from (add binary64 a x) xs

-- the sum, left to right from the first value
unfoldable pub sum_of : List Float → Float
sum_of [] = nought
sum_of (x ∷ xs) = sum_from x xs

-- the sum over the number of values
unfoldable pub mean_of : List Float → Float
mean_of part = div binary64 (sum_of part) (of_int binary64 (pos (length part)))
