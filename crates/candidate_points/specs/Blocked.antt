-- Which boundaries silences block, as the Rust's `blocked` has them: a grid point stands neither in a silence nor at its edges, but inside the padded bounds of a long silence that is kept.
-- `is_blocked` and `blocked_of` are what contracts and theorems cite. ss is the list of silences.
use Rattle.std.specs.Prelude.{ℕ, zero, suc, ◌+◌, ◌-◌, Bool, false, not, ◌&&◌, ◌||◌, cond, List, ltb, leb}
use Rattle.base_terms.specs.Lists.{tabulate}
use Rattle.grid.specs.Boundary.{boundary_of}
use Rattle.grid.specs.declared.boundary.FrameGrid.{FrameGrid}
use Rattle.silence_runs.specs.Runs.{put_run}
use Rattle.plan_settings.specs.declared.config.Gap.{Gap}
use Rattle.plan_settings.specs.declared.config.Gap.TheVariants.{Keep, Drop}
use Rattle.candidate_span.specs.Listed.{silence_count, start_at, end_at}
use Rattle.candidate_span.specs.Bounds.{low_of, high_of}
use Rattle.candidate_span.specs.declared.spacing.Spacing.{Spacing}
use Rattle.candidate_points.specs.Flags.{flag_of}

-- the Rust's `gets_grid`: silence is kept, and this one is longer, in samples, than the edge limit
unfoldable pub gets_grid : Gap → FrameGrid → ℕ → ℕ → ℕ → Bool
gets_grid Keep g limit start end = ltb limit (boundary_of g end - boundary_of g start)
gets_grid Drop g limit start end = false

-- boundary k is in a silence, its edges included
unfoldable pub touches : ℕ → ℕ → ℕ → Bool
touches start end k = leb start k && leb k end

-- boundary k is open to grid points though it is in a silence: the silence gets them, and k is inside its padded bounds
unfoldable pub opens : Gap → FrameGrid → Spacing → ℕ → ℕ → ℕ → Bool
opens gap g s start end k =
    gets_grid gap g s.edge_limit start end && touches (low_of s.padding start) (high_of s.padding end) k

-- a silence blocks boundary k
unfoldable pub blocks_at : Gap → FrameGrid → Spacing → ℕ → ℕ → ℕ → Bool
blocks_at gap g s start end k = touches start end k && not (opens gap g s start end k)

-- one of the first i silences blocks boundary k
unfoldable pub blocked_by : Gap → FrameGrid → Spacing → List ℕ → ℕ → ℕ → Bool
blocked_by gap g s ss zero k = false
blocked_by gap g s ss (suc i) k = blocked_by gap g s ss i k || blocks_at gap g s (start_at ss i) (end_at ss i) k

-- some silence blocks boundary k
unfoldable pub is_blocked : Gap → FrameGrid → Spacing → List ℕ → ℕ → Bool
is_blocked gap g s ss k = blocked_by gap g s ss (silence_count ss) k

-- ---- as flags

-- boundary k's flag, by the first i silences
unfoldable pub flag_by : Gap → FrameGrid → Spacing → List ℕ → ℕ → ℕ → ℕ
flag_by gap g s ss i k = flag_of (blocked_by gap g s ss i k)

-- the flags of all boundaries, by the first i silences
unfoldable pub flags_by : Gap → FrameGrid → Spacing → List ℕ → ℕ → List ℕ
flags_by gap g s ss i = tabulate (flag_by gap g s ss i) (suc g.frames)

-- the flags of all boundaries, by all silences
unfoldable pub blocked_of : Gap → FrameGrid → Spacing → List ℕ → List ℕ
blocked_of gap g s ss = flags_by gap g s ss (silence_count ss)

-- one step of it, in place: the flags of a silence become 1, and those inside its padded bounds 0 where it gets grid points
unfoldable pub shut_by : Gap → FrameGrid → Spacing → ℕ → ℕ → List ℕ → List ℕ
shut_by gap g s start end xs =
    let lo = low_of s.padding start in
    let hi = high_of s.padding end in
    let shut = put_run start (end + 1) 1 xs in
    cond (leb lo hi && gets_grid gap g s.edge_limit start end) (put_run lo (hi + 1) 0 shut) shut
