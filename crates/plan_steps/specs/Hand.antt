-- The path that work memory holds, and what handing its plan out needs.
use Rattle.std.specs.Prelude.{List, ℕ, ◌≤◌, ◌<◌, length}
use Rattle.base_terms.specs.Layout.{side, path_at, end_u32, end_u64}
use Rattle.grid.specs.Limits.{max_frames}
use Rattle.plan_pieces.specs.Drawn.{Drawn}
use Rattle.plan_lists.specs.Within.{part_at}
use Rattle.plan_path.specs.Search.{lefts_in, rights_in}

-- the path, of so many candidates
abbrev pub path_in : ℕ → ℕ → List ℕ → List ℕ
path_in frames len work = part_at (path_at frames) len work

-- k candidates and a path over them
pub record HandRoom (frames k len : ℕ) (work positions : List ℕ) : Type 0 where
  pub drawn : Drawn (lefts_in k positions) (rights_in frames k positions) (path_in frames len work)
  pub some : 0 < len
  pub short : len ≤ k
  pub few : k ≤ side frames
  pub bounded : frames ≤ max_frames
  pub u32s : end_u32 frames ≤ length work
  pub u64s : end_u64 frames ≤ length positions
