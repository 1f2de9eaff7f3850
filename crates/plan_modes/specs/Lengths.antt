-- What the search is asked with, by length and by count.
use Rattle.std.specs.Prelude.{◌≡◌, ℕ, ◌<◌}
use Rattle.grid.specs.declared.boundary.FrameGrid.{FrameGrid}
use Rattle.path_pieces.specs.Domain.{Preferred}
use Rattle.path_pieces.specs.declared.mode.Mode.TheVariants.{ByCount}
use Rattle.plan_settings.specs.declared.config.PlanConfig.{PlanConfig}
use Rattle.plan_lengths.specs.PlanLengths.{Timed, InPieces, lengths_by_length, lengths_by_count}

-- by length
pub record AskedByLength (g : FrameGrid) (settings : PlanConfig) : Type 0 where
  pub timed : Timed g settings
  pub preferred : Preferred (lengths_by_length g settings)

-- by count, for so many pieces of the span from boundary `first` to boundary `last`
pub record AskedByCount (g : FrameGrid) (settings : PlanConfig) (first last count : ℕ) : Type 0 where
  pub timed : Timed g settings
  pub pieces : InPieces g first last count
  pub some : 0 < count
  pub preferred : (limit : ℕ) → Preferred (lengths_by_count g settings first last count limit)

-- by whichever mode
pub record AskedFor (g : FrameGrid) (settings : PlanConfig) (first last : ℕ) : Type 0 where
  pub by_length : AskedByLength g settings
  pub by_count : (count : ℕ) → settings.mode ≡ ByCount count → AskedByCount g settings first last count
