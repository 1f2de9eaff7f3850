-- What a path over a plan's candidates is asked with: a grid for the recording's frames, levels and stretches that give costs, and length preferences.
use Rattle.std.specs.Prelude.{List, ℕ, Float}
use Rattle.grid.specs.declared.boundary.FrameGrid.{FrameGrid}
use Rattle.path_pieces.specs.Domain.{Preferred, Searchable}
use Rattle.path_pieces.specs.declared.lengths.Lengths.{Lengths}
use Rattle.candidates.specs.declared.candidate.Candidate.{Candidate}
use Rattle.candidates.specs.declared.context.Context.{Context}
use Rattle.candidates.specs.Samples.{lefts_of, rights_of}
use Rattle.candidates.specs.Asked.{Sampled}
use Rattle.candidates.specs.Costs.{Costable}
use Rattle.candidates.specs.Entries.{costs_of}

-- what a path over a plan's candidates is asked with, all of it
pub record Ready (x : Context) (g : FrameGrid) (runs : List ℕ) (levels : List Float) (l : Lengths) : Type 0 where
  pub sampled : Sampled x g
  pub costed : Costable x g runs levels
  pub preferred : Preferred l

-- candidates are of the search's domain
abbrev pub SearchableOver : FrameGrid → Lengths → List Candidate → Type 0
SearchableOver g l cs = Searchable l (lefts_of g cs) (rights_of g cs) (costs_of cs)
