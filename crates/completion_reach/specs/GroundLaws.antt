-- What is known of a recording's span that is not empty, where code divides it.
use Rattle.std.specs.Prelude.{◌≡◌, List, ℕ, min}
use Rattle.std.proofs.Common.{ap, ◌∙◌}
use Rattle.grid.specs.BoundaryLaws.{Accepted}
use Rattle.candidate_span.specs.ListedLaws.{Listed}
use Rattle.candidate_span.specs.Gaps.{gaps_of, Spread}
use Rattle.candidate_span.specs.Span.{Span}
use Rattle.division.specs.Division.{kept_in, pieces_asked}
use Rattle.completion_reach.specs.declared.ground.Ground.{Ground}

-- the grid is that of an accepted recording, ss lists its silences, and the gaps lie strictly inside the span and apart
pub record Founded (x : Ground) (ss : List ℕ) : Type 0 where
  pub accepted : Accepted x.grid
  pub listed : Listed x.padding.frames ss
  pub spread : Spread x.span.first (gaps_of x.gap x.padding ss) x.span.last

-- how many pieces are asked for, from how many frames are kept
pub asked_pieces : (s : Span) (count frames pieces : ℕ) → frames ≡ kept_in s → pieces ≡ min count frames → pieces ≡ pieces_asked s count
asked_pieces s count frames pieces e h = h ∙ ap (min count) e
