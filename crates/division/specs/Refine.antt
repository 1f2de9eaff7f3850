-- A division with more cuts: every cut that the one has, and some that the other has.
use Rattle.std.specs.Prelude.{◌≡◌, List, ℕ, length}
use Rattle.candidate_span.specs.Gaps.{Cut}
use Rattle.candidate_span.specs.Span.{Span}
use Rattle.division.specs.Division.{Division, Among}
use Rattle.division.specs.Pieces.{pieces_of}

-- a division into n pieces, cut wherever `few` are and only where `many` are
pub record Refined (s : Span) (few many : List Cut) (n : ℕ) : Type 0 where
  pub cuts : List Cut
  pub divides : Division s cuts
  pub number : length (pieces_of s cuts) ≡ n
  pub over : Among few cuts
  pub under : Among cuts many
