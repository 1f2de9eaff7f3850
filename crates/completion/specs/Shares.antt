-- The cuts between equal shares, as code finds them: what it asks, and what it answers.
use Rattle.std.specs.Prelude.{◌≡◌, List, ℕ, ◌+◌, ◌≤◌}
use Rattle.grid.specs.Limits.{max_frames}
use Rattle.candidate_span.specs.ListedLaws.{Listed}
use Rattle.candidate_span.specs.Gaps.{gaps_of, dropped}
use Rattle.candidate_span.specs.Span.{span_in}
use Rattle.division.specs.Division.{kept_in}
use Rattle.completion_reach.specs.declared.ground.Ground.{Ground}
use Rattle.completion.specs.declared.shares.Passed.{Passed}
use Rattle.completion.specs.declared.shares.Share.{Share}
use Rattle.completion_reach.specs.Place.{place_at, held_cut}
use Rattle.completion.specs.Counted.{moved_on, Counting}

-- the gaps that are passed on the way to boundary `at`, counted over kept frames alone, and room for all of them
pub record Partable (x : Ground) (ss : List ℕ) (at : ℕ) (passed : Passed) : Type 0 where
  pub listed : Listed x.padding.frames ss
  pub counting : Counting x.gap x.padding ss at passed
  pub room : at + dropped (gaps_of x.gap x.padding ss) ≤ max_frames

-- the cut at that boundary, and the gaps that are passed before it
pub record Parted (x : Ground) (ss : List ℕ) (at : ℕ) (r : Share) : Type 0 where
  pub cut_is : r.cut ≡ held_cut (place_at (gaps_of x.gap x.padding ss) (moved_on (gaps_of x.gap x.padding ss) at))
  pub counting : Counting x.gap x.padding ss at r.passed

-- `frames` are kept, no fewer than the pieces, and the span lies within the most frames
pub record Sharable (x : Ground) (frames pieces : ℕ) (ss : List ℕ) : Type 0 where
  pub kept : frames ≡ kept_in (span_in x.gap x.padding x.span ss)
  pub fit : pieces ≤ frames
  pub few : x.span.last ≤ max_frames
