-- Boundaries counted over kept frames alone, as the Rust counts shares: a gap that starts before a boundary moves it on by the frames that it drops.
use Rattle.std.specs.Prelude.{◌≡◌, Bool, ◌&&◌, cond, List, [], ◌∷◌, ℕ, ◌+◌, ◌-◌, ◌*◌, ◌≤◌, leb, ltb, drop}
use Rattle.plan_settings.specs.declared.config.Gap.{Gap}
use Rattle.candidate_span.specs.declared.padding.Padding.{Padding}
use Rattle.candidate_span.specs.Bounds.{low_of}
use Rattle.candidate_span.specs.Listed.{silence_count}
use Rattle.candidate_span.specs.Gaps.{Cut, is_gap, gaps_of, dropped}
use Rattle.completion.specs.declared.shares.Passed.{Passed}

-- boundary k, moved on by the gaps
unfoldable pub moved_on : List Cut → ℕ → ℕ
moved_on [] k = k
moved_on (g ∷ gs) k = cond (ltb g.left k) (moved_on gs (k + (g.right - g.left))) k

-- a silence has a gap, which starts at boundary k or after it
unfoldable pub is_ahead : Padding → ℕ → ℕ → ℕ → Bool
is_ahead p start end k = is_gap p start end && leb k (low_of p start)

-- ---- the gaps that are passed on the way, share by share

-- the gaps of the silences that are passed drop `removed` frames, and every boundary from `at` on is moved on by them
pub record Counting (gap : Gap) (p : Padding) (ss : List ℕ) (at : ℕ) (passed : Passed) : Type 0 where
  pub within : passed.silences ≤ silence_count ss
  pub balance : passed.removed + dropped (gaps_of gap p (drop (2 * passed.silences) ss)) ≡ dropped (gaps_of gap p ss)
  pub moved : (k : ℕ) → at ≤ k → moved_on (gaps_of gap p ss) k ≡ moved_on (gaps_of gap p (drop (2 * passed.silences) ss)) (k + passed.removed)

-- boundary `at` is moved on by the frames that the passed gaps drop
pub record Counted (gap : Gap) (p : Padding) (ss : List ℕ) (at : ℕ) (passed : Passed) : Type 0 where
  pub counting : Counting gap p ss at passed
  pub here : moved_on (gaps_of gap p ss) at ≡ at + passed.removed
