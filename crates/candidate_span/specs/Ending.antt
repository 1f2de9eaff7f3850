-- Which silence of a lent list a search by its end finds.
use Rattle.std.specs.Prelude.{ℕ, ◌≤◌, ◌<◌, List}
use Rattle.candidate_span.specs.Listed.{silence_count, end_at}

-- the silences end one after another
pub record EndsRise (ss : List ℕ) : Type 0 where
  pub rise : (i j : ℕ) → i < j → j < silence_count ss → end_at ss i < end_at ss j

-- silence i is the first that does not end before boundary k
pub record FirstEnding (ss : List ℕ) (k i : ℕ) : Type 0 where
  pub within : i ≤ silence_count ss
  pub before : (j : ℕ) → j < i → end_at ss j < k
  pub from : (j : ℕ) → i ≤ j → j < silence_count ss → k ≤ end_at ss j
