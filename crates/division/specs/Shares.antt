-- Document 01's "min(N, kept frames) equal shares of the kept frames". Between share i and the next stands the place with i × kept frames / shares of them before it, rounded down.
use Rattle.std.specs.Prelude.{List, [], ◌∷◌, ℕ, zero, suc, ◌-◌, ◌*◌, ◌/◌, get_or}
use Rattle.candidate_span.specs.Gaps.{Cut}
use Rattle.candidate_span.specs.Span.{Span}
use Rattle.division.specs.Division.{kept_in}
use Rattle.division.specs.Places.{cut_at, places_of}

-- how many of the frames lie before the cut after share i
abbrev pub frames_before : ℕ → ℕ → ℕ → ℕ
frames_before frames shares i = i * frames / shares

-- the place with j kept frames before it, from 1 on: all places in order are a kept frame apart (`places_single` of PlacesLaws)
abbrev pub place_after : Span → ℕ → Cut
place_after s j = get_or (places_of s) (j - 1) (cut_at 0)

-- n cuts, the first after share i
abbrev pub shares_from : Span → ℕ → ℕ → ℕ → List Cut
shares_from s shares i zero = []
shares_from s shares i (suc n) = place_after s (frames_before (kept_in s) shares i) ∷ shares_from s shares (suc i) n

-- the cuts between equal shares
abbrev pub shares_of : Span → ℕ → List Cut
shares_of s shares = shares_from s shares 1 (shares - 1)
