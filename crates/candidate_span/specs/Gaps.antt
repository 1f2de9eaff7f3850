-- Document 01's "dropped gaps": candidates "whose left end is below [their] right end". They follow from the silences and the settings.
-- `gaps_of` is what contracts cite; GapsLaws says where the gaps lie. ss is the list of silences.
use Rattle.std.specs.Prelude.{ℕ, ◌+◌, ◌-◌, ◌<◌, Bool, ◌&&◌, cond, List, [], ◌∷◌, ltb}
use Rattle.plan_settings.specs.declared.config.Gap.{Gap}
use Rattle.plan_settings.specs.declared.config.Gap.TheVariants.{Keep, Drop}
use Rattle.candidate_span.specs.declared.padding.Padding.{Padding}
use Rattle.candidate_span.specs.Bounds.{low_of, high_of, is_inner}

-- a place to cut: one piece ends at its left boundary, the next starts at its right one
pub record Cut : Type 0 where
  pub left : ℕ
  pub right : ℕ

-- a silence with sound on both sides of which more is left than its padding
unfoldable pub is_gap : Padding → ℕ → ℕ → Bool
is_gap p start end = is_inner p.frames start end && ltb (low_of p start) (high_of p end)

-- what is left of it
abbrev pub silence_gap : Padding → ℕ → ℕ → Cut
silence_gap p start end = record { left = low_of p start; right = high_of p end }

-- how many frames a silence's gap drops
unfoldable pub gap_width : Padding → ℕ → ℕ → ℕ
gap_width p start end = cond (is_inner p.frames start end) (high_of p end - low_of p start) 0

-- the gaps of silences, in order
unfoldable pub inner_gaps : Padding → List ℕ → List Cut
inner_gaps p [] = []
inner_gaps p (start ∷ []) = []
inner_gaps p (start ∷ (end ∷ ss)) =
    cond (is_gap p start end) (silence_gap p start end ∷ inner_gaps p ss) (inner_gaps p ss)

-- document 01's "dropped gaps": none where silence is kept
unfoldable pub gaps_of : Gap → Padding → List ℕ → List Cut
gaps_of Keep p ss = []
gaps_of Drop p ss = inner_gaps p ss

-- the frames of gaps
unfoldable pub dropped : List Cut → ℕ
dropped [] = 0
dropped (g ∷ gs) = (g.right - g.left) + dropped gs

-- gaps in rising order, strictly inside the span from a to z, with a frame at least between them
abbrev pub Spread : ℕ → List Cut → ℕ → Type 0
Spread a [] z = a < z
Spread a (g ∷ gs) z = (a < g.left) × (g.left < g.right) × Spread g.right gs z
