-- Document 01's "kept frames" and "kept frame boundaries". They follow from the span and the dropped gaps, before any path is sought.
-- `kept_frames` and `kept_boundaries` are what contracts and theorems cite; that they fit together is in KeptLaws.
use Rattle.std.specs.Prelude.{ℕ, zero, suc, ◌-◌, Bool, true, not, ◌&&◌, cond, List, [], ◌∷◌, leb}
use Rattle.candidate_span.specs.Gaps.{Cut, dropped}

-- document 01: "Kept frames are the span's frames less those of dropped gaps"
unfoldable pub kept_frames : ℕ → List Cut → ℕ → ℕ
kept_frames first gaps last = last - first - dropped gaps

-- boundary k lies in no gap, the gap's edges included
unfoldable pub in_none : List Cut → ℕ → Bool
in_none [] k = true
in_none (g ∷ gs) k = not (leb g.left k && leb k g.right) && in_none gs k

-- n boundaries after boundary a
unfoldable pub boundaries : ℕ → ℕ → List ℕ
boundaries a zero = []
boundaries a (suc n) = suc a ∷ boundaries (suc a) n

-- the numbers that pass a test
unfoldable pub passing : (ℕ → Bool) → List ℕ → List ℕ
passing p [] = []
passing p (k ∷ ks) = cond (p k) (k ∷ passing p ks) (passing p ks)

-- document 01: "kept frame boundaries are the frame boundaries strictly inside the span and in no dropped gap, the gap's edges included"
unfoldable pub kept_boundaries : ℕ → List Cut → ℕ → List ℕ
kept_boundaries first gaps last = passing (in_none gaps) (boundaries first (last - suc first))
