-- Document 01's silences: "for each silence its first frame and the frame after its last", side by side in one list.
-- `silences_of` is what contracts cite; its laws are in SilencesLaws.
use Rattle.std.specs.Prelude.{ℕ, ◌+◌, ◌*◌, cond, List, [], ◌∷◌, eqb, get_or}
use Rattle.silence_runs.specs.Runs.{Run, runs}

-- the silent ones of some runs, of which the first starts at frame k
unfoldable pub silent_runs : ℕ → List Run → List ℕ
silent_runs k [] = []
silent_runs k (r ∷ rs) = cond (eqb r.flag 0) (k ∷ ((k + r.frames) ∷ silent_runs (k + r.frames) rs)) (silent_runs (k + r.frames) rs)

-- the maximal silent runs: first frame, frame after the last, and so on
unfoldable pub silences_of : List ℕ → List ℕ
silences_of xs = silent_runs 0 (runs xs)

-- ---- a list of silences by number

-- the first frame of silence i
abbrev pub start_at : List ℕ → ℕ → ℕ
start_at ss i = get_or ss (2 * i) 0

-- the frame after its last
abbrev pub end_at : List ℕ → ℕ → ℕ
end_at ss i = get_or ss (2 * i + 1) 0
