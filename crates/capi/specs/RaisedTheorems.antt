-- Document 02's S-12 of `buchawzer_path`: two calls with the same candidates, costs, minimum, target, weights, mode and count, and another limit.
--   called-raised         with a longer limit, where both numbers are 0, over and cost after are at most those before, over first and then cost
--   called-again-exactly  where the first number is 0, when the second is; called-again   with lists no shorter
use Rattle.std.specs.Prelude.{◌≡◌, ◌↔◌, Bool, List, ℕ, ◌≤◌, T, Float}
use Rattle.base_terms.specs.Limits.{max_len}
use Rattle.base_terms.specs.Scores.{score_le}
use Rattle.base_terms.specs.Work.{Work}
use Rattle.path_list.specs.Operation.{End, path_of}
use Rattle.path_list.specs.Gives.{Gives, Enough}
use Rattle.path_list.specs.Raised.{NoShorter}
use Rattle.path_list.specs.RaisedTheorems.{raised, gives_exactly, gives_again}
use Rattle.kinds.specs.Flagged.{mode_of}
use Rattle.capi.specs.Paths.{PathCalled, lengths_of, path_called_of}
use Rattle.capi.specs.PathsTheorems.{called_zero, solved_is}

module _ (min target targetWeight shortWeight : Float) (left right : List ℕ) (cost : List Float) (by_count : Bool) (count : ℕ) where
  -- the operation with a limit
  abbrev operation : ℕ → List ℕ → Work → List ℕ → End
  operation limit path work parent = path_of (lengths_of min target limit targetWeight shortWeight) left right cost (mode_of by_count count) path work parent

  module _ (before after : ℕ) (path path' : List ℕ) (work work' : Work) (parent parent' : List ℕ)
      (length length' over over' : ℕ) (score score' : Float) where
    -- the call with the limit `before`
    abbrev first : PathCalled
    first = path_called_of (operation before path work parent) length over score

    -- the call with the limit `after`
    abbrev second : PathCalled
    second = path_called_of (operation after path' work' parent') length' over' score'

    -- no worse, over-long pieces first and then cost
    pub called_raised : before ≤ after → first.number ≡ 0 → second.number ≡ 0 → T (score_le second.over second.cost first.over first.cost)
    called_raised up z z' =
        let (s, e) = (called_zero (operation before path work parent) length over score).0 z in
        let (t, f) = (called_zero (operation after path' work' parent') length' over' score').0 z' in
        rw (solved_is (operation before path work parent) length over score s e, solved_is (operation after path' work' parent') length' over' score' t f) at
        (raised (lengths_of min target before targetWeight shortWeight) before after up left right cost path path' work work' parent parent' (mode_of by_count count) s t e f)

    module _ (given : first.number ≡ 0) where
      -- the first call gives a path
      gives : Gives (operation before path work parent).answer
      gives = (called_zero (operation before path work parent) length over score).0 given

      -- so the second does exactly where its limit and its own lists are enough
      pub called_again_exactly : (second.number ≡ 0) ↔ Enough (lengths_of min target after targetWeight shortWeight) left right cost (mode_of by_count count) path' work' parent'
      called_again_exactly =
          let enough = gives_exactly (lengths_of min target before targetWeight shortWeight) before after left right cost (mode_of by_count count) path path' work work' parent parent' gives in
          let zero = called_zero (operation after path' work' parent') length' over' score' in
          (λ z. enough.0 (zero.0 z), λ e. zero.1 (enough.1 e))

      -- and with lists no shorter exactly where its limit is at most 2 ^ 40
      pub called_again : NoShorter left (mode_of by_count count) path path' work work' parent parent' → (second.number ≡ 0) ↔ (after ≤ max_len)
      called_again same =
          let again = gives_again (lengths_of min target before targetWeight shortWeight) before after left right cost (mode_of by_count count) path path' work work' parent parent' gives same in
          let zero = called_zero (operation after path' work' parent') length' over' score' in
          (λ z. again.0 (zero.0 z), λ h. zero.1 (again.1 h))
