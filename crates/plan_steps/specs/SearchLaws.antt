-- The search reads the candidates' positions and costs, whatever list of candidates stands in work memory: so it finds the best path over that list.
use Rattle.std.specs.Prelude.{◌≡◌, List, ℕ, ◌-◌, ◌*◌, ◌≤◌, min, Float, length, take}
use Rattle.std.proofs.Common.{sym, ap, subst, ◌∙◌}
use Rattle.std.proofs.lemmas.List.{length-map}
use Rattle.grid.specs.declared.boundary.FrameGrid.{FrameGrid}
use Rattle.path_pieces.specs.Domain.{Costs}
use Rattle.path_pieces.specs.declared.lengths.Lengths.{Lengths}
use Rattle.path_pieces.specs.declared.score.Score.{Score}
use Rattle.path_rules.specs.Paths.{last_candidate, piece_count}
use Rattle.path_by_length.specs.Table.{best_path, best_score}
use Rattle.path_by_count.specs.Table.{best_path_by_count, best_score_by_count}
use Rattle.path_rules.specs.declared.solved.Solved.{Solved}
use Rattle.candidates.specs.declared.candidate.Candidate.{Candidate}
use Rattle.candidates.specs.Entries.{costs_of}
use Rattle.candidates.specs.Samples.{left_sample, lefts_of, rights_of}
use Rattle.plan_lists.specs.Positions.{positions_in, PositionsRoom}
use Rattle.plan_path.specs.Asked.{CandidatesHeld}
use Rattle.plan_path.specs.AskedLaws.{held-room, held_left, held_right, held_asked}
use Rattle.plan_path.specs.Held.{PathHeld}
use Rattle.plan_path.specs.HeldLaws.{path_read}
use Rattle.base_terms.specs.Layout.{search_at, path_at, scores_at}
use Rattle.plan_path.specs.Search.{lefts_in, rights_in, costs_in, SearchRoom}
use Rattle.plan_steps.specs.Search.{AskedOver, PathOver, SearchedByLength, SearchedByCount}

module _ (g : FrameGrid) (k : ℕ) (l : Lengths) (work positions : List ℕ) (costs : List Float) where
  -- the positions can be written
  pub asked_positions : AskedOver g k l work positions costs → PositionsRoom g.frames k work positions
  asked_positions a = subst (λ (m : ℕ). PositionsRoom g.frames m work positions) (sym a.number) (held-room g a.cs work positions costs a.held)

  module _ (positions' : List ℕ) (written : positions' ≡ positions_in g k work positions) where
    -- and then the search may be asked
    pub asked_room : AskedOver g k l work positions costs → SearchRoom l g.frames k work positions' costs
    asked_room a =
        rw (written, a.number)
        (held_asked g a.cs work positions costs a.held a.bounded a.searchable.candidates
        (subst (Costs (costs_of a.cs)) (length-map a.cs (left_sample g)) a.searchable.costs) a.searchable.preferred)

    module _ (cs : List Candidate) (number : k ≡ length cs) (held : CandidatesHeld g cs work positions costs) where
      lefts_are : lefts_in k positions' ≡ lefts_of g cs
      lefts_are = rw (written, number) (held_left g cs work positions costs held)

      rights_are : rights_in g.frames k positions' ≡ rights_of g cs
      rights_are = rw (written, number) (held_right g cs work positions costs held)

      costs_are : costs_in g.frames k costs ≡ costs_of cs
      costs_are = rw number held.priced

      -- a path that is held
      over-held : (path : List ℕ) (score : Score) (work' : List ℕ) (costs' : List Float) (answer : Solved)
          → PathHeld (search_at g.frames) (path_at g.frames) path score work work' answer
          → take (scores_at g.frames) costs' ≡ take (scores_at g.frames) costs → PathOver g cs path work work' positions' costs costs' answer
      over-held path score work' costs' answer p e = record {
        len = p.count_is;
        path_in_lem = path_read p;
        lefts = subst (λ (m : ℕ). lefts_in m positions' ≡ lefts_of g cs) number lefts_are;
        rights = subst (λ (m : ℕ). rights_in g.frames m positions' ≡ rights_of g cs) number rights_are;
        before = p.before;
        beforef = e;
      }

    -- ---- what it leaves

    module _ (work' : List ℕ) (costs' : List Float) (answer : Solved) (kept : take (scores_at g.frames) costs' ≡ take (scores_at g.frames) costs) where
      -- the best path by length over the candidates that stand there
      pub searched_by_length : PathHeld (search_at g.frames) (path_at g.frames)
          (best_path l (lefts_in k positions') (rights_in g.frames k positions') (costs_in g.frames k costs))
          (best_score l (lefts_in k positions') (rights_in g.frames k positions') (costs_in g.frames k costs) (last_candidate (lefts_in k positions'))) work work' answer
          → SearchedByLength g k l work positions costs work' positions' costs' answer
      searched_by_length p = record {
        over = λ cs number held.
            over-held cs number held _ _ work' costs' answer (rw (lefts_are cs number held, rights_are cs number held, costs_are cs number held) at p) kept;
      }

      -- and by count
      pub searched_by_count : (count : ℕ) → PathHeld (search_at g.frames) (path_at g.frames)
          (best_path_by_count l (lefts_in k positions') (rights_in g.frames k positions') (costs_in g.frames k costs) count)
          (best_score_by_count l (lefts_in k positions') (rights_in g.frames k positions') (costs_in g.frames k costs) count) work work' answer
          → SearchedByCount g k l count work positions costs work' positions' costs' answer
      searched_by_count count p = record {
        over = λ cs number held.
            over-held cs number held _ _ work' costs' answer (rw (lefts_are cs number held, rights_are cs number held, costs_are cs number held) at p) kept;
        overs = λ cs number held.
            ap (λ (t : Score). t.over) (rw (lefts_are cs number held, rights_are cs number held, costs_are cs number held) at p).score_is;
      }

    -- the parent list is long enough for the search
    pub asked_parents : AskedOver g k l work positions costs → (count parents : ℕ) → min count (k - 1) * k ≤ parents
        → piece_count (lefts_in k positions') count * k ≤ parents
    asked_parents a count parents h =
        let e : length (lefts_in k positions') ≡ k = ap length (lefts_are a.cs a.number a.held) ∙ length-map a.cs (left_sample g) ∙ sym a.number in
        rw e h
