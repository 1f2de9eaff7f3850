-- The search may be asked over a plan's candidates once their positions are written: what it reads are the candidates' ends in samples and their costs.
use Rattle.std.specs.Prelude.{◌≡◌, refl, List, ℕ, Float, length}
use Rattle.std.proofs.Common.{sym, subst, arith}
use Rattle.std.proofs.lemmas.List.{length-map}
use Rattle.grid.specs.declared.boundary.FrameGrid.{FrameGrid}
use Rattle.grid.specs.Boundary.{Bounded}
use Rattle.path_pieces.specs.declared.lengths.Lengths.{Lengths}
use Rattle.path_pieces.specs.Domain.{Candidates, Costs, Preferred, Searchable}
use Rattle.candidates.specs.declared.candidate.Candidate.{Candidate}
use Rattle.candidates.specs.Entries.{costs_of}
use Rattle.candidates.specs.Samples.{left_sample, lefts_of, rights_of}
use Rattle.plan_lists.specs.Positions.{positions_in, PositionsRoom}
use Rattle.plan_lists.specs.PositionsLaws.{positions_left, positions_right, positions_long}
use Rattle.plan_path.specs.Asked.{CandidatesHeld}
use Rattle.plan_path.specs.Search.{lefts_in, rights_in, SearchRoom}

module _ (g : FrameGrid) (cs : List Candidate) (work positions : List ℕ) (costs : List Float) (held : CandidatesHeld g cs work positions costs) where
  -- the positions may be written
  pub held-room : PositionsRoom g.frames (length cs) work positions
  held-room = record {
    few = held.few;
    entries = omega (arith, held.few, held.u32s);
    room = omega (arith, held.few, held.u64s);
  }

  abbrev written : List ℕ
  written = positions_in g (length cs) work positions

  -- then they are the candidates' ends
  pub held_left : lefts_in (length cs) written ≡ lefts_of g cs
  held_left = positions_left g cs (length cs) work positions refl held.entries held-room

  -- on the right too
  pub held_right : rights_in g.frames (length cs) written ≡ rights_of g cs
  held_right = positions_right g cs (length cs) work positions refl held.entries held-room

  -- and the search may be asked, where the candidates and the length preferences are of its domain
  pub held_asked : {l : Lengths} → Bounded g → Candidates (lefts_of g cs) (rights_of g cs) → Costs (costs_of cs) (length cs) → Preferred l
      → SearchRoom l g.frames (length cs) work written costs
  held_asked {l} bounded ordered each preferred = record {
    domain = rw (held_left, held_right, held.priced) asked;
    bounded = omega (arith, bounded.frames);
    few = held.few;
    u32s = held.u32s;
    u64s = rw (positions_long g cs (length cs) work positions refl held.entries held-room) held.u64s;
    f64s = held.f64s;
  }
    where
      asked : Searchable l (lefts_of g cs) (rights_of g cs) (costs_of cs)
      asked = record {
        candidates = ordered;
        costs = subst (Costs (costs_of cs)) (sym (length-map cs (left_sample g))) each;
        preferred = preferred;
      }
