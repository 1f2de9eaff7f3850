-- The cuts of the division that goes as far as it can at each step, step by step, and the marks of cuts in work memory.
use Rattle.std.specs.Prelude.{cond, List, [], ◌∷◌, ℕ, zero, suc, ◌+◌, eqb, set}
use Rattle.grid.specs.declared.boundary.FrameGrid.{FrameGrid}
use Rattle.candidate_span.specs.Gaps.{Cut}
use Rattle.candidate_span.specs.Span.{Span}
use Rattle.completion_reach.specs.declared.next.Next.{Next}
use Rattle.completion_reach.specs.declared.next.Next.TheVariants.{Whole, Stuck, To}
use Rattle.completion_reach.specs.Next.{next_cut_of}
use Rattle.completion_reach.specs.Place.{cut_held}

-- the cut that a step makes, and those that follow from the boundary that it leads to
abbrev pub cutting : Next → (ℕ → List Cut) → List Cut
cutting Whole f = []
cutting Stuck f = []
cutting (To c) f = cut_held c ∷ f c.right

-- the cuts from boundary a on, of n pieces at most
unfoldable pub greedy_cuts_from : FrameGrid → Span → ℕ → ℕ → ℕ → List Cut
greedy_cuts_from g s limit zero a = []
greedy_cuts_from g s limit (suc n) a = cutting (next_cut_of g s limit a) (greedy_cuts_from g s limit n)

-- document 01's "cuts of the division that goes as far as it can at each step", of n pieces at most
abbrev pub cuts_of : FrameGrid → Span → ℕ → ℕ → List Cut
cuts_of g s limit n = greedy_cuts_from g s limit n s.first

-- a mark for a cut at a boundary; a gap has none, since it is a candidate already
abbrev pub mark_cut : ℕ → Cut → List ℕ → List ℕ
mark_cut base k work = cond (eqb k.left k.right) (set work (base + k.left) 1) work

-- work memory with the marks of cuts, that of boundary k at base + k
unfoldable pub marking : ℕ → List Cut → List ℕ → List ℕ
marking base [] work = work
marking base (k ∷ ks) work = marking base ks (mark_cut base k work)

-- the boundaries of those cuts that are at one
unfoldable pub points_in : List Cut → List ℕ
points_in [] = []
points_in (k ∷ ks) = cond (eqb k.left k.right) (k.left ∷ points_in ks) (points_in ks)
