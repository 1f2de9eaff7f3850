-- What goes as far as it can at each step is nowhere behind any other division that keeps the limit, and takes the fewest pieces.
use Rattle.std.specs.Prelude.{refl, ℕ, ◌≤◌, length}
use Rattle.std.proofs.Common.{arith}
use mathlib.Core.List.{List, [], ◌∷◌, Memᴰ}
use Rattle.grid.specs.BoundaryLaws.{Accepted, boundary_mono}
use Rattle.grid.specs.declared.boundary.FrameGrid.{FrameGrid}
use Rattle.candidate_span.specs.Gaps.{Cut, Spread}
use Rattle.candidate_span.specs.Span.{Span}
use Rattle.division.specs.Division.{Place, Division}
use Rattle.division.specs.Pieces.{pieces_from, pieces_of, longest}
use Rattle.division.specs.Greedy.{GreedyFrom, Greedy, NowhereBehind}
use Rattle.division.specs.GreedyLaws.{behind_fewer, MayBegin, start_first, start_right, keeps-ahead}

module _ (g : FrameGrid) (ok : Accepted g) (s : Span) (spread : Spread s.first s.gaps s.last) where
  ahead-from : (limit a b : ℕ) (js ks : List Cut) → b ≤ a → MayBegin s a → GreedyFrom g s limit a js → ((k : Cut) → Memᴰ k ks → Place s k)
      → longest g (pieces_from b ks s.last) ≤ limit → NowhereBehind js ks
  ahead-from limit a b [] ks h start far placed short = tt
  ahead-from limit a b (j ∷ js) [] h start far placed short = absurd (omega (arith, far.0, short, boundary_mono g ok b a h))
  ahead-from limit a b (j ∷ js) (k ∷ ks) h start far placed short =
      let o = keeps-ahead g ok s spread limit a b j k h start far.1 (placed k (Memᴰ.head refl)) (omega (arith, short)) in
      (o.0, o.1, ahead-from limit j.right k.right js ks o.1 (start_right g ok s spread j far.1.place) far.2 (λ i m. placed i (Memᴰ.tail m)) (omega (arith, short)))

  -- the greedy division is nowhere behind any other that keeps the limit
  pub greedy_ahead : (limit : ℕ) (js ks : List Cut) → Greedy g s limit js → Division s ks → longest g (pieces_of s ks) ≤ limit → NowhereBehind js ks
  greedy_ahead limit js ks far d short = ahead-from limit s.first s.first js ks (omega arith) (start_first g ok s spread) far d.placed short

  -- so it has no more pieces
  pub greedy_fewest : (limit : ℕ) (js ks : List Cut) → Greedy g s limit js → Division s ks → longest g (pieces_of s ks) ≤ limit
      → length (pieces_of s js) ≤ length (pieces_of s ks)
  greedy_fewest limit js ks far d short = behind_fewer s js ks (greedy_ahead limit js ks far d short)
