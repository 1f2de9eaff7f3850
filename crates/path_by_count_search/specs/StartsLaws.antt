-- What the starts of a piece give: each can be read, and the score through each is not negative.
use Rattle.std.specs.Prelude.{◌≡◌, cond, ℕ, ◌+◌, ◌-◌, ◌<◌, List, T, Float, get_or, Some}
use Rattle.std.proofs.Common.{sym, ap, subst, ◌∙◌, arith}
use Rattle.base_terms.specs.Floats.{nonneg}
use Rattle.path_pieces.specs.Pieces.{less_than, score_at}
use Rattle.path_pieces.specs.DomainLaws.{piece_nonneg}
use Rattle.path_pieces.specs.Least.{entry}
use Rattle.path_pieces.specs.LeastLaws.{least_only}
use Rattle.path_pieces.specs.declared.lengths.Lengths.{Lengths}
use Rattle.path_pieces.specs.declared.score.Score.{Score}
use Rattle.path_pieces.specs.declared.best.Best.{Best}
use Rattle.path_by_count_tree.specs.Least.{every, least_in, IsLeast}
use Rattle.path_by_count_tree.specs.LeastLaws.{least_one, least_more}
use Rattle.path_by_count_search.specs.Starts.{arrival_at, lengths_held, Starts, Start}

module _ {l : Lengths} {right over : List ℕ} {cost : List Float} {base to end : ℕ} (s : Starts l right over cost base to end) where
  -- one start
  pub start_at_lem : (i : ℕ) → i < to → Start right over cost (base + i) i end
  start_at_lem i h = search (arith, s.behind i h, s.few i h)

  -- the score through it is not negative
  pub arrival-nonneg : (i : ℕ) → i < to → T (nonneg (arrival_at l right over cost base end i).cost)
  arrival-nonneg i h =
      piece_nonneg s.preferred (score_at over cost (base + i)) (end - get_or right i 0) (omega (arith, s.bounded)) (s.fine i h)

  -- they are starts by the preferences that a search holds too
  pub starts_held : Starts (lengths_held l) right over cost base to end
  starts_held = search

  -- ---- the plain search from `from` on, score by score

  -- the first one alone
  pub scan_first : (from : ℕ) (s₁ : Score) → from < to → s₁ ≡ arrival_at l right over cost base end from
      → IsLeast (arrival_at l right over cost base end) from (from + 1) (record { score = s₁; at = from })
  scan_first from s₁ h e =
      subst (λ (x : Score). IsLeast (arrival_at l right over cost base end) from (from + 1) (record { score = x; at = from })) (sym e)
      (least_one (arrival_at l right over cost base end) from (arrival-nonneg from h))

  -- one more
  pub scan_next : (from i : ℕ) (s₁ : Score) (b r : Best) → i < to → s₁ ≡ arrival_at l right over cost base end i
      → r ≡ cond (less_than s₁ b.score) (record { score = s₁; at = i }) b
      → IsLeast (arrival_at l right over cost base end) from i b → IsLeast (arrival_at l right over cost base end) from (i + 1) r
  scan_next from i s₁ b r h e f x =
      let score = arrival_at l right over cost base end in
      let g : r ≡ cond (less_than (score i) b.score) (entry score i) b =
      f ∙ ap (λ (y : Score). cond (less_than y b.score) (record { score = y; at = i }) b) e in
      subst (λ (y : Best). IsLeast score from (i + 1) y) (sym g) (least_more score from i b (λ k m. arrival-nonneg k (omega arith)) x)

  -- all
  pub scan_done : (from i : ℕ) (b : Best) → from < to → i ≡ to → IsLeast (arrival_at l right over cost base end) from i b
      → Some b ≡ least_in (arrival_at l right over cost base end) from to
  scan_done from i b h e x = least_only every (arrival_at l right over cost base end) from to b (λ k m t. arrival-nonneg k m) (rw e at x)
