-- Laws of the tree while it is filled: the leaves after the row, filled at once.
use Rattle.std.specs.Prelude.{◌≡◌, List, ℕ, suc, ◌+◌, ◌-◌, ◌≤◌, ◌<◌, Float, length, take, drop, replicate}
use Rattle.std.specs.Float.{nan, binary64}
use Rattle.std.specs.Float.Ieee.{of_bits}
use borrow.Rule.Slice.PartMut.{put_mid}
use Rattle.path_pieces.specs.Limits.{max_index}
use Rattle.path_by_count_tree.specs.Fill.{Padded}
use Rattle.path_by_count_tree.specs.PartLaws.{filled_part, filled_before, filled_after}

-- both lists filled from `from` to `to` with what no candidate has
pub padded_by : {over₀ over : List ℕ} {cost₀ cost : List Float} (from to : ℕ) → from ≤ to → to ≤ length over₀ → to ≤ length cost₀
    → over ≡ replicate (length (take (to - from) (drop from over₀))) (suc max_index) → cost ≡ replicate (length (take (to - from) (drop from cost₀))) (of_bits binary64 0)
    → Padded over₀ cost₀ from (put_mid from (to - from) over₀ over) (put_mid from (to - from) cost₀ cost) to
padded_by {over₀} {over} {cost₀} {cost} from to f h g e q = record {
  beyond = λ k a b. rw (filled_part over₀ over from to (suc max_index) 0 f h e k a b, filled_part cost₀ cost from to (of_bits binary64 0) nan f g q k a b);
  before = λ k a. rw (filled_before over₀ over from to (suc max_index) 0 f h e k a, filled_before cost₀ cost from to (of_bits binary64 0) nan f g q k a);
  after = λ k a. rw (filled_after over₀ over from to (suc max_index) 0 f h e k a, filled_after cost₀ cost from to (of_bits binary64 0) nan f g q k a);
}
