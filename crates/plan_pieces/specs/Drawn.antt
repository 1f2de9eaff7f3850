-- What a path must be, so that its pieces and cuts can be written.
use Rattle.std.specs.Prelude.{◌≡◌, List, ℕ, suc, ◌≤◌, ◌<◌, length, get_or}
use Rattle.base_terms.specs.Limits.{max_len}

-- a path over candidates in samples: it names candidates that there are, and each piece ends where it starts or after
pub record Drawn (left right path : List ℕ) : Type 0 where
  pub paired : length right ≡ length left
  pub named : (i : ℕ) → i < length path → get_or path i 0 < length left
  pub rises : (i : ℕ) → suc i < length path → get_or right (get_or path i 0) 0 ≤ get_or left (get_or path (suc i) 0) 0
  pub bounded : (i : ℕ) → i < length path → get_or left (get_or path i 0) 0 ≤ max_len
