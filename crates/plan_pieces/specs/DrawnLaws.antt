-- Candidates in order, and a path whose pieces all rise: so each piece ends where it starts or after.
use Rattle.std.specs.Prelude.{List, [], ◌∷◌, ℕ, zero, suc, ◌≤◌, ◌<◌, length, get_or}
use Rattle.std.proofs.Common.{arith}
use Rattle.base_terms.specs.Limits.{max_len}
use Rattle.path_pieces.specs.Domain.{Candidates}
use Rattle.path_pieces.specs.DomainLaws.{ends_rise, left_bounded}
use Rattle.path_rules.specs.Paths.{Onward, Path, last_candidate}
use Rattle.plan_pieces.specs.Drawn.{Drawn}

module _ {left right : List ℕ} (ok : Candidates left right) where
  one_drawn : (i : ℕ) → i < length left → Drawn left right (i ∷ [])
  one_drawn i h = record { paired = ok.paired; named = named; rises = λ k e. absurd (omega (arith, e)); bounded = bounded }
    where
      named : (k : ℕ) → k < 1 → get_or (i ∷ []) k 0 < length left
      named zero e = h
      named (suc k) e = absurd (omega arith)

      bounded : (k : ℕ) → k < 1 → get_or left (get_or (i ∷ []) k 0) 0 ≤ max_len
      bounded zero e = left_bounded ok i h
      bounded (suc k) e = absurd (omega arith)

  more_drawn : (i j : ℕ) (rest : List ℕ) → i < j → Drawn left right (j ∷ rest) → Drawn left right (i ∷ (j ∷ rest))
  more_drawn i j rest l d = record { paired = ok.paired; named = named; rises = rises; bounded = bounded }
    where
      next : j < length left
      next = d.named 0 (omega arith)

      named : (k : ℕ) → k < length (i ∷ (j ∷ rest)) → get_or (i ∷ (j ∷ rest)) k 0 < length left
      named zero e = omega (arith, l, next)
      named (suc k) e = d.named k (omega arith)

      rises : (k : ℕ) → suc k < length (i ∷ (j ∷ rest)) → get_or right (get_or (i ∷ (j ∷ rest)) k 0) 0 ≤ get_or left (get_or (j ∷ rest) k 0) 0
      rises zero e = ends_rise ok i j l next
      rises (suc k) e = d.rises k (omega arith)

      bounded : (k : ℕ) → k < length (i ∷ (j ∷ rest)) → get_or left (get_or (i ∷ (j ∷ rest)) k 0) 0 ≤ max_len
      bounded zero e = left_bounded ok i (omega (arith, l, next))
      bounded (suc k) e = d.bounded k (omega arith)

  -- a path to the last candidate, by any rule under which pieces rise
  pub path_drawn : (rule : ℕ → ℕ → Type 0) → ((i j : ℕ) → rule i j → i < j) → (path : List ℕ) → Path rule path (last_candidate left) → Drawn left right path
  path_drawn rule rising [] p = absurd p
  path_drawn rule rising (i ∷ rest) (e, o) = go i rest o
    where
      go : (i : ℕ) (rest : List ℕ) → Onward rule i rest (last_candidate left) → Drawn left right (i ∷ rest)
      go i [] e = one_drawn i (omega (arith, e, ok.some))
      go i (j ∷ rest) (p, o) = more_drawn i j rest (rising i j p) (go j rest o)
