-- Candidates in a row, each apart from the next: `InRow` by recursion, which survivors fulfil, and what it says of each by its number.
use mathlib.Core.List.{List, [], ◌∷◌, ◌++◌, Memᴰ}
use Prim.Native.Nat.{ℕ, zero, suc, ◌+◌, ◌-◌, ◌≤◌, ◌<◌}
use Rattle.std.proofs.Common.{arith}
use Rattle.std.specs.Prelude.{length, get_or}
use Rattle.candidate_span.specs.Kept.{boundaries}
use Rattle.candidates.specs.declared.candidate.Candidate.{Candidate}
use Rattle.candidates.specs.Candidates.{with_left, cheapest, survivors, node}
use Rattle.candidates.specs.Members.{Survivor, none, one, survivor_at}

-- candidates strictly between boundaries a and z, each ending before the next starts
abbrev pub InRow : ℕ → List Candidate → ℕ → Type 0
InRow a [] z = a < z
InRow a (c ∷ cs) z = (a < c.left) × (c.left ≤ c.right) × InRow c.right cs z

-- ---- survivors

-- listed candidates that start after boundary a and before boundary z end at or after their start and before z, and before the start of those that start later
pub record Apart (cs : List Candidate) (a z : ℕ) : Type 0 where
  pub inside : (c : Candidate) → Memᴰ c cs → a < c.left → c.left < z → (c.left ≤ c.right) × (c.right < z)
  pub later : (c d : Candidate) → Memᴰ c cs → Memᴰ d cs → a < c.left → c.left < d.left → d.left < z → c.right < d.left

module _ (cs : List Candidate) (first last : ℕ) (p : Apart cs first last) where
  -- every listed candidate with left end above a starts after boundary r
  abbrev Beyond : ℕ → ℕ → Type 0
  Beyond r a = (d : Candidate) → Memᴰ d cs → a < d.left → d.left < last → r < d.left

  row_from : (n a r : ℕ) → first ≤ a → a + n < last → r < last → Beyond r a → InRow r (survivors cs (boundaries a n)) last
  unfolding survivors boundaries
  row_from zero a r f h l b = l
  row_from (suc n) a r f h l b =
      go (cheapest (with_left (suc a) cs)) (survivor_at cs (suc a)) (λ (q : ℕ) (s : q < last) (d : Beyond q (suc a)). row_from n (suc a) q (omega arith) (omega arith) s d)
    where
      go : (ds : List Candidate) → Survivor cs (suc a) ds → ((q : ℕ) → q < last → Beyond q (suc a) → InRow q (survivors cs (boundaries (suc a) n)) last)
          → InRow r (ds ++ survivors cs (boundaries (suc a) n)) last
      go ds (none e s) k = rw e (k r l (λ (d : Candidate) (m : Memᴰ d cs) (i : suc a < d.left) (j : d.left < last). b d m (omega arith) j))
      go ds (one c e m t) k =
          let i = p.inside c m (omega arith) (omega arith) in
          let q : r < c.left = b c m (omega arith) (omega arith) in
          rw e (q, i.0, k c.right i.1 (λ (d : Candidate) (o : Memᴰ d cs) (g : suc a < d.left) (j : d.left < last). p.later c d m o (omega arith) (omega arith) j))

  -- the survivors between two boundaries stand in a row between them
  pub survivors_in_row : first < last → InRow first (survivors cs (boundaries first (last - suc first))) last
  survivors_in_row h = row_from (last - suc first) first first (omega arith) (omega arith) h (λ (d : Candidate) (m : Memᴰ d cs) (i : first < d.left) (j : d.left < last). i)

-- at most one for each boundary
pub survivors_few : (cs : List Candidate) (n a : ℕ) → length (survivors cs (boundaries a n)) ≤ n
unfolding survivors boundaries
survivors_few cs zero a = omega arith
survivors_few cs (suc n) a = go (cheapest (with_left (suc a) cs)) (survivor_at cs (suc a)) (survivors_few cs n (suc a))
  where
    go : (ds : List Candidate) → Survivor cs (suc a) ds → length (survivors cs (boundaries (suc a) n)) ≤ n → length (ds ++ survivors cs (boundaries (suc a) n)) ≤ suc n
    go ds (none e s) h = rw e (omega arith)
    go ds (one c e m t) h = rw e (omega arith)

-- ---- by number

-- a row between boundaries a and z, with the end of the span at z behind it; d stands for what is beyond
module _ (z : ℕ) (d : Candidate) where
  row_first : (a : ℕ) (cs : List Candidate) → InRow a cs z → a < z
  row_first a [] s = s
  row_first a (c ∷ cs) s = omega (arith, s.0, s.1, row_first c.right cs s.2)

  -- every candidate starts after boundary a, and ends at z or before
  pub row_within : (a : ℕ) (cs : List Candidate) (i : ℕ) → InRow a cs z → i < length (cs ++ (node z ∷ []))
      → (a < (get_or (cs ++ (node z ∷ [])) i d).left) × ((get_or (cs ++ (node z ∷ [])) i d).left ≤ (get_or (cs ++ (node z ∷ [])) i d).right) × ((get_or (cs ++ (node z ∷ [])) i d).right ≤ z)
  row_within a [] zero s h = (s, omega arith, omega arith)
  row_within a [] (suc i) s h = absurd (omega arith)
  row_within a (c ∷ cs) zero s h = (s.0, s.1, omega (arith, row_first c.right cs s.2))
  row_within a (c ∷ cs) (suc i) s h = let w = row_within c.right cs i s.2 (omega arith) in (omega (arith, s.0, s.1, w.0), w.1, w.2)

  -- each ends before any later one starts
  pub row_apart : (a : ℕ) (cs : List Candidate) (i j : ℕ) → InRow a cs z → i < j → j < length (cs ++ (node z ∷ []))
      → (get_or (cs ++ (node z ∷ [])) i d).right < (get_or (cs ++ (node z ∷ [])) j d).left
  row_apart a cs i zero s h l = absurd (omega arith)
  row_apart a [] i (suc j) s h l = absurd (omega arith)
  row_apart a (c ∷ cs) zero (suc j) s h l = (row_within c.right cs j s.2 (omega arith)).0
  row_apart a (c ∷ cs) (suc i) (suc j) s h l = row_apart c.right cs i j s.2 (omega arith) (omega arith)
