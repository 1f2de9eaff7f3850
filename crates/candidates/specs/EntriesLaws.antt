-- Three numbers and one cost for each candidate, in its order.
use Rattle.std.specs.Prelude.{◌≡◌, refl, List, [], ◌∷◌, ◌++◌, ℕ, suc, ◌*◌, Float, length}
use Rattle.std.proofs.Common.{ap, arith}
use Rattle.candidates.specs.declared.candidate.Candidate.{Candidate}
use Rattle.candidates.specs.Candidates.{reason_number}
use Rattle.candidates.specs.Entries.{entries_of, costs_of}

-- three numbers for each candidate
pub entries_length : (cs : List Candidate) → length (entries_of cs) ≡ 3 * length cs
unfolding entries_of
entries_length [] = refl
entries_length (c ∷ cs) = omega (arith, entries_length cs)

-- one cost for each
pub costs_length : (cs : List Candidate) → length (costs_of cs) ≡ length cs
unfolding costs_of
costs_length [] = refl
costs_length (c ∷ cs) = ap suc (costs_length cs)

-- the entries of two lists joined are those of the one and then those of the other
pub entries_append : (cs ds : List Candidate) → entries_of (cs ++ ds) ≡ entries_of cs ++ entries_of ds
unfolding entries_of
entries_append [] ds = refl
entries_append (c ∷ cs) ds = ap (λ (t : List ℕ). c.left ∷ (c.right ∷ (reason_number c.reason ∷ t))) (entries_append cs ds)

-- so it is with their costs
pub costs_append : (cs ds : List Candidate) → costs_of (cs ++ ds) ≡ costs_of cs ++ costs_of ds
unfolding costs_of
costs_append [] ds = refl
costs_append (c ∷ cs) ds = ap (λ (t : List Float). c.cost ∷ t) (costs_append cs ds)
