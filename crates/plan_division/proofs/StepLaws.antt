-- The bridged candidates are the candidates and the points between neighbours, step by step.
use Rattle.std.specs.Prelude.{◌≡◌, ◌⊎◌, ℕ, zero, suc, ◌+◌, ◌-◌, ◌≤◌, ◌<◌, length}
use Rattle.std.proofs.Common.{sym, ap, subst, ◌∙◌, inl, inr, arith}
use mathlib.Core.List.Memᴰ
use mathlib.Core.List.{List, ◌∷◌, Memᴰ}
use Rattle.base_laws.specs.Tests.{lt_or_le}
use Rattle.grid.specs.declared.boundary.FrameGrid.{FrameGrid}
use Rattle.candidate_span.specs.Gaps.{Cut}
use Rattle.candidate_span.specs.Span.{Span}
use Rattle.candidates.specs.declared.candidate.Candidate.{Candidate}
use Rattle.completion.specs.Bridge.{bridge_of}
use Rattle.completion.specs.Bridged.{bridged_from, bridged_in}
use Rattle.plan_division.specs.Along.{ends_at, cuts_at, numbers_after, all_cuts}
use Rattle.plan_division.specs.Across.{HasCut, Across}
use Rattle.plan_division.specs.Added.{bridges_among, added_by_length}

module _ (g : FrameGrid) (limit : ℕ) (cs : List Candidate) where
  -- a point on one of n steps
  record StepOf (n : ℕ) (k : Cut) : Type 0 where
    pub from : ℕ
    pub before : from < n
    pub listed : Memᴰ k (bridge_of g limit (ends_at cs from).right (ends_at cs (suc from)).left)

  step_of_lem : (n : ℕ) (k : Cut) → Memᴰ k (bridges_among g limit cs n) → StepOf n k
  step_of_lem zero k m = absurd (Memᴰ.not-nil m)
  step_of_lem (suc n) k m = go (Memᴰ.append_cases (bridges_among g limit cs n) m) (step_of_lem n k)
    where
      go : Memᴰ k (bridges_among g limit cs n) ⊎ Memᴰ k (bridge_of g limit (ends_at cs n).right (ends_at cs (suc n)).left)
          → (Memᴰ k (bridges_among g limit cs n) → StepOf n k) → StepOf (suc n) k
      go (inl i) f = let r = f i in record { from = r.from; before = omega (arith, r.before); listed = r.listed }
      go (inr i) f = record { from = n; before = omega arith; listed = i }

  of_step : (n : ℕ) (k : Cut) → StepOf n k → Memᴰ k (bridges_among g limit cs n)
  of_step zero k r = absurd (omega (arith, r.before))
  of_step (suc n) k r = go (lt_or_le r.from n) (of_step n k)
    where
      go : (r.from < n) ⊎ (n ≤ r.from) → (StepOf n k → Memᴰ k (bridges_among g limit cs n)) → Memᴰ k (bridges_among g limit cs (suc n))
      go (inl h) f = Memᴰ.append_left (bridge_of g limit (ends_at cs n).right (ends_at cs (suc n)).left) (f (record { from = r.from; before = h; listed = r.listed }))
      go (inr h) f =
          let e : r.from ≡ n = omega (arith, h, r.before) in
          Memᴰ.append_right (bridges_among g limit cs n) (subst (λ (i : ℕ). Memᴰ k (bridge_of g limit (ends_at cs i).right (ends_at cs (suc i)).left)) e r.listed)

  -- ---- from candidate a to candidate z

  -- the bridged candidates, on n steps
  abbrev bridged_to : ℕ → ℕ → ℕ → List Cut
  bridged_to a n z = bridged_from g limit (ends_at cs a).right (cuts_at cs (numbers_after a n)) (ends_at cs z).left

  in_bridged : (n a z : ℕ) (k : Cut) (r : StepOf z k) → a + n ≡ z → a ≤ r.from → Memᴰ k (bridged_to a n z)
  in_bridged zero a z k r e h = absurd (omega (arith, r.before))
  in_bridged (suc zero) a z k r e h =
      let i : r.from ≡ a = omega (arith, r.before) in
      let j : suc r.from ≡ z = omega (arith, r.before) in
      subst (λ (n : ℕ). Memᴰ k (bridge_of g limit (ends_at cs n).right (ends_at cs z).left)) i
      (subst (λ (n : ℕ). Memᴰ k (bridge_of g limit (ends_at cs r.from).right (ends_at cs n).left)) j r.listed)
  in_bridged (suc (suc n)) a z k r e h = elim (lt_or_le a r.from) [
    | inl l ↦ Memᴰ.append_right (bridge_of g limit (ends_at cs a).right (ends_at cs (suc a)).left) (Memᴰ.tail (in_bridged (suc n) (suc a) z k r (omega arith) l))
    | inr l ↦
        let i : r.from ≡ a = omega arith in
        Memᴰ.append_left (ends_at cs (suc a) ∷ bridged_to (suc a) (suc n) z)
        (subst (λ (n : ℕ). Memᴰ k (bridge_of g limit (ends_at cs n).right (ends_at cs (suc n)).left)) i r.listed)
  ]

  -- a candidate between the two
  record NumberBetween (a z : ℕ) (k : Cut) : Type 0 where
    pub number : ℕ
    pub after : a < number
    pub before : number < z
    pub is : ends_at cs number ≡ k

  of_bridged : (n a z : ℕ) (k : Cut) → a + suc n ≡ z → Memᴰ k (bridged_to a (suc n) z) → NumberBetween a z k ⊎ StepOf z k
  of_bridged zero a z k e m =
      let j : z ≡ suc a = omega arith in
      inr (record { from = a; before = omega arith; listed = subst (λ (n : ℕ). Memᴰ k (bridge_of g limit (ends_at cs a).right (ends_at cs n).left)) j m })
  of_bridged (suc n) a z k e m = go (Memᴰ.append_cases (bridge_of g limit (ends_at cs a).right (ends_at cs (suc a)).left) m) (of_bridged n (suc a) z k (omega arith))
    where
      later : NumberBetween (suc a) z k ⊎ StepOf z k → NumberBetween a z k ⊎ StepOf z k
      later (inl f) = inl (record { number = f.number; after = omega (arith, f.after); before = f.before; is = f.is })
      later (inr f) = inr f

      go : Memᴰ k (bridge_of g limit (ends_at cs a).right (ends_at cs (suc a)).left) ⊎ Memᴰ k (ends_at cs (suc a) ∷ bridged_to (suc a) (suc n) z)
          → (Memᴰ k (bridged_to (suc a) (suc n) z) → NumberBetween (suc a) z k ⊎ StepOf z k) → NumberBetween a z k ⊎ StepOf z k
      go (inl i) f = inr (record { from = a; before = omega arith; listed = i })
      go (inr (Memᴰ.head q)) f = inl (record { number = suc a; after = omega arith; before = omega arith; is = sym q })
      go (inr (Memᴰ.tail i)) f = later (f i)

  -- ---- over all candidates

  module _ (s : Span) (p : Across s cs) where
    ends : bridged_to 0 (length cs - 1) (length cs - 1) ≡ bridged_in g limit s (all_cuts cs)
    ends =
        ap (λ (a : ℕ). bridged_from g limit a (all_cuts cs) (ends_at cs (length cs - 1)).left) p.starts
        ∙ ap (λ (z : ℕ). bridged_from g limit s.first (all_cuts cs) z) p.stops

    -- each added point is one of the bridged candidates
    pub added-bridged : (k : Cut) → Memᴰ k (added_by_length g limit cs) → Memᴰ k (bridged_in g limit s (all_cuts cs))
    added-bridged k m =
        subst (λ (js : List Cut). Memᴰ k js) ends
        (in_bridged (length cs - 1) 0 (length cs - 1) k (step_of_lem (length cs - 1) k m) (omega arith) (omega arith))

    -- and each of them is added, or was a candidate
    pub bridged-added : (k : Cut) → Memᴰ k (bridged_in g limit s (all_cuts cs)) → HasCut cs k ⊎ Memᴰ k (added_by_length g limit cs)
    bridged-added k m = go (of_bridged (length cs - 2) 0 (length cs - 1) k (omega (arith, p.some)) (subst (λ (js : List Cut). Memᴰ k js) (sym same) m))
      where
        same : bridged_to 0 (suc (length cs - 2)) (length cs - 1) ≡ bridged_in g limit s (all_cuts cs)
        same =
            let e : suc (length cs - 2) ≡ length cs - 1 = omega (arith, p.some) in
            ap (λ (n : ℕ). bridged_to 0 n (length cs - 1)) e ∙ ends

        go : NumberBetween 0 (length cs - 1) k ⊎ StepOf (length cs - 1) k → HasCut cs k ⊎ Memᴰ k (added_by_length g limit cs)
        go (inl f) = inl (record { number = f.number; after = f.after; before = omega (arith, f.before); is = f.is })
        go (inr r) = inr (of_step (length cs - 1) k r)
