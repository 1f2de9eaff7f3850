-- Who survives, as membership: a survivor is listed and has one of the left ends asked for, and each left end of a listed candidate has its survivor.
use Rattle.std.specs.Prelude.{◌≡◌, refl, ◌⊎◌, Bool, ◌||◌, cond, ℕ, zero, suc, ◌<◌, eqb, length, get_or}
use Rattle.std.proofs.Math.Path.{sym, subst}
use Rattle.std.proofs.Common.{◌∙◌, inl, inr, arith, eqb-true, eq-eqb}
use Rattle.std.proofs.Math.Bool.{true, false}
use mathlib.Core.List.Memᴰ
use mathlib.Core.List.{List, [], ◌∷◌, ◌++◌, Memᴰ}
use Rattle.std.specs.Float.Ieee.{lt}
use Rattle.base_laws.specs.Tests.{holds}
use Rattle.candidate_points.specs.Points.{is_in}
use Rattle.candidates.specs.declared.candidate.Candidate.{Candidate}
use Rattle.candidates.specs.Candidates.{node, with_left, cheaper, cheapest_of, cheapest, survivors}

-- ---- numbers of a list

-- a number that the test finds is of the list
pub is_in_lem : (ks : List ℕ) (k : ℕ) → is_in ks k ≡ true → Memᴰ k ks
unfolding is_in
is_in_lem [] k e = absurd (holds e)
is_in_lem (j ∷ ks) k e = go (eqb j k) (eqb-true j k) e (is_in_lem ks k)
  where
    go : (b : Bool) → (b ≡ true → j ≡ k) → (b || is_in ks k) ≡ true → (is_in ks k ≡ true → Memᴰ k ks) → Memᴰ k (j ∷ ks)
    go true f t g = Memᴰ.head (sym (f refl))
    go false f t g = Memᴰ.tail (g t)

-- and the test finds each of the list
pub in_is : (ks : List ℕ) (k : ℕ) → Memᴰ k ks → is_in ks k ≡ true
unfolding is_in
in_is [] k m = absurd (Memᴰ.not-nil m)
in_is (j ∷ ks) k (Memᴰ.head e) = rw (eq-eqb j k (sym e))
in_is (j ∷ ks) k (Memᴰ.tail m) = go (eqb j k) (in_is ks k m)
  where
    go : (b : Bool) → is_in ks k ≡ true → (b || is_in ks k) ≡ true
    go true e = refl
    go false e = e

-- ---- candidates by number

-- candidate i of some
abbrev pub candidate_at : List Candidate → ℕ → Candidate
candidate_at cs i = get_or cs i (node 0)

-- it is one of them
pub at_member : (cs : List Candidate) (i : ℕ) → i < length cs → Memᴰ (candidate_at cs i) cs
at_member [] i h = absurd (omega arith)
at_member (c ∷ cs) zero h = Memᴰ.head refl
at_member (c ∷ cs) (suc i) h = Memᴰ.tail (at_member cs i (omega arith))

-- the number of a candidate
pub record NumberOf (cs : List Candidate) (c : Candidate) : Type 0 where
  pub number : ℕ
  pub counted : number < length cs
  pub is : candidate_at cs number ≡ c

-- each of them has one
pub member_at : (cs : List Candidate) (c : Candidate) → Memᴰ c cs → NumberOf cs c
member_at [] c m = absurd (Memᴰ.not-nil m)
member_at (d ∷ cs) c (Memᴰ.head e) = record { number = 0; counted = omega arith; is = sym e }
member_at (d ∷ cs) c (Memᴰ.tail m) =
    let r = member_at cs c m in
    record { number = suc r.number; counted = omega (arith, r.counted); is = r.is }

-- ---- those with left end k

module _ (k : ℕ) where
  -- each is listed, and has its left end there
  pub left_of : (cs : List Candidate) (c : Candidate) → Memᴰ c (with_left k cs) → Memᴰ c cs × (c.left ≡ k)
  unfolding with_left
  left_of [] c m = absurd (Memᴰ.not-nil m)
  left_of (d ∷ cs) c m = go (eqb d.left k) (eqb-true d.left k) m (left_of cs c)
    where
      rest : Memᴰ c cs × (c.left ≡ k) → Memᴰ c (d ∷ cs) × (c.left ≡ k)
      rest p = (Memᴰ.tail p.0, p.1)

      go : (b : Bool) → (b ≡ true → d.left ≡ k) → Memᴰ c (cond b (d ∷ with_left k cs) (with_left k cs))
          → (Memᴰ c (with_left k cs) → Memᴰ c cs × (c.left ≡ k)) → Memᴰ c (d ∷ cs) × (c.left ≡ k)
      go true f (Memᴰ.head e) g = (Memᴰ.head e, subst (λ (a : Candidate). a.left ≡ k) (sym e) (f refl))
      go true f (Memᴰ.tail i) g = rest (g i)
      go false f i g = rest (g i)

  of_left : (cs : List Candidate) (c : Candidate) → Memᴰ c cs → c.left ≡ k → Memᴰ c (with_left k cs)
  unfolding with_left
  of_left [] c m e = absurd (Memᴰ.not-nil m)
  of_left (d ∷ cs) c (Memᴰ.head q) e = rw (eq-eqb d.left k (subst (λ (a : Candidate). a.left ≡ k) q e)) (Memᴰ.head q)
  of_left (d ∷ cs) c (Memᴰ.tail m) e = go (eqb d.left k) (of_left cs c m e)
    where
      go : (b : Bool) → Memᴰ c (with_left k cs) → Memᴰ c (cond b (d ∷ with_left k cs) (with_left k cs))
      go true i = Memᴰ.tail i
      go false i = i

-- ---- the cheapest

cheaper-one : (c d : Candidate) → (cheaper c d ≡ c) ⊎ (cheaper c d ≡ d)
unfolding cheaper
cheaper-one c d = go (lt d.cost c.cost)
  where
    go : (b : Bool) → (cond b d c ≡ c) ⊎ (cond b d c ≡ d)
    go true = inr refl
    go false = inl refl

cheapest_of_lem : (c : Candidate) (cs : List Candidate) → Memᴰ (cheapest_of c cs) (c ∷ cs)
unfolding cheapest_of
cheapest_of_lem c [] = Memᴰ.head refl
cheapest_of_lem c (d ∷ cs) = go (cheaper-one c d) (cheapest_of_lem (cheaper c d) cs)
  where
    go : (cheaper c d ≡ c) ⊎ (cheaper c d ≡ d) → Memᴰ (cheapest_of (cheaper c d) cs) (cheaper c d ∷ cs) → Memᴰ (cheapest_of (cheaper c d) cs) (c ∷ (d ∷ cs))
    go (inl e) (Memᴰ.head q) = Memᴰ.head (q ∙ e)
    go (inr e) (Memᴰ.head q) = Memᴰ.tail (Memᴰ.head (q ∙ e))
    go s (Memᴰ.tail m) = Memᴰ.tail (Memᴰ.tail m)

-- what survives at boundary k: nothing where no candidate is listed there, and else one of those that are
pub data Survivor (cs : List Candidate) (k : ℕ) (ds : List Candidate) : Type 0 where
  none : ds ≡ [] → ((c : Candidate) → Memᴰ c cs → c.left ≡ k → ⊥) → Survivor cs k ds
  one : (c : Candidate) → ds ≡ c ∷ [] → Memᴰ c cs → c.left ≡ k → Survivor cs k ds

-- the cheapest of those with left end k is what survives at boundary k
pub survivor_at : (cs : List Candidate) (k : ℕ) → Survivor cs k (cheapest (with_left k cs))
unfolding cheapest
survivor_at cs k = go (with_left k cs) (left_of k cs) (of_left k cs)
  where
    go : (ds : List Candidate) → ((c : Candidate) → Memᴰ c ds → Memᴰ c cs × (c.left ≡ k))
        → ((c : Candidate) → Memᴰ c cs → c.left ≡ k → Memᴰ c ds) → Survivor cs k (cheapest ds)
    go [] f g = none refl (λ (c : Candidate) (m : Memᴰ c cs) (e : c.left ≡ k). Memᴰ.not-nil (g c m e))
    go (d ∷ ds) f g = let p = f (cheapest_of d ds) (cheapest_of_lem d ds) in one (cheapest_of d ds) refl p.0 p.1

-- ---- the survivors

module _ (cs : List Candidate) where
  -- each is listed, and its left end is one of those asked for
  pub survivor_of : (ks : List ℕ) (c : Candidate) → Memᴰ c (survivors cs ks) → Memᴰ c cs × Memᴰ c.left ks
  unfolding survivors
  survivor_of [] c m = absurd (Memᴰ.not-nil m)
  survivor_of (k ∷ ks) c m = go (cheapest (with_left k cs)) (survivor_at cs k) m (survivor_of ks c)
    where
      rest : Memᴰ c cs × Memᴰ c.left ks → Memᴰ c cs × Memᴰ c.left (k ∷ ks)
      rest p = (p.0, Memᴰ.tail p.1)

      here : (d : Candidate) → Memᴰ d cs → d.left ≡ k → c ≡ d → Memᴰ c cs × Memᴰ c.left (k ∷ ks)
      here d i l q = rw q (i, Memᴰ.head l)

      step : (d : Candidate) → Memᴰ d cs → d.left ≡ k → Memᴰ c (d ∷ survivors cs ks)
          → (Memᴰ c (survivors cs ks) → Memᴰ c cs × Memᴰ c.left ks) → Memᴰ c cs × Memᴰ c.left (k ∷ ks)
      step d i l (Memᴰ.head q) f = here d i l q
      step d i l (Memᴰ.tail j) f = rest (f j)

      go : (ds : List Candidate) → Survivor cs k ds → Memᴰ c (ds ++ survivors cs ks)
          → (Memᴰ c (survivors cs ks) → Memᴰ c cs × Memᴰ c.left ks) → Memᴰ c cs × Memᴰ c.left (k ∷ ks)
      go ds (none e n) i f = rest (f (subst (λ (t : List Candidate). Memᴰ c (t ++ survivors cs ks)) e i))
      go ds (one d e o l) i f = step d o l (subst (λ (t : List Candidate). Memᴰ c (t ++ survivors cs ks)) e i) f

  -- the survivor with left end k
  pub record SurvivorAt (ks : List ℕ) (k : ℕ) : Type 0 where
    pub who : Candidate
    pub survives : Memᴰ who (survivors cs ks)
    pub at : who.left ≡ k

  -- each left end of a listed candidate has one
  pub survivor_found : (ks : List ℕ) (c : Candidate) → Memᴰ c cs → Memᴰ c.left ks → SurvivorAt ks c.left
  unfolding survivors
  survivor_found [] c m i = absurd (Memᴰ.not-nil i)
  survivor_found (k ∷ ks) c m (Memᴰ.head e) = let r = go (cheapest (with_left k cs)) (survivor_at cs k) in record { who = r.0; survives = r.1; at = r.2 }
    where
      go : (ds : List Candidate) → Survivor cs k ds → (d : Candidate) × Memᴰ d (ds ++ survivors cs ks) × (d.left ≡ c.left)
      go ds (none q n) = absurd (n c m e)
      go ds (one d q o l) = (d, subst (λ (t : List Candidate). Memᴰ d (t ++ survivors cs ks)) (sym q) (Memᴰ.head refl), l ∙ sym e)
  survivor_found (k ∷ ks) c m (Memᴰ.tail i) =
      let r = survivor_found ks c m i in
      record { who = r.who; survives = Memᴰ.append_right (cheapest (with_left k cs)) r.survives; at = r.at }
