-- Marks are added and none is taken away: afterwards a boundary is marked where it was, or where a cut is.
use Rattle.std.specs.Prelude.{◌≡◌, refl, Bool, true, false, not, ◌||◌, cond, List, [], ◌∷◌, ◌++◌, ℕ, ◌+◌, ◌≤◌, ◌<◌, eqb, length, get_or, take, set}
use Rattle.std.proofs.Common.{sym, ap, ◌∙◌, arith, get_or-set_same, get_or-set_other, eqb-true}
use Rattle.std.proofs.Math.Bool.{or-true, or-false}
use Rattle.std.proofs.lemmas.Bool.{eqb-false}
use Rattle.candidate_span.specs.Gaps.{Cut}
use Rattle.candidate_points.specs.Points.{is_in}
use Rattle.completion_reach.specs.Cuts.{mark_cut, marking, points_in}
use Rattle.completion.specs.CutsLaws.{mark_length, mark_stays}

-- the list keeps its length
pub marking-length : (base : ℕ) (ks : List Cut) (work : List ℕ) → length (marking base ks work) ≡ length work
unfolding marking
marking-length base [] work = refl
marking-length base (k ∷ ks) work = marking-length base ks (mark_cut base k work) ∙ mark_length base k work

-- what stands before the marks stays
pub marking_stays : (base n : ℕ) (ks : List Cut) (work : List ℕ) → n ≤ base → take n (marking base ks work) ≡ take n work
unfolding marking
marking_stays base n [] work h = refl
marking_stays base n (k ∷ ks) work h = marking_stays base n ks (mark_cut base k work) h ∙ mark_stays base n k work h

-- marks of some cuts and then of others are the marks of both
pub marking-append : (base : ℕ) (js ks : List Cut) (work : List ℕ) → marking base (js ++ ks) work ≡ marking base ks (marking base js work)
unfolding marking
marking-append base [] ks work = refl
marking-append base (j ∷ js) ks work = marking-append base js ks (mark_cut base j work)

-- a mark stands at base + k
abbrev set_at : ℕ → List ℕ → ℕ → Bool
set_at base work k = not (eqb (get_or work (base + k) 0) 0)

one_mark : (base : ℕ) (c : Cut) (work : List ℕ) (k : ℕ) (rest : Bool) → base + k < length work
    → (set_at base (mark_cut base c work) k || rest) ≡ (set_at base work k || cond (eqb c.left c.right) (eqb c.left k || rest) rest)
one_mark base c work k rest h = go (eqb c.left c.right) (eqb c.left k) (eqb-true c.left k) (eqb-false c.left k)
  where
    here : c.left ≡ k → get_or (set work (base + c.left) 1) (base + k) 0 ≡ 1
    here e = ap (λ (j : ℕ). get_or (set work (base + j) 1) (base + k) 0) e ∙ get_or-set_same work (base + k) 1 0 h

    other : (c.left ≡ k → ⊥) → get_or (set work (base + c.left) 1) (base + k) 0 ≡ get_or work (base + k) 0
    other d = get_or-set_other work (base + c.left) (base + k) 1 0 (λ (e : base + k ≡ base + c.left). d (omega (arith, e)))

    go : (a b : Bool) → (b ≡ true → c.left ≡ k) → (b ≡ false → c.left ≡ k → ⊥)
        → (set_at base (cond a (set work (base + c.left) 1) work) k || rest) ≡ (set_at base work k || cond a (b || rest) rest)
    go true true f f' = rw (here (f refl)) (sym (or-true (set_at base work k)))
    go true false f f' = rw (other (f' refl))
    go false b f f' = refl

-- a boundary is marked afterwards where it was, or where a cut at one boundary is
pub marking_is : (base : ℕ) (ks : List Cut) (work : List ℕ) (k : ℕ) → base + k < length work
    → set_at base (marking base ks work) k ≡ (set_at base work k || is_in (points_in ks) k)
unfolding marking points_in is_in
marking_is base [] work k h = sym (or-false (set_at base work k))
marking_is base (c ∷ ks) work k h =
    marking_is base ks (mark_cut base c work) k (omega (arith, h, mark_length base c work)) ∙ one_mark base c work k (is_in (points_in ks) k) h
    ∙ ap (λ (b : Bool). set_at base work k || b) (among (eqb c.left c.right))
  where
    among : (b : Bool) → cond b (eqb c.left k || is_in (points_in ks) k) (is_in (points_in ks) k) ≡ is_in (cond b (c.left ∷ points_in ks) (points_in ks)) k
    among true = refl
    among false = refl
