-- Tests as types: how a Bool made of `||` and `&&` is taken apart and put together. Every crate's proofs cite these.
use Rattle.std.specs.Prelude.{◌≡◌, refl, ◌⊎◌, ℕ, ◌≤◌, ◌<◌, Bool, true, false, not, ◌&&◌, ◌||◌, T, ltb}
use Rattle.std.proofs.Common.{sym, subst, ◌∙◌, inl, inr, ltb→lt, nltb→le}
use Rattle.std.proofs.lemmas.Bool.{not-true, not-false}

-- two tests that pass together are one
pub same_test : (a b : Bool) → (T a → T b) → (T b → T a) → a ≡ b
same_test true true f g = refl
same_test true false f g = absurd (f tt)
same_test false true f g = absurd (g tt)
same_test false false f g = refl

-- where the first of two tests passes, one of them does
pub or_l : (a b : Bool) → T a → T (a || b)
or_l true b t = tt
or_l false b t = absurd t

-- where the second passes, one of them does
pub or_r : (a b : Bool) → T b → T (a || b)
or_r true b t = tt
or_r false b t = t

-- and where one of them does, it is the first or the second
pub or_split : (a b : Bool) → T (a || b) → T a ⊎ T b
or_split true b t = inl tt
or_split false b t = inr t

-- a test that is true passes
abbrev pub holds : {b : Bool} → b ≡ true → T b
holds e = subst T (sym e) tt

-- both of two tests are true where their conjunction is
pub both : (a b : Bool) → (a && b) ≡ true → (a ≡ true) × (b ≡ true)
both true b e = (refl, e)
both false b e = absurd (holds e)

-- both are false where their disjunction is
pub neither : (a b : Bool) → (a || b) ≡ false → (a ≡ false) × (b ≡ false)
neither true b e = absurd (holds (sym e))
neither false b e = (refl, e)

-- a test passes or fails
pub passes : (b : Bool) → T b ⊎ T (not b)
passes true = inl tt
passes false = inr tt

-- the same as equations, so that a step with both is `elim (tested b) [ inl e ↦ rw e .. | inr e ↦ rw e .. ]`
pub tested : (b : Bool) → (b ≡ true) ⊎ (b ≡ false)
tested true = inl refl
tested false = inr refl

-- of two numbers one is below the other, or it is not
pub lt_or_le : (a b : ℕ) → (a < b) ⊎ (b ≤ a)
lt_or_le a b = elim (passes (ltb a b)) [ inl t ↦ inl (ltb→lt a b t) | inr t ↦ inr (nltb→le a b t) ]

-- ---- a program's `if !test`, where the test is equal to a definition b

-- where it is taken
pub test_failed : {r b : Bool} → r ≡ b → not r ≡ true → b ≡ false
test_failed {r} e n = sym e ∙ not-true r n

-- where it is passed over
pub test-passed : {r b : Bool} → r ≡ b → not r ≡ false → b ≡ true
test-passed {r} e n = sym e ∙ not-false r n

-- nothing follows a test that failed
pub unmet : {A : Type 0} → false ≡ true → A
unmet e = absurd (holds e)
