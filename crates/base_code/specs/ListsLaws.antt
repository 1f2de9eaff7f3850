-- A test of every element, of lists behind one another.
use Rattle.std.specs.Prelude.{◌≡◌, Bool, true, false, ◌&&◌, List, [], ◌∷◌, ◌++◌}
use Rattle.std.proofs.Math.Path.{refl}
use Rattle.std.proofs.Common.{◌∙◌}
use Rattle.std.proofs.Math.Bool.{and-true}
use Rattle.base_terms.specs.Lists.{all_of}

-- three tests in a row
pub and_assoc : (a b c : Bool) → (a && (b && c)) ≡ ((a && b) && c)
and_assoc true b c = refl
and_assoc false b c = refl

module _ {A : Type 0} (p : A → Bool) where
  -- two lists, one behind the other, pass where both do
  pub all_append : (xs ys : List A) → all_of p (xs ++ ys) ≡ (all_of p xs && all_of p ys)
  unfolding all_of
  all_append [] ys = refl
  all_append (x ∷ xs) ys = rw (all_append xs ys) (and_assoc (p x) (all_of p xs) (all_of p ys))

  -- where there is no element, none fails
  pub all_none : true ≡ all_of p []
  unfolding all_of
  all_none = refl

  -- one more behind the others
  pub all_snoc : (xs : List A) (x : A) → all_of p (xs ++ (x ∷ [])) ≡ (all_of p xs && p x)
  unfolding all_of
  all_snoc xs x = all_append xs (x ∷ []) ∙ rw and-true
