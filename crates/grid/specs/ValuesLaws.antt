-- What refusal 5's ranges leave of a value: a finite one is a number, and a score is finite.
use Rattle.std.specs.Prelude.{◌≡◌, refl, true, false, not, ◌&&◌, List, ℕ, T, Float}
use Rattle.std.specs.Float.{nan, inf, fin, float_is_finite}
use Rattle.std.specs.Float.Ieee.{le, lt, is_nan}
use Rattle.std.specs.Float.Ieee.Scale.{finite}
use Rattle.base_laws.specs.Tests.{holds, both}
use Rattle.base_laws.specs.Nonneg.{finite_number}
use Rattle.base_terms.specs.Lists.{all_of}
use Rattle.base_code.specs.Elements.{all_weaker}
use Rattle.grid.specs.declared.validate.Domain.{Domain}
use Rattle.grid.specs.declared.validate.Domain.TheVariants.{Decibels, Scores}
use Rattle.grid.specs.Values.{is_score, is_finite, is_flag, is_unflagged}
use Rattle.grid.specs.Validate.{values_ok}

-- `is_finite` is the float laws' `finite`
pub value_finite : (x : Float) → is_finite x ≡ true → T (finite x)
unfolding is_finite lt
value_finite nan h = holds h
value_finite (inf true) h = holds h
value_finite (inf false) h = holds h
value_finite (fin s m e) h = tt

-- and std's
pub finite_is : (x : Float) → float_is_finite x ≡ is_finite x
unfolding is_finite lt float_is_finite
finite_is nan = refl
finite_is (inf true) = refl
finite_is (inf false) = refl
finite_is (fin s m e) = refl

-- a finite value is a number
pub value_number : (x : Float) → is_finite x ≡ true → T (not (is_nan x))
value_number x h = finite_number x (value_finite x h)

-- a score is finite
pub score_finite : (x : Float) → is_score x ≡ true → is_finite x ≡ true
unfolding is_score is_finite lt le
score_finite nan h = h
score_finite (inf true) h = h
score_finite (inf false) h = h
score_finite (fin s m e) h = refl

-- the values of an accepted recording are finite
pub values_finite : (domain : Domain) (values : List Float) (flags : List ℕ) (levels : List Float) → values_ok domain values flags levels ≡ true → all_of is_finite values ≡ true
unfolding values_ok
values_finite Decibels values flags levels h = (both (all_of is_finite values) (all_of is_flag flags) (both (all_of is_finite values && all_of is_flag flags) (all_of is_finite levels) h).0).0
values_finite Scores values flags levels h = all_weaker is_score is_finite score_finite values (both (all_of is_score values) (all_of is_unflagged flags) h).0
