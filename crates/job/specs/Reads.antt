-- What a function that reads a part of a job promises: the part that stands where the fields were, and that they are behind it.
use Rattle.std.specs.Prelude.{◌≡◌, Result, Ok, Err}
use Rattle.job.specs.Fields.{Field, field}
use Rattle.job.specs.declared.answer.Refusal.{Refusal}
use Rattle.job.specs.declared.fields.Fields.{Fields}

-- the same job and map
pub record SameJob (before after : Fields) : Type 0 where
  pub same_bytes : after.job.now ≡ before.job.now
  pub same_map : after.map ≡ before.map

-- a part that is in every job: its value was read, and the fields are behind it
pub record HasRead {A : Type 0} (before : Fields) (part : Field A) (value : A) (after : Fields) : Type 0 where
  pub part_is : part ≡ field value after.at
  pub same : SameJob before after

-- a part with a kind in it: its value was read, or it was refused, with the same job and map and the fields at the place that the refusal names
abbrev pub HasTried : {A : Type 0} → Fields → Result (Field A) Refusal → Result A Refusal → Fields → Type 0
HasTried before part (Ok value) after = (part ≡ Ok (field value after.at)) × SameJob before after
HasTried before part (Err refusal) after = (part ≡ Err refusal) × SameJob before after × (after.at ≡ refusal.at)
