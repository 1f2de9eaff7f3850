-- The fields of a job. Each gives what stands at a place, and the place behind it. A field that is not present takes no bytes.
use Rattle.std.specs.Prelude.{ℕ, ◌+◌, ◌/◌, ◌%◌, ◌^◌, Bool, cond, false, List, eqb, leb, pos, Float, Result, Ok, Err}
use Rattle.std.specs.Float.{fin}
use Rattle.numbers_in.specs.Numbers.{byte_at, u64_at, f32_at}
use Rattle.job.specs.declared.answer.Fault.{Fault}
use Rattle.job.specs.declared.answer.Fault.TheVariants.{UnknownKind}
use Rattle.job.specs.declared.answer.Refusal.{Refusal}

-- a value, and the place behind it
pub record Field (A : Type 0) : Type 0 where
  pub value : A
  pub next : ℕ

-- this value, with this place behind it
abbrev pub field : {A : Type 0} → A → ℕ → Field A
field value next = record { value = value; next = next }

-- a refusal for this fault, which shows at this place
abbrev pub refused : {A : Type 0} → Fault → ℕ → Result A Refusal
refused fault at = Err (record { fault = fault; at = at })

-- what is read behind something, or the refusal that came before
infixl 10 ◌>>=◌
abbrev pub ◌>>=◌ : {A B : Type 0} → Result A Refusal → (A → Result B Refusal) → Result B Refusal
(Ok a) >>= rest = rest a
(Err refusal) >>= rest = Err refusal

-- a bit of the map stands
abbrev pub stands : ℕ → ℕ → Bool
stands map bit = eqb (map / 2 ^ bit % 2) 1

-- u64
unfoldable pub u64_field : (job : List ℕ) (at : ℕ) (present : Bool) (absent : ℕ) → Field ℕ
u64_field job at present absent = field (cond present (u64_at job at) absent) (cond present (at + 8) at)

-- f32, the number of a kind that has one
unfoldable pub f32_field : (job : List ℕ) (at : ℕ) (present : Bool) → Field Float
f32_field job at present = field (cond present (f32_at job at) (fin false 0 (pos 0))) (cond present (at + 4) at)

-- the byte of a kind; absent it is 0
abbrev pub kind_at : (job : List ℕ) (at : ℕ) (present : Bool) → ℕ
kind_at job at present = cond present (byte_at job at) 0

-- byte, a kind from 0 to `most`, or there is no such kind at this place
unfoldable pub kind_field : (job : List ℕ) (at : ℕ) (present : Bool) (most : ℕ) → Result (Field ℕ) Refusal
kind_field job at present most =
    cond (leb (kind_at job at present) most) (Ok (field (kind_at job at present) (cond present (at + 1) at))) (refused UnknownKind at)
