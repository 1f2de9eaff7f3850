-- How records are counted: a sample whose last records are spoiled agrees up to the first of these, and in none of them.
use Rattle.std.specs.Prelude.{ℕ, zero, suc, ◌+◌, ◌≤◌, Bool, ◌&&◌, cond, List, eqb, ltb, length, drop}
use Rattle.answers_jobs.specs.Record.{replayed_of}
use Rattle.answers_jobs.specs.declared.report.Tally.{Tally}

-- with one record more, answered as it is stored or not
unfoldable pub with_record : Tally → Bool → Tally
with_record t same = record {
  records = t.records + 1;
  agreeing = cond (same && eqb t.differences 0) (t.records + 1) t.agreeing;
  differences = cond same t.differences (t.differences + 1);
}

-- the tally before the first record
abbrev pub no_record : Tally
no_record = record { records = 0; agreeing = 0; differences = 0 }

-- the tally of input that is too long for a sample: one difference
abbrev pub too_long_of : Tally
too_long_of = record { records = 0; agreeing = 0; differences = 1 }

-- a tally with the records of s, n of them at most
unfoldable pub with_records : ℕ → List ℕ → Tally → Tally
with_records zero s t = t
with_records (suc n) s t =
    cond (eqb (length s) 0) t (with_records n (drop (replayed_of s).size s) (with_record t (replayed_of s).same))

-- the tally of a sample: a record takes a byte at least, so that it has at most as many records as bytes
unfoldable pub tally_of : List ℕ → Tally
tally_of s = cond (ltb 131072 (length s)) too_long_of (with_records (length s) s no_record)

-- each number is at most n
pub record UpTo (n : ℕ) (t : Tally) : Type 0 where
  pub records_up : t.records ≤ n
  pub agreeing_up : t.agreeing ≤ n
  pub differences_up : t.differences ≤ n
