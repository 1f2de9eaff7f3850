-- What comes of a record when it is replayed.
use Rattle.std.specs.Prelude.{ℕ, ◌+◌, ◌-◌, Bool, false, cond, List, ltb, length, take, drop, nat_eq}
use Rattle.std.specs.Cmp.Lexicographic.{pointwise}
use Rattle.numbers_in.specs.Numbers.{u16_at}
use Rattle.cutplan.specs.Cutplan.{cutplan_of}
use Rattle.answers_jobs.specs.declared.record.Replayed.{Replayed}

-- as many bytes, and the same
abbrev pub same_bytes : List ℕ → List ℕ → Bool
same_bytes xs ys = pointwise nat_eq xs ys

-- the bytes from place a up to place b
abbrev pub bytes_between : ℕ → ℕ → List ℕ → List ℕ
bytes_between a b s = take (b - a) (drop a s)

-- a whole record at the front of a sample, its job of j bytes and its listing of l: whether the port's listing is the stored one
abbrev pub whole : List ℕ → ℕ → ℕ → Replayed
whole s j l = record {
  size = j + 4 + l;
  same = same_bytes (cutplan_of (bytes_between 2 (j + 2) s)) (bytes_between (j + 4) (j + 4 + l) s);
}

-- what is left, where it is no whole record, agrees with nothing
abbrev pub broken_off : List ℕ → Replayed
broken_off s = record { size = length s; same = false }

-- the record at the front of a sample, where its job has j bytes
abbrev pub replayed_with : List ℕ → ℕ → Replayed
replayed_with s j = cond (ltb (length s - j - 4) (u16_at s (j + 2))) (broken_off s) (whole s j (u16_at s (j + 2)))

-- the record at the front of a sample
unfoldable pub replayed_of : List ℕ → Replayed
replayed_of s = cond (ltb (length s) (u16_at s 0 + 4)) (broken_off s) (replayed_with s (u16_at s 0))
