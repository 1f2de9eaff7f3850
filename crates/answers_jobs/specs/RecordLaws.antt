-- The parts of a record are read one after the other.
use Rattle.std.specs.Prelude.{◌≡◌, Bool, List, ℕ, ◌+◌, ◌-◌, ◌≤◌, ◌<◌, length}
use Rattle.std.proofs.Common.{lt-ltb, le-ltb}
use Rattle.numbers_in.specs.Numbers.{u16_at}
use Rattle.cutplan.specs.Cutplan.{cutplan_of}
use Rattle.answers_jobs.specs.Record.{same_bytes, bytes_between, broken_off, replayed_of}
use Rattle.answers_jobs.specs.declared.record.Replayed.{Replayed}

-- no room for its job and both numbers
pub no_job : (s : List ℕ) (j : ℕ) (r : Replayed) → j ≡ u16_at s 0 → length s < j + 4 → r ≡ broken_off s → r ≡ replayed_of s
unfolding replayed_of
no_job s j r e h f = rw (← e, lt-ltb (length s) (j + 4) h) f

-- no room for its listing
pub no_listing : (s : List ℕ) (j l : ℕ) (r : Replayed) → j ≡ u16_at s 0 → l ≡ u16_at s (j + 2) → j + 4 ≤ length s
    → length s - j - 4 < l → r ≡ broken_off s → r ≡ replayed_of s
unfolding replayed_of
no_listing s j l r e g h k f = rw (← e, ← g, le-ltb (length s) (j + 4) h, lt-ltb (length s - j - 4) l k) f

-- a whole record
pub whole_record : (s : List ℕ) (j l : ℕ) (same : Bool) → j ≡ u16_at s 0 → l ≡ u16_at s (j + 2) → j + 4 ≤ length s
    → l ≤ length s - j - 4 → same ≡ same_bytes (cutplan_of (bytes_between 2 (j + 2) s)) (bytes_between (j + 4) (j + 4 + l) s)
    → record { size = j + 4 + l; same = same } ≡ replayed_of s
unfolding replayed_of
whole_record s j l same e g h k f = rw (← e, ← g, le-ltb (length s) (j + 4) h, le-ltb (length s - j - 4) l k, f)
