-- An end for each test of the reader, and what holds of a job that was read.
use Rattle.std.specs.Prelude.{◌≡◌, Bool, true, false, cond, List, ℕ, ◌+◌, ◌-◌, ◌*◌, ◌≤◌, ◌<◌, T, ltb, leb, Result, Ok, Err, is_ok}
use Rattle.std.proofs.Math.Path.{refl}
use Rattle.std.proofs.Common.{sym, ap, subst, arith}
use borrow.Author.Tests.{lt-ltb, le-ltb, le-leb, lt-leb, ltb-false}
use Rattle.std.proofs.Math.ListN.{length, length-replicate}
use Rattle.base_code.specs.FrontLaws.{tabulate-length}
use Rattle.numbers_in.specs.Numbers.{u16_at}
use Rattle.grid.specs.Validate.{level_count}
use Rattle.grid.specs.declared.validate.Domain.{Domain}
use Rattle.grid.specs.declared.validate.Domain.TheVariants.{Decibels, Scores}
use Rattle.job.specs.Fields.{Field, refused, ◌>>=◌, kind_field}
use Rattle.job.specs.Settings.{settings_at}
use Rattle.job.specs.Segment.{segment_at}
use Rattle.job.specs.Recorded.{recorded_at}
use Rattle.job.specs.Job.{numbers_of, lists_size, end_of, fitted, read_of, Within, values_in, flags_for, flags_in, levels_for, levels_in}
use Rattle.job.specs.Limits.{most_bytes, most_frames}
use Rattle.job.specs.declared.answer.Head.{Head}
use Rattle.job.specs.declared.answer.Fault.{Fault}
use Rattle.job.specs.declared.answer.Fault.TheVariants.{TooLong, UnknownBit, CutShort, TooManyFrames, BytesAfter}
use Rattle.job.specs.declared.answer.Refusal.{Refusal}
use Rattle.job.specs.declared.recording.Recorded.{Recorded}

-- ---- the ends of the reader

module _ (job : List ℕ) where
  -- more bytes than a job can have
  pub too_long : most_bytes < length job → refused TooLong most_bytes ≡ read_of job
  unfolding read_of
  too_long h = rw (lt-ltb most_bytes (length job) h)

  module _ (short : length job ≤ most_bytes) (map : ℕ) (is-map : map ≡ u16_at job 0) where
    -- a bit of the map that no field has
    pub unknown_bit : 4096 ≤ map → refused UnknownBit 0 ≡ read_of job
    unfolding read_of
    unknown_bit h = rw (le-ltb most_bytes (length job) short, ← is-map, le-leb 4096 map h)

    module _ (few_bits : map < 4096) where
      -- a kind that there is not
      pub unknown_kind : (r : Refusal) → numbers_of job map ≡ Err r → Err r ≡ read_of job
      unfolding read_of
      unknown_kind r e = rw (le-ltb most_bytes (length job) short, ← is-map, lt-leb 4096 map few_bits, e)

      -- where all kinds are known, the tests of its length decide
      pub known_kinds : (h : Head) → numbers_of job map ≡ Ok h → fitted (length job) h ≡ read_of job
      unfolding read_of
      known_kinds h e = rw (le-ltb most_bytes (length job) short, ← is-map, lt-leb 4096 map few_bits, e)

-- ---- the ends of the tests of its length

module _ (len : ℕ) (h : Head) where
  -- it ends before its lists begin
  pub cut_in_numbers : len < h.lists → refused CutShort len ≡ fitted len h
  unfolding fitted
  cut_in_numbers l = rw (lt-ltb len h.lists l)

  module _ (numbers : h.lists ≤ len) where
    -- more frames than a job can have
    pub too_many_frames : most_frames < h.frames → refused TooManyFrames (h.lists - 4) ≡ fitted len h
    unfolding fitted
    too_many_frames l = rw (le-ltb len h.lists numbers, lt-ltb most_frames h.frames l)

    module _ (few : h.frames ≤ most_frames) (end : ℕ) (is-end : end ≡ end_of h) where
      -- it ends before its lists do
      pub cut_in_lists : len < end → refused CutShort len ≡ fitted len h
      unfolding fitted
      cut_in_lists l = rw (le-ltb len h.lists numbers, le-ltb most_frames h.frames few, ← is-end, lt-ltb len end l)

      module _ (lists : end ≤ len) where
        -- it goes on behind its lists
        pub bytes_after : end < len → refused BytesAfter end ≡ fitted len h
        unfolding fitted
        bytes_after l = rw (le-ltb len h.lists numbers, le-ltb most_frames h.frames few, ← is-end, le-ltb len end lists, lt-ltb end len l)

        -- it ends where its lists do
        pub all_read : len ≤ end → Ok h ≡ fitted len h
        unfolding fitted
        all_read l = rw (le-ltb len h.lists numbers, le-ltb most_frames h.frames few, ← is-end, le-ltb len end lists, le-ltb end len l)

-- ---- what holds of a job that was read

abbrev head_or : Head → Result Head Refusal → Head
head_or other (Ok h) = h
head_or other (Err refusal) = other

-- a test that a job passed
passed : (b : Bool) (fault : Fault) (at : ℕ) (rest : Result Head Refusal) (h : Head) → cond b (refused fault at) rest ≡ Ok h → (b ≡ false) × (rest ≡ Ok h)
passed true fault at rest h e = absurd (subst (λ (r : Result Head Refusal). T (is_ok r)) (sym e) tt)
passed false fault at rest h e = (refl, e)

-- a part that was read, and what was read behind it
record Came {A B : Type 0} (part : Result A Refusal) (rest : A → Result B Refusal) (b : B) : Type 0 where
  pub value : A
  pub part_is : part ≡ Ok value
  pub rest_is : rest value ≡ Ok b

came : {A B : Type 0} (part : Result A Refusal) (rest : A → Result B Refusal) (b : B) → part >>= rest ≡ Ok b → Came part rest b
came (Ok a) rest b e = record { value = a; part_is = refl; rest_is = e }
came {B = B} (Err refusal) rest b e = absurd (subst (λ (r : Result B Refusal). T (is_ok r)) (sym e) tt)

fitted-within : (job : List ℕ) (g h : Head) → length job ≤ most_bytes → fitted (length job) g ≡ Ok h → Within job h
unfolding fitted
fitted-within job g h short e =
    let a = passed (ltb (length job) g.lists) CutShort (length job) _ h e in
    let b = passed (ltb most_frames g.frames) TooManyFrames _ _ h a.1 in
    let c = passed (ltb (length job) (end_of g)) CutShort (length job) _ h b.1 in
    let d = passed (ltb (end_of g) (length job)) BytesAfter (end_of g) _ h c.1 in
    subst (Within job) (ap (head_or g) d.1) (record {
      few_bytes = short;
      few_frames = ltb-false most_frames g.frames b.0;
      to_the_end = equal (end_of g) (length job) (ltb-false (length job) (end_of g) c.0) (ltb-false (end_of g) (length job) d.0);
    })
  where
    equal : (m n : ℕ) → m ≤ n → n ≤ m → m ≡ n
    equal m n x y = omega arith

-- it is within the limits, and ends where its lists do
pub read_within : (job : List ℕ) (h : Head) → read_of job ≡ Ok h → Within job h
unfolding read_of
read_within job h e =
    let a = passed (ltb most_bytes (length job)) TooLong most_bytes _ h e in
    let b = passed (leb 4096 (u16_at job 0)) UnknownBit 0 _ h a.1 in
    let numbers = came (numbers_of job (u16_at job 0)) (fitted (length job)) h b.1 in
    fitted-within job numbers.value h (ltb-false most_bytes (length job) a.0) numbers.rest_is

-- the numbers that come before the lists are no fewer than those of the recording
numbers_long : (job : List ℕ) (map : ℕ) (h : Head) → numbers_of job map ≡ Ok h → 27 ≤ h.lists
unfolding numbers_of recorded_at
numbers_long job map h e =
    let asked = came (settings_at job map 2) _ h e in
    let heard = came (segment_at job map asked.value.next) _ h asked.rest_is in
    let recorded = came (recorded_at job heard.value.next) _ h heard.rest_is in
    let domain = came (kind_field job (heard.value.next + 22) true 1) _ recorded.value recorded.part_is in
    omega (arith, ap lists_of recorded.rest_is, ap next_of domain.rest_is)
  where
    lists_of : Result Head Refusal → ℕ
    lists_of (Ok h) = h.lists
    lists_of (Err refusal) = 0

    next_of : Result (Field Recorded) Refusal → ℕ
    next_of (Ok f) = f.next
    next_of (Err refusal) = 0

-- it is no shorter than the numbers of its recording
pub read_long : (job : List ℕ) (h : Head) → read_of job ≡ Ok h → 27 ≤ length job
unfolding read_of fitted
read_long job h e =
    let a = passed (ltb most_bytes (length job)) TooLong most_bytes _ h e in
    let b = passed (leb 4096 (u16_at job 0)) UnknownBit 0 _ h a.1 in
    let numbers = came (numbers_of job (u16_at job 0)) (fitted (length job)) h b.1 in
    let c = passed (ltb (length job) numbers.value.lists) CutShort (length job) _ h numbers.rest_is in
    omega (arith, ltb-false (length job) numbers.value.lists c.0, numbers_long job (u16_at job 0) numbers.value numbers.part_is)

-- ---- the lists of a job that was read lie in it

module _ {job : List ℕ} {h : Head} (w : Within job h) where
  -- the values
  pub values_inside : h.lists + 4 * h.frames ≤ length job
  values_inside = go h.recording.domain h.lists h.frames (length job) w.to_the_end
    where
      go : (d : Domain) (at n len : ℕ) → at + lists_size d n ≡ len → at + 4 * n ≤ len
      go Decibels at n len e = omega (arith, e)
      go Scores at n len e = omega (arith, e)

  module _ (decibels : h.recording.domain ≡ Decibels) where
    -- flags and levels too
    decibels-end : h.lists + 13 * h.frames ≡ length job
    decibels-end = subst (λ (d : Domain). h.lists + lists_size d h.frames ≡ length job) decibels w.to_the_end

    -- the flags of decibels, behind the values
    pub flags_inside : h.lists + 4 * h.frames + h.frames ≤ length job
    flags_inside = omega (arith, decibels-end)

    -- the levels of decibels, behind the flags
    pub levels_inside : h.lists + 5 * h.frames + 8 * h.frames ≤ length job
    levels_inside = omega (arith, decibels-end)

-- ---- how long a job's lists are

module _ (job : List ℕ) (h : Head) where
  -- a value for each frame
  pub values_length : length (values_in job h) ≡ h.frames
  unfolding values_in
  values_length = tabulate-length _ h.frames

  -- a flag for each frame
  pub flags-length : length (flags_in job h) ≡ h.frames
  unfolding flags_in
  flags-length = go h.recording.domain h.lists h.frames
    where
      go : (d : Domain) (at n : ℕ) → length (flags_for job d at n) ≡ n
      go Decibels at n = tabulate-length _ n
      go Scores at n = length-replicate n 0

  -- a level for each frame of decibels, and none of scores
  pub levels-length : length (levels_in job h) ≡ level_count h.recording.domain h.frames
  unfolding levels_in
  levels-length = go h.recording.domain h.lists h.frames
    where
      go : (d : Domain) (at n : ℕ) → length (levels_for job d at n) ≡ level_count d n
      go Decibels at n = tabulate-length _ n
      go Scores at n = refl
