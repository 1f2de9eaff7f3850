-- What holds of every job, beyond document 01: a job that was written is read back, and every refusal of the reader is 19.
use Rattle.std.specs.Prelude.{◌≡◌, refl, true, List, [], ◌++◌, ℕ, ◌+◌, ◌-◌, ◌*◌, ◌%◌, ◌<◌, T, Float, length, drop, Ok}
use Rattle.std.proofs.Common.{sym, ap, subst, ◌∙◌, append-nil, arith, length-append, length-drop}
use Rattle.std.proofs.Math.Dec.{ltb→lt}
use Rattle.std.specs.Float.{binary32, binary64}
use Rattle.std.specs.Float.Ieee.{fits}
use Rattle.base_terms.specs.Lists.{tabulate, all_of}
use Rattle.base_terms.specs.Bytes.{bytes_of}
use Rattle.numbers_in.specs.Numbers.{number_of, byte_at, f32_at, f64_at}
use Rattle.numbers_in.specs.Bytes.{f32_bytes, f64_bytes, all_bytes}
use Rattle.numbers_in.specs.BytesLaws.{u16_ahead, byte_ahead, f32_ahead, f64_ahead, list_ahead, bytes_length, all_bytes-length}
use Rattle.grid.specs.declared.validate.Domain.{Domain}
use Rattle.grid.specs.declared.validate.Domain.TheVariants.{Decibels, Scores}
use Rattle.grid.specs.declared.validate.Recording.{Recording}
use Rattle.silence_list.specs.declared.config.SegmentConfig.{SegmentConfig}
use Rattle.plan_settings.specs.declared.config.PlanConfig.{PlanConfig}
use Rattle.path_pieces.specs.declared.mode.Mode.{Mode}
use Rattle.path_pieces.specs.declared.mode.Mode.TheVariants.{ByLength, ByCount}
use Rattle.job.specs.Answer.{fault_number}
use Rattle.job.specs.Fields.{refused, u64_field, f32_field, kind_field}
use Rattle.job.specs.Settings.{mode_at, gap_at, placement_at, weights_at, settings_at}
use Rattle.job.specs.Segment.{threshold_at, segment_at}
use Rattle.job.specs.Recorded.{recorded_at}
use Rattle.job.specs.Job.{numbers_of, lists_size, end_of, fitted, read_of, values_in, flags_for, flags_in, levels_for, levels_in, Asked, with_lists, job_of}
use Rattle.job.specs.JobLaws.{known_kinds, all_read}
use Rattle.job.specs.Encode.{map_of, is_byte, flags_and_levels, lists_bytes, ListsFit, fields_bytes, encode, Encodable}
use Rattle.job.specs.EncodeLaws.{bits_of, settings, segment, recorded}
use Rattle.job.specs.declared.answer.Head.{Head}
use Rattle.job.specs.declared.answer.Fault.{Fault}
use Rattle.job.specs.declared.answer.Fault.TheVariants.{TooLong, UnknownBit, UnknownKind, CutShort, TooManyFrames, BytesAfter}

-- ---- refusals

-- every fault has document 01's number, 19
pub fault_number_lem : (fault : Fault) → fault_number fault ≡ 19
fault_number_lem TooLong = refl
fault_number_lem UnknownBit = refl
fault_number_lem UnknownKind = refl
fault_number_lem CutShort = refl
fault_number_lem TooManyFrames = refl
fault_number_lem BytesAfter = refl

-- ---- the lists

module _ (s : List ℕ) where
  byte_step : (x at : ℕ) (rest : List ℕ) → T (is_byte x) → drop at s ≡ bytes_of 1 x ++ rest → (byte_at s at ≡ x) × (drop (at + 1) s ≡ rest)
  unfolding bytes_of
  byte_step x at rest h e = let p = byte_ahead s (x % 256) at rest e in (p.0 ∙ small, p.1)
    where
      small : x % 256 ≡ x
      small = omega (arith, ltb→lt x 256 h)

  -- the lists that are written are read back, whatever the domain
  module _ (at : ℕ) (values : List Float) (ok : all_of (fits binary32) values ≡ true) where
    lists_back : (d : Domain) (flags : List ℕ) (levels : List Float) → ListsFit d (length values) flags levels
        → drop at s ≡ all_bytes f32_bytes values ++ flags_and_levels d flags levels
        → (tabulate (λ (i : ℕ). f32_at s (at + 4 * i)) (length values) ≡ values) × (flags_for s d at (length values) ≡ flags)
        × (levels_for s d at (length values) ≡ levels)
    lists_back Scores flags levels f e =
        ((list_ahead s 4 (f32_at s) f32_bytes (fits binary32) (f32_ahead s) values at [] _ ok (λ i. refl) e).0, sym f.0, sym f.1)
    lists_back Decibels flags levels f e =
        let v = list_ahead s 4 (f32_at s) f32_bytes (fits binary32) (f32_ahead s) values at _ (λ (i : ℕ). f32_at s (at + 4 * i)) ok (λ i. refl) e in
        let g =
        list_ahead s 1 (byte_at s) (bytes_of 1) is_byte byte_step flags (at + 4 * length values) (all_bytes f64_bytes levels)
        (λ (i : ℕ). byte_at s (at + 4 * length values + i)) f.1 (λ i. ap (λ (k : ℕ). byte_at s k) (omega arith)) v.1
        in
        let l =
        list_ahead s 8 (f64_at s) f64_bytes (fits binary64) (f64_ahead s) levels (at + 5 * length values) []
        (λ (i : ℕ). f64_at s (at + 5 * length values + 8 * i)) f.3 (λ i. refl)
        (ap (λ (k : ℕ). drop k s) (moved (length flags) f.0) ∙ g.1 ∙ sym (append-nil (all_bytes f64_bytes levels)))
        in (
          v.0,
          subst (λ (n : ℕ). tabulate (λ (i : ℕ). byte_at s (at + 4 * length values + i)) n ≡ flags) f.0 g.0,
          subst (λ (n : ℕ). tabulate (λ (i : ℕ). f64_at s (at + 5 * length values + 8 * i)) n ≡ levels) f.2 l.0,
        )
      where
        moved : (n : ℕ) → n ≡ length values → at + 5 * length values ≡ at + 4 * length values + 1 * n
        moved n x = omega (arith, x)

-- how many bytes they take
lists_size_lem : (d : Domain) (values : List Float) (flags : List ℕ) (levels : List Float) → ListsFit d (length values) flags levels
    → length (all_bytes f32_bytes values ++ flags_and_levels d flags levels) ≡ lists_size d (length values)
lists_size_lem Scores values flags levels f =
    length-append (all_bytes f32_bytes values) [] ∙ sum _ 0 (all_bytes-length f32_bytes 4 (λ x. bytes_length 4 _) values) refl
  where
    sum : (a b : ℕ) → a ≡ 4 * length values → b ≡ 0 → a + b ≡ 4 * length values
    sum a b x y = omega (arith, x, y)
lists_size_lem Decibels values flags levels f =
    length-append (all_bytes f32_bytes values) (all_bytes (bytes_of 1) flags ++ all_bytes f64_bytes levels)
    ∙ ap (λ (n : ℕ). length (all_bytes f32_bytes values) + n) (length-append (all_bytes (bytes_of 1) flags) (all_bytes f64_bytes levels))
    ∙ sum _ _ _ (length flags) (length levels) (all_bytes-length f32_bytes 4 (λ x. bytes_length 4 _) values) (all_bytes-length (bytes_of 1) 1 (λ x. bytes_length 1 x) flags)
    (all_bytes-length f64_bytes 8 (λ x. bytes_length 8 _) levels) f.0 f.2
  where
    sum : (a b c m n : ℕ) → a ≡ 4 * length values → b ≡ 1 * m → c ≡ 8 * n → m ≡ length values → n ≡ length values
        → a + (b + c) ≡ 13 * length values
    sum a b c m n x y z u v = omega (arith, x, y, z, u, v)

-- ---- the whole

-- the head of a job that was written, with the lists behind it
with_lists_lem : (j : Asked) → Encodable j → (s : List ℕ) (h : Head) → h.recording ≡ j.recording → h.segment ≡ j.segment → h.settings ≡ j.settings
    → h.frames ≡ length j.values → drop h.lists s ≡ lists_bytes j → with_lists s h ≡ j
unfolding with_lists values_in flags_in levels_in
with_lists_lem j ok s h r g p n e =
    let l = lists_back s h.lists j.values ok.values_fit j.recording.domain j.flags j.levels ok.lists_fit e in
    same j r g p
    (subst (λ (k : ℕ). tabulate (λ (i : ℕ). f32_at s (h.lists + 4 * i)) k ≡ j.values) (sym n) l.0)
    (subst (λ (d : Domain). flags_for s d h.lists h.frames ≡ j.flags) (ap domain_in (sym r))
    (subst (λ (k : ℕ). flags_for s j.recording.domain h.lists k ≡ j.flags) (sym n) l.1))
    (subst (λ (d : Domain). levels_for s d h.lists h.frames ≡ j.levels) (ap domain_in (sym r))
    (subst (λ (k : ℕ). levels_for s j.recording.domain h.lists k ≡ j.levels) (sym n) l.2))
  where
    domain_in : Recording → Domain
    domain_in x = x.domain

    same : (j : Asked) {r : Recording} {g : SegmentConfig} {p : PlanConfig} {values : List Float} {flags : List ℕ} {levels : List Float}
        → r ≡ j.recording → g ≡ j.segment → p ≡ j.settings → values ≡ j.values → flags ≡ j.flags → levels ≡ j.levels
        → ◌≡◌ {A = Asked} (record { recording = r; segment = g; settings = p; values = values; flags = flags; levels = levels }) j
    same j a b c d e f = rw (a, b, c, d, e, f)

-- the head of a job that was written, whose lists begin at this place
abbrev head_of : Asked → ℕ → Head
head_of j at = record { recording = j.recording; segment = j.segment; settings = j.settings; frames = length j.values; lists = at }

-- four bytes stand behind a place, and so many more: all the bytes are known
all_bytes_lem : (len at four more : ℕ) → len - (at + 23) ≡ four + more → four ≡ 4 → at + 27 + more ≡ len
all_bytes_lem len at four more e f = omega (arith, e, f)

map_small : (mode : Mode) → map_of mode < 4096
map_small ByLength = omega arith
map_small (ByCount count) = omega arith

behind-map : (j : Asked) → drop 0 (encode j) ≡ bytes_of 2 (map_of j.settings.mode) ++ fields_bytes j
unfolding encode
behind-map j = refl

-- A job within the limits that is written as bytes and read again is the same job.
pub read_encoded : (j : Asked) → Encodable j → job_of (encode j) ≡ Ok j
unfolding job_of numbers_of
read_encoded j ok =
    let s = encode j in
    let map = map_of j.settings.mode in
    let bits = bits_of j.settings.mode in
    let m = u16_ahead s map 0 (fields_bytes j) (omega (arith, map_small j.settings.mode)) (behind-map j) in
    let a = settings s map bits j.settings 2 _ refl ok.settings_fit ok.weights_fit m.1 in
    let b = segment s map bits j.segment a.next _ ok.segment_fits a.behind in
    let c = recorded s j.recording (length j.values) b.next (lists_bytes j) ok.recording_fits ok.few_frames b.behind in
    let behind = sym (length-drop (b.next + 23) s) ∙ ap length c.1 ∙ length-append (bytes_of 4 (length j.values)) (lists_bytes j) in
    let size = lists_size_lem j.recording.domain j.values j.flags j.levels ok.lists_fit in
    let len = all_bytes_lem (length s) b.next _ _ behind (bytes_length 4 (length j.values)) in
    let h = head_of j (b.next + 27) in
    let numbers : numbers_of s map ≡ Ok h = rw (a.part_is, b.part_is, c.0) in
    let end = ap (λ (k : ℕ). h.lists + k) (sym size) ∙ len in
    let whole = all_read (length s) h (omega (arith, len)) (omega (arith, ok.few_frames)) (end_of h) refl (omega (arith, end)) (omega (arith, end)) in
    let read = known_kinds s ok.few_bytes map (sym m.0) (map_small j.settings.mode) h numbers in
    rw (← read, ← whole) (ap Ok (with_lists_lem j ok s h refl refl refl refl c.2))

-- ---- an empty job

-- it is cut short at its end, which is its beginning
pub empty_job : read_of [] ≡ refused CutShort 0
unfolding read_of numbers_of fitted settings_at mode_at gap_at placement_at weights_at segment_at threshold_at recorded_at u64_field f32_field kind_field number_of
empty_job = refl
