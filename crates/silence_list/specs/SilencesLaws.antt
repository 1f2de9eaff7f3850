-- One law for each end of the operation "silence list", and how the code comes to its silences.
use Rattle.std.specs.Prelude.{◌≡◌, List, ℕ, ◌/◌, ◌≤◌, ◌<◌, Float, length, take, Ok, Err}
use Rattle.std.proofs.Common.{ap, ◌∙◌, arith, length-take, le-leb}
use Rattle.std.proofs.lemmas.Bool.{lt-leb}
use Rattle.base_terms.specs.Lists.{onto, filled}
use Rattle.base_terms.specs.Work.{Work, work_of, cleared}
use Rattle.base_code.specs.FrontLaws.{onto-take}
use Rattle.grid.specs.Durations.{frames_in}
use Rattle.grid.specs.declared.validate.Recording.{Recording}
use Rattle.silence_levels.specs.Levels.{thresholds_of}
use Rattle.silence_levels.specs.declared.threshold.Thresholds.{Thresholds}
use Rattle.silence_runs.specs.Sounds.{sounds_of}
use Rattle.silence_runs.specs.Silences.{silences_of}
use Rattle.silence_list.specs.Refusal.{first_refusal_of}
use Rattle.silence_list.specs.Silences.{sounds_in, silences_in, end_of, silences_handed_out, silence_list_of}
use Rattle.silence_list.specs.declared.config.SegmentConfig.{SegmentConfig}
use Rattle.silence_list.specs.declared.refusal.Refusal.{Refusal}
use Rattle.silence_list.specs.declared.list.Error.TheVariants.{Refused, ShortOutput}

-- ---- handed out

module _ (silences out : List ℕ) (work after : Work) (e : after ≡ cleared work) where
  -- the output is too short
  pub handed-short : length out < length silences → end_of (Err ShortOutput) out after ≡ silences_handed_out silences out work
  unfolding silences_handed_out
  handed-short h = rw (lt-leb (length silences) (length out) h, e)

  -- it has room
  pub handed-found : (n : ℕ) (written : List ℕ) → length silences ≡ n → n ≤ length out → written ≡ onto silences out
      → end_of (Ok (n / 2)) written after ≡ silences_handed_out silences out work
  unfolding silences_handed_out
  handed-found n written l h w = rw (le-leb (length silences) (length out) (omega arith), e, w, ← l)

-- ---- the silences of a recording

module _ (r : Recording) (c : SegmentConfig) (values : List Float) (flags : List ℕ) (t : Thresholds) (min_sound min_silence : ℕ)
    (e : t ≡ thresholds_of r.domain c.threshold values flags)
    (f : min_sound ≡ frames_in r.frame_rate r.hop c.min_sound) (g : min_silence ≡ frames_in r.frame_rate r.hop c.min_silence)
  where
    silences_by : silences_of (sounds_of t.on t.off min_sound min_silence values flags) ≡ silences_in r c values flags
    unfolding silences_in sounds_in thresholds_of
    silences_by = rw (e, f, g)

    -- at the front of a list, by their number
    pub silences-front : (list before : List ℕ) (n : ℕ) → n ≡ length (silences_of (sounds_of t.on t.off min_sound min_silence values flags))
        → list ≡ onto (silences_of (sounds_of t.on t.off min_sound min_silence values flags)) before
        → (n ≡ length (silences_in r c values flags)) × (take n list ≡ silences_in r c values flags)
    silences-front list before n l h =
        (l ∙ ap length silences_by, rw (h, l) (onto-take (silences_of (sounds_of t.on t.off min_sound min_silence values flags)) before ∙ silences_by))

-- what is in front of a list is not longer than it
pub front_fits : (n : ℕ) (list silences : List ℕ) → n ≡ length silences → take n list ≡ silences → n ≤ length list
front_fits n list silences l e = omega (arith, length-take n list, ap length e)

-- ---- the operation

module _ (r : Recording) (c : SegmentConfig) (values : List Float) (flags : List ℕ) (levels : List Float) (out : List ℕ) (work : Work) where
  -- where a test before 12 fails, every list is as it was
  pub list_refused : (x : Refusal) → Err x ≡ first_refusal_of r c values flags levels (length work.u32s) (length work.u64s) (length work.f64s)
      → end_of (Err (Refused x)) out work ≡ silence_list_of r c values flags levels out work
  unfolding silence_list_of
  list_refused x e = rw (← e)

  -- where none fails, the silences are handed out
  pub list_handed : Ok tt ≡ first_refusal_of r c values flags levels (length work.u32s) (length work.u64s) (length work.f64s)
      → silences_handed_out (silences_in r c values flags) out work ≡ silence_list_of r c values flags levels out work
  unfolding silence_list_of
  list_handed e = rw (← e)

  -- the silences at the front of the first work list, of which only the length counts beside them
  pub list_front : (front : List ℕ) (n : ℕ) → length front ≡ length work.u32s → take n front ≡ silences_in r c values flags
      → Ok tt ≡ first_refusal_of r c values flags levels (length work.u32s) (length work.u64s) (length work.f64s)
      → silences_handed_out (take n front) out (work_of front work.u64s work.f64s) ≡ silence_list_of r c values flags levels out work
  unfolding silences_handed_out filled
  list_front front n l e f = rw (l, e) (list_handed f)
