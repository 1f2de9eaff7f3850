-- A job that was written is read back, one field after another. `drop at s` is what stands ahead of a place, as in numbers_in.
use Rattle.std.proofs.Math.Path.{◌≡◌, refl}
use Rattle.std.proofs.Common.{ap, subst, arith}
use Rattle.std.specs.Prelude.{Bool, false, List, ◌∷◌, ◌++◌, ℕ, ◌+◌, ◌≤◌, Float, drop, Result, Ok}
use Rattle.std.proofs.Math.Bool.{true}
use borrow.Author.Tests.{le-leb}
use Rattle.std.proofs.Math.Dec.{eqb, ltb}
use Rattle.base_terms.specs.Limits.{IsU64}
use Rattle.base_terms.specs.Bytes.{bytes_of}
use Rattle.numbers_in.specs.Bytes.{f32_bytes}
use Rattle.numbers_in.specs.BytesLaws.{u64_ahead, u32_ahead, u16_ahead, byte_ahead, f32_ahead, f64_ahead}
use Rattle.grid.specs.declared.validate.Domain.{Domain}
use Rattle.grid.specs.declared.validate.Domain.TheVariants.{Decibels, Scores}
use Rattle.grid.specs.declared.validate.Recording.{Recording}
use Rattle.silence_levels.specs.declared.threshold.Threshold.{Threshold}
use Rattle.silence_levels.specs.declared.threshold.Threshold.TheVariants.{Auto, Abs, BelowRef}
use Rattle.silence_list.specs.declared.config.SegmentConfig.{SegmentConfig}
use Rattle.path_pieces.specs.declared.mode.Mode.{Mode}
use Rattle.path_pieces.specs.declared.mode.Mode.TheVariants.{ByLength, ByCount}
use Rattle.path_pieces.specs.declared.weights.Weights.{Weights}
use Rattle.plan_settings.specs.declared.config.Gap.{Gap}
use Rattle.plan_settings.specs.declared.config.Gap.TheVariants.{Keep, Drop}
use Rattle.plan_settings.specs.declared.config.Placement.{Placement}
use Rattle.plan_settings.specs.declared.config.Placement.TheVariants.{Quietest, Center, Ratio}
use Rattle.plan_settings.specs.declared.config.PlanConfig.{PlanConfig}
use Rattle.job.specs.Limits.{most_frames}
use Rattle.job.specs.Fields.{Field, field, stands, u64_field, f32_field, kind_field}
use Rattle.kinds.specs.Flagged.{domain_of}
use Rattle.kinds.specs.NumberedLaws.{threshold_auto, threshold_absolute, threshold_below, placement_quietest, placement_center, placement_ratio}
use Rattle.job.specs.Settings.{mode_at, gap_at, placement_at, weights_in, weights_at, settings_at}
use Rattle.job.specs.Segment.{threshold_at, segment_at}
use Rattle.job.specs.Recorded.{recorded_at}
use Rattle.job.specs.Encode.{map_of, lengths_then, count_then, gap_byte, placement_then, weights_then, threshold_then, durations_then, domain_byte, recorded_then}
use Rattle.job.specs.Encode.{IsF32, CountFits, PlacementFits, ThresholdFits, SettingsFit, WeightsFit, SegmentFits, RecordingFits}
use Rattle.job.specs.declared.answer.Refusal.{Refusal}

-- the bits that stand in every map that is written
pub record Bits (map : ℕ) : Type 0 where
  pub bit0 : stands map 0 ≡ true
  pub bit1 : stands map 1 ≡ true
  pub bit2 : stands map 2 ≡ true
  pub bit4 : stands map 4 ≡ true
  pub bit5 : stands map 5 ≡ true
  pub bit6 : stands map 6 ≡ true
  pub bit7 : stands map 7 ≡ true
  pub bit8 : stands map 8 ≡ true
  pub bit9 : stands map 9 ≡ true
  pub bit10 : stands map 10 ≡ true
  pub bit11 : stands map 11 ≡ true

-- as they do in the map of either mode
pub bits_of : (mode : Mode) → Bits (map_of mode)
bits_of ByLength =
    record { bit0 = refl; bit1 = refl; bit2 = refl; bit4 = refl; bit5 = refl; bit6 = refl; bit7 = refl; bit8 = refl; bit9 = refl; bit10 = refl; bit11 = refl }
bits_of (ByCount count) =
    record { bit0 = refl; bit1 = refl; bit2 = refl; bit4 = refl; bit5 = refl; bit6 = refl; bit7 = refl; bit8 = refl; bit9 = refl; bit10 = refl; bit11 = refl }

-- a part with a kind in it was read as this, and behind it stands the rest
pub record ReadBack {A : Type 0} (s : List ℕ) (part : Result (Field A) Refusal) (value : A) (rest : List ℕ) : Type 0 where
  pub next : ℕ
  pub part_is : part ≡ Ok (field value next)
  pub behind : drop next s ≡ rest

module _ (s : List ℕ) where
  -- the same place by another sum
  on : {xs : List ℕ} (m n : ℕ) → m ≡ n → drop m s ≡ xs → drop n s ≡ xs
  on {xs} m n x y = subst (λ (k : ℕ). drop k s ≡ xs) x y

  -- ---- a field of each sort

  u64_field_lem : (n at absent : ℕ) (present : Bool) (rest : List ℕ) → present ≡ true → IsU64 n → drop at s ≡ bytes_of 8 n ++ rest
      → ((u64_field s at present absent).value ≡ n) × (drop (u64_field s at present absent).next s ≡ rest)
  unfolding u64_field
  u64_field_lem n at absent present rest p h e = rw p (u64_ahead s n at rest h e)

  f32_field_lem : (x : Float) (at : ℕ) (present : Bool) (rest : List ℕ) → present ≡ true → IsF32 x → drop at s ≡ f32_bytes x ++ rest
      → ((f32_field s at present).value ≡ x) × (drop (f32_field s at present).next s ≡ rest)
  unfolding f32_field
  f32_field_lem x at present rest p h e = rw p (f32_ahead s x at rest h e)

  f32_absent : (at : ℕ) (present : Bool) (rest : List ℕ) → present ≡ false → drop at s ≡ rest → drop (f32_field s at present).next s ≡ rest
  unfolding f32_field
  f32_absent at present rest p e = rw p e

  kind_field_lem : (kind at most : ℕ) (present : Bool) (rest : List ℕ) → present ≡ true → kind ≤ most → drop at s ≡ kind ∷ rest
      → ReadBack s (kind_field s at present most) kind rest
  unfolding kind_field
  kind_field_lem kind at most present rest p h e =
      let b = byte_ahead s kind at rest e in
      record { next = at + 1; part_is = rw (p, b.0, le-leb kind most h); behind = b.1 }

  -- ---- bits 0 to 6

  module _ (map : ℕ) (bits : Bits map) where
    placement : (place : Placement) (at : ℕ) (rest : List ℕ) → PlacementFits place → drop at s ≡ placement_then place rest
        → ReadBack s (placement_at s map at) place rest
    unfolding placement_at
    placement Quietest at rest f e =
        let k = kind_field_lem 0 at 2 (stands map 5) rest bits.bit5 (omega arith) e in
        record { next = _; part_is = rw (k.part_is, placement_quietest _); behind = f32_absent k.next (eqb 0 2) rest refl k.behind }
    placement Center at rest f e =
        let k = kind_field_lem 1 at 2 (stands map 5) rest bits.bit5 (omega arith) e in
        record { next = _; part_is = rw (k.part_is, placement_center _); behind = f32_absent k.next (eqb 1 2) rest refl k.behind }
    placement (Ratio ratio) at rest f e =
        let k = kind_field_lem 2 at 2 (stands map 5) (f32_bytes ratio ++ rest) bits.bit5 (omega arith) e in
        let x = f32_field_lem ratio k.next (eqb 2 2) rest refl f k.behind in
        record { next = _; part_is = rw (k.part_is, placement_ratio _, x.0); behind = x.1 }

    -- the count stands where the mode has one
    mode : (asked : Mode) (at : ℕ) (rest : List ℕ) → map ≡ map_of asked → CountFits asked → drop at s ≡ count_then asked rest
        → ((mode_at s map at).value ≡ asked) × (drop (mode_at s map at).next s ≡ rest)
    unfolding mode_at
    mode ByLength at rest m f e = rw m (refl, e)
    mode (ByCount count) at rest m f e = let n = u32_ahead s count at rest f e in rw m (ap ByCount n.0, n.1)

    gap : (asked : Gap) (at : ℕ) (rest : List ℕ) → drop at s ≡ gap_byte asked ∷ rest → ReadBack s (gap_at s map at) asked rest
    unfolding gap_at
    gap Keep at rest e =
        let k = kind_field_lem 0 at 1 (stands map 4) rest bits.bit4 (omega arith) e in
        record { next = k.next; part_is = rw k.part_is; behind = k.behind }
    gap Drop at rest e =
        let k = kind_field_lem 1 at 1 (stands map 4) rest bits.bit4 (omega arith) e in
        record { next = k.next; part_is = rw k.part_is; behind = k.behind }

    weights : (w : Weights) (at : ℕ) (rest : List ℕ) → WeightsFit w → drop at s ≡ weights_then w rest
        → ((weights_at s map at).value ≡ w) × (drop (weights_at s map at).next s ≡ rest)
    unfolding weights_at weights_in
    weights w at rest f e =
        let a = f64_ahead s w.cut at _ f.cut_fits e in
        let b = f64_ahead s w.level (at + 8) _ f.level_fits a.1 in
        let c = f64_ahead s w.pause (at + 16) _ f.pause_fits (on (at + 8 + 8) (at + 16) (omega arith) b.1) in
        let d = u64_ahead s w.pause_ref (at + 24) _ f.reference_fits (on (at + 16 + 8) (at + 24) (omega arith) c.1) in
        let g = f64_ahead s w.target (at + 32) _ f.target_fits (on (at + 24 + 8) (at + 32) (omega arith) d.1) in
        let h = f64_ahead s w.short (at + 40) rest f.short_fits (on (at + 32 + 8) (at + 40) (omega arith) g.1) in
        rw bits.bit6 (rw (a.0, b.0, c.0, d.0, g.0, h.0), on (at + 40 + 8) (at + 48) (omega arith) h.1)

    pub settings : (p : PlanConfig) (at : ℕ) (rest : List ℕ) → map ≡ map_of p.mode → SettingsFit p → WeightsFit p.weights
        → drop at s ≡ lengths_then p (count_then p.mode (gap_byte p.gap ∷ placement_then p.placement (weights_then p.weights rest)))
        → ReadBack s (settings_at s map at) p rest
    unfolding settings_at
    settings p at rest m f g e =
        let a = u64_field_lem p.min at 5000000000 (stands map 0) _ bits.bit0 f.min_fits e in
        let b = u64_field_lem p.target _ 15000000000 (stands map 1) _ bits.bit1 f.target_fits a.1 in
        let c = u64_field_lem p.max _ 30000000000 (stands map 2) _ bits.bit2 f.max_fits b.1 in
        let d = mode p.mode _ _ m f.count_fits c.1 in
        let k = gap p.gap _ _ d.1 in
        let l = placement p.placement _ _ f.placement_fits k.behind in
        let w = weights p.weights _ rest g l.behind in
        record { next = _; part_is = rw (k.part_is, l.part_is, a.0, b.0, c.0, d.0, w.0); behind = w.1 }

    -- ---- bits 7 to 11

    threshold : (t : Threshold) (at : ℕ) (rest : List ℕ) → ThresholdFits t → drop at s ≡ threshold_then t rest
        → ReadBack s (threshold_at s map at) t rest
    unfolding threshold_at
    threshold Auto at rest f e =
        let k = kind_field_lem 0 at 2 (stands map 7) rest bits.bit7 (omega arith) e in
        record { next = _; part_is = rw (k.part_is, threshold_auto _); behind = f32_absent k.next (ltb 0 0) rest refl k.behind }
    threshold (Abs level) at rest f e =
        let k = kind_field_lem 1 at 2 (stands map 7) (f32_bytes level ++ rest) bits.bit7 (omega arith) e in
        let x = f32_field_lem level k.next (ltb 0 1) rest refl f k.behind in
        record { next = _; part_is = rw (k.part_is, threshold_absolute _, x.0); behind = x.1 }
    threshold (BelowRef level) at rest f e =
        let k = kind_field_lem 2 at 2 (stands map 7) (f32_bytes level ++ rest) bits.bit7 (omega arith) e in
        let x = f32_field_lem level k.next (ltb 0 2) rest refl f k.behind in
        record { next = _; part_is = rw (k.part_is, threshold_below _, x.0); behind = x.1 }

    pub segment : (g : SegmentConfig) (at : ℕ) (rest : List ℕ) → SegmentFits g → drop at s ≡ threshold_then g.threshold (durations_then g rest)
        → ReadBack s (segment_at s map at) g rest
    unfolding segment_at
    segment g at rest f e =
        let t = threshold g.threshold at _ f.threshold_fits e in
        let a = u64_field_lem g.min_silence _ 250000000 (stands map 8) _ bits.bit8 f.silence_fits t.behind in
        let b = u64_field_lem g.min_sound _ 100000000 (stands map 9) _ bits.bit9 f.sound_fits a.1 in
        let c = u64_field_lem g.pre _ 100000000 (stands map 10) _ bits.bit10 f.pre_fits b.1 in
        let d = u64_field_lem g.tail _ 200000000 (stands map 11) rest bits.bit11 f.tail_fits c.1 in
        record { next = _; part_is = rw (t.part_is, a.0, b.0, c.0, d.0); behind = d.1 }

  -- ---- the recording

  domain_is : (d : Domain) → domain_of (ltb 0 (domain_byte d)) ≡ d
  domain_is Scores = refl
  domain_is Decibels = refl

  domain_known : (d : Domain) → domain_byte d ≤ 1
  domain_known Scores = omega arith
  domain_known Decibels = omega arith

  pub recorded : (r : Recording) (frames at : ℕ) (rest : List ℕ) → RecordingFits r → frames ≤ most_frames → drop at s ≡ recorded_then r frames rest
      → (recorded_at s at ≡ Ok (field (record { recording = r; frames = frames }) (at + 27)))
      × (drop (at + 23) s ≡ bytes_of 4 frames ++ rest) × (drop (at + 27) s ≡ rest)
  unfolding recorded_at
  recorded r frames at rest f few e =
      let a = u32_ahead s r.sample_rate at _ f.rate_fits e in
      let b = u16_ahead s r.channels (at + 4) _ f.channels_fit a.1 in
      let c = u32_ahead s r.frame_rate (at + 6) _ f.frame_rate_fits (on (at + 4 + 2) (at + 6) (omega arith) b.1) in
      let d = u32_ahead s r.hop (at + 10) _ f.hop_fits (on (at + 6 + 4) (at + 10) (omega arith) c.1) in
      let l = u64_ahead s r.len (at + 14) _ f.length_fits (on (at + 10 + 4) (at + 14) (omega arith) d.1) in
      let k = kind_field_lem (domain_byte r.domain) (at + 22) 1 true _ refl (domain_known r.domain) (on (at + 14 + 8) (at + 22) (omega arith) l.1) in
      let n = byte_ahead s (domain_byte r.domain) (at + 22) _ (on (at + 14 + 8) (at + 22) (omega arith) l.1) in
      let behind = on (at + 22 + 1) (at + 23) (omega arith) n.1 in
      let g = u32_ahead s frames (at + 23) rest (omega arith) behind in (
        rw (k.part_is, a.0, b.0, c.0, d.0, l.0, g.0, domain_is r.domain),
        behind,
        on (at + 23 + 4) (at + 27) (omega arith) g.1,
      )
