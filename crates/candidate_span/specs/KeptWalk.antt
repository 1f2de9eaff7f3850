-- What holds while a loop takes the frames of one gap after another from those of the span.
use Rattle.std.specs.Prelude.{◌≡◌, refl, ℕ, suc, ◌+◌, ◌-◌, ◌*◌, ◌≤◌, ◌<◌, List, [], ◌∷◌, length, get_or, drop}
use Rattle.std.proofs.Common.{ap, ◌∙◌, arith, drop-cons}
use Rattle.std.proofs.Math.ListN.{length-drop}
use Rattle.plan_settings.specs.declared.config.Gap.TheVariants.{Drop}
use Rattle.candidate_span.specs.declared.padding.Padding.{Padding}
use Rattle.std.specs.Simd.{first_chunks}
use Rattle.candidate_span.specs.Listed.{silence_count}
use Rattle.candidate_span.specs.ListedLaws.{pair_at}
use Rattle.candidate_span.specs.Gaps.{inner_gaps, gaps_of, gap_width, dropped}
use Rattle.candidate_span.specs.GapsLaws.{dropped-first}
use Rattle.candidate_span.specs.Kept.{kept_frames}

-- fewer than two numbers are no silence
no_pair : (p : Padding) (ss : List ℕ) → length ss ≤ 1 → dropped (inner_gaps p ss) ≡ 0
unfolding inner_gaps dropped
no_pair p [] h = refl
no_pair p (s ∷ []) h = refl
no_pair p (s ∷ (e ∷ ss)) h = absurd (omega arith)

-- the frames of the first i silences' gaps are taken from those of the span, which leaves `kept`
pub record GapsTaken (p : Padding) (first last : ℕ) (ss : List ℕ) (kept i : ℕ) : Type 0 where
  pub within : i ≤ silence_count ss
  pub rest : kept - dropped (inner_gaps p (drop (2 * i) ss)) ≡ kept_frames first (inner_gaps p ss) last

-- before the first silence all frames of the span are left
pub no_gap_taken : (p : Padding) (first last : ℕ) (ss : List ℕ) (kept : ℕ) → kept ≡ last - first → GapsTaken p first last ss kept 0
unfolding kept_frames
no_gap_taken p first last ss kept e = record { within = omega arith; rest = omega arith }

module _ (p : Padding) (first last : ℕ) (ss : List ℕ) (kept i : ℕ) (w : GapsTaken p first last ss kept i) where
  -- the gap of silence i
  cut : i < silence_count ss → dropped (inner_gaps p (drop (2 * i) ss)) ≡ gap_width p (get_or ss (2 * i) 0) (get_or ss (2 * i + 1) 0) + dropped (inner_gaps p (drop (2 * (i + 1)) ss))
  cut h =
      let e : suc (2 * i) ≡ 2 * i + 1 = omega arith in
      let f : suc (2 * i + 1) ≡ 2 * (i + 1) = omega arith in
      ap (λ (l : List ℕ). dropped (inner_gaps p l)) (drop-cons ss (2 * i) 0 (omega arith) ∙ ap (λ (k : ℕ). get_or ss (2 * i) 0 ∷ drop k ss) e
      ∙ ap (λ (l : List ℕ). get_or ss (2 * i) 0 ∷ l) (drop-cons ss (2 * i + 1) 0 (omega arith) ∙ ap (λ (k : ℕ). get_or ss (2 * i + 1) 0 ∷ drop k ss) f))
      ∙ dropped-first p (get_or ss (2 * i) 0) (get_or ss (2 * i + 1) 0) (drop (2 * (i + 1)) ss)

  -- the gap of the next pair is taken too
  pub next_gap_taken : (pairs : List (List ℕ)) (d : List ℕ) (width kept' : ℕ) → pairs ≡ first_chunks 2 (silence_count ss) ss → i < silence_count ss
      → width ≡ gap_width p (get_or (get_or pairs i d) 0 0) (get_or (get_or pairs i d) 1 0) → kept' ≡ kept - width → GapsTaken p first last ss kept' (i + 1)
  next_gap_taken pairs d width kept' is h e k =
      let even : 2 * i + 0 ≡ 2 * i = omega arith in
      let start : get_or (get_or pairs i d) 0 0 ≡ get_or ss (2 * i) 0 = rw (is, ← even) (pair_at (silence_count ss) ss i 0 d h (omega arith) (omega arith)) in
      let end : get_or (get_or pairs i d) 1 0 ≡ get_or ss (2 * i + 1) 0 = rw is (pair_at (silence_count ss) ss i 1 d h (omega arith) (omega arith)) in
      let same : width ≡ gap_width p (get_or ss (2 * i) 0) (get_or ss (2 * i + 1) 0) = rw (← start, ← end) e in
      record { within = omega arith; rest = omega (arith, w.rest, cut h, same, k) }

  -- after the last silence the kept frames are left
  pub all_gaps_taken : silence_count ss ≤ i → kept ≡ kept_frames first (gaps_of Drop p ss) last
  unfolding gaps_of
  all_gaps_taken h = omega (arith, w.rest, no_pair p (drop (2 * i) ss) (omega (arith, w.within, length-drop (2 * i) ss)))
