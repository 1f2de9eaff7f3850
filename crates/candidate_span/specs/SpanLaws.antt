-- The ends of a span that is not empty are in order, and each inner silence lies strictly inside it.
use Rattle.std.specs.Prelude.{◌≡◌, refl, Bool, true, false, ◌&&◌, cond, List, Option, Some, None, ℕ, zero, suc, ◌+◌, ◌-◌, ◌≤◌, ◌<◌, min, eqb, ltb}
use Rattle.std.proofs.Common.{sym, ap, subst, ◌∙◌, true≢false, arith, ltb-true, eqb-true, lt-ltb, eq-eqb, pos_of_ne-zero}
use Rattle.std.proofs.Math.Logic.{inl, inr}
use Rattle.std.proofs.lemmas.Bool.{eqb-false}
use Rattle.std.proofs.Math.Numerals.{lt_of_le_of_ne}
use Rattle.base_laws.specs.Tests.{both, neither, lt_or_le, tested}
use Rattle.plan_settings.specs.declared.config.Gap.{Gap}
use Rattle.plan_settings.specs.declared.config.Gap.TheVariants.{Keep, Drop}
use Rattle.candidate_span.specs.declared.ends.SpanEnds.{SpanEnds}
use Rattle.candidate_span.specs.declared.padding.Padding.{Padding}
use Rattle.candidate_span.specs.Listed.{silence_count, start_at, end_at}
use Rattle.candidate_span.specs.ListedLaws.{Listed, listed-own, listed_apart, listed-within}
use Rattle.candidate_span.specs.Span.{is_leading, is_trailing, all_silent, empty_span, first_of, last_of, ends_of}

-- a span of n frames that is not empty, over a list of silences
pub record Spanned (gap : Gap) (n : ℕ) (ss : List ℕ) : Type 0 where
  pub listed : Listed n ss
  pub some : empty_span gap n ss ≡ false

-- ---- leading and trailing silence

-- there is a silence, and its end stands where it is sought; or not so
pub by_end : (many at end : ℕ) (P : Bool → Type 0) → (0 < many → at ≡ end → P true) → ((0 < many → at ≡ end → ⊥) → P false) → P (ltb 0 many && eqb at end)
by_end many at end P there elsewhere = elim (tested (ltb 0 many && eqb at end)) [
  | inl e ↦ let p = both (ltb 0 many) (eqb at end) e in rw e (there (ltb-true 0 many p.0) (eqb-true at end p.1))
  | inr e ↦ rw e (elsewhere (λ h q. true≢false (rw (lt-ltb 0 many h, eq-eqb at end q) at e)))
]

-- the first silence starts with the recording, or the first frame sounds
pub data Leading (p : Padding) (ss : List ℕ) (first : ℕ) : Type 0 where
  led : 0 < silence_count ss → start_at ss 0 ≡ 0 → first ≡ end_at ss 0 - p.pre → Leading p ss first
  unled : (0 < silence_count ss → start_at ss 0 ≡ 0 → ⊥) → first ≡ 0 → Leading p ss first

-- with gaps dropped, one of the two holds of the span's first boundary
pub leading : (p : Padding) (ss : List ℕ) → Leading p ss (first_of Drop p ss)
unfolding first_of is_leading
leading p ss = by_end (silence_count ss) (start_at ss 0) 0 (λ t. Leading p ss (cond t (end_at ss 0 - p.pre) 0)) (λ h e. led h e refl) (λ n. unled n refl)

-- the last silence ends with the recording, or the last frame sounds
pub data Trailing (p : Padding) (ss : List ℕ) (last : ℕ) : Type 0 where
  trailed : 0 < silence_count ss → end_at ss (silence_count ss - 1) ≡ p.frames → last ≡ min (start_at ss (silence_count ss - 1) + p.tail) p.frames → Trailing p ss last
  untrailed : (0 < silence_count ss → end_at ss (silence_count ss - 1) ≡ p.frames → ⊥) → last ≡ p.frames → Trailing p ss last

-- with gaps dropped, one of the two holds of the span's last boundary
pub trailing : (p : Padding) (ss : List ℕ) → Trailing p ss (last_of Drop p ss)
unfolding last_of is_trailing
trailing p ss =
    by_end (silence_count ss) (end_at ss (silence_count ss - 1)) p.frames (λ t. Trailing p ss (cond t (min (start_at ss (silence_count ss - 1) + p.tail) p.frames) p.frames))
    (λ h e. trailed h e refl) (λ s. untrailed s refl)

-- ---- what a span that is not empty has

-- frames
pub span-frames : (gap : Gap) (n : ℕ) (ss : List ℕ) → empty_span gap n ss ≡ false → 0 < n
unfolding empty_span
span-frames Keep n ss e = pos_of_ne-zero (eqb-false n 0 e)
span-frames Drop n ss e = pos_of_ne-zero (eqb-false n 0 (neither (eqb n 0) (all_silent n ss) e).0)

-- with gaps dropped, sound
pub span_sounds : (n : ℕ) (ss : List ℕ) → empty_span Drop n ss ≡ false → 0 < silence_count ss → start_at ss 0 ≡ 0 → end_at ss 0 ≡ n → ⊥
unfolding empty_span all_silent is_leading
span_sounds n ss e h s t =
    true≢false (rw (lt-ltb 0 (silence_count ss) h, eq-eqb (start_at ss 0) 0 s, eq-eqb (end_at ss 0) n t) at (neither (eqb n 0) (all_silent n ss) e).1)

-- ---- the ends

zero_is : (i : ℕ) → i ≤ 0 → i ≡ 0
zero_is i l = omega arith

module _ (p : Padding) (ss : List ℕ) (w : Spanned Drop p.frames ss) where
  -- the last silence starts after a leading one
  after_leading : 0 < silence_count ss → start_at ss 0 ≡ 0 → end_at ss (silence_count ss - 1) ≡ p.frames → end_at ss 0 < start_at ss (silence_count ss - 1)
  after_leading h s t = elim (lt_or_le 0 (silence_count ss - 1)) [
    | inl q ↦ listed_apart w.listed 0 (silence_count ss - 1) q (omega arith)
    | inr q ↦ absurd (span_sounds p.frames ss w.some h s (subst (λ (i : ℕ). end_at ss i ≡ p.frames) (zero_is (silence_count ss - 1) q) t))
  ]

  -- and after the first frame where that one sounds
  after_sound : 0 < silence_count ss → (start_at ss 0 ≡ 0 → ⊥) → 0 < start_at ss (silence_count ss - 1)
  after_sound h s = elim (lt_or_le 0 (silence_count ss - 1)) [
    | inl q ↦ omega (arith, listed_apart w.listed 0 (silence_count ss - 1) q (omega arith))
    | inr q ↦ pos_of_ne-zero {n = start_at ss (silence_count ss - 1)} (λ e. s (subst (λ (i : ℕ). start_at ss i ≡ 0) (zero_is (silence_count ss - 1) q) e))
  ]

  last-own : 0 < silence_count ss → start_at ss (silence_count ss - 1) < end_at ss (silence_count ss - 1)
  last-own h = listed-own w.listed (silence_count ss - 1) (omega arith)

  order : (first last : ℕ) → Leading p ss first → Trailing p ss last → (first < last) × (last ≤ p.frames)
  order first last (led h s e) (trailed k t f) = (omega (arith, after_leading h s t, last-own h), omega arith)
  order first last (led h s e) (untrailed t f) = (omega (arith, lt_of_le_of_ne (listed-within w.listed 0 h) (span_sounds p.frames ss w.some h s)), omega arith)
  order first last (unled h e) (trailed k t f) = (omega (arith, after_sound k (h k), last-own k), omega arith)
  order first last (unled h e) (untrailed t f) = (omega (arith, span-frames Drop p.frames ss w.some), omega arith)

  -- an inner silence starts after the span's first boundary
  starts_inside : (first i : ℕ) → Leading p ss first → i < silence_count ss → (start_at ss i ≡ 0 → ⊥) → first < start_at ss i
  starts_inside first i (unled h e) l s = omega (arith, pos_of_ne-zero s)
  starts_inside first zero (led h t e) l s = absurd (s t)
  starts_inside first (suc i) (led h t e) l s = omega (arith, listed_apart w.listed 0 (suc i) (omega arith) l)

  -- and ends before its last
  ends_inside : (last i : ℕ) → Trailing p ss last → i < silence_count ss → (end_at ss i ≡ p.frames → ⊥) → end_at ss i < last
  ends_inside last i (untrailed h e) l s = omega (arith, lt_of_le_of_ne (listed-within w.listed i l) s)
  ends_inside last i (trailed h t e) l s = elim (lt_or_le i (silence_count ss - 1)) [
    | inl q ↦ omega (arith, listed_apart w.listed i (silence_count ss - 1) q (omega arith), last-own h)
    | inr q ↦ absurd (s (subst (λ (j : ℕ). end_at ss j ≡ p.frames) (omega arith) t))
  ]

-- the ends of a span are in order, and within the frame count
pub ends_order : (gap : Gap) (p : Padding) (ss : List ℕ) → Spanned gap p.frames ss → (first_of gap p ss < last_of gap p ss) × (last_of gap p ss ≤ p.frames)
unfolding first_of last_of
ends_order Keep p ss w = (span-frames Keep p.frames ss w.some, omega arith)
ends_order Drop p ss w = order p ss w (first_of Drop p ss) (last_of Drop p ss) (leading p ss) (trailing p ss)

-- an inner silence starts after the span's first boundary
pub inner_first : (gap : Gap) (p : Padding) (ss : List ℕ) → Spanned gap p.frames ss → (i : ℕ) → i < silence_count ss → (start_at ss i ≡ 0 → ⊥) → first_of gap p ss < start_at ss i
unfolding first_of
inner_first Keep p ss w i h s = pos_of_ne-zero s
inner_first Drop p ss w i h s = starts_inside p ss w (first_of Drop p ss) i (leading p ss) h s

-- and ends before its last
pub inner_last : (gap : Gap) (p : Padding) (ss : List ℕ) → Spanned gap p.frames ss → (i : ℕ) → i < silence_count ss → (end_at ss i ≡ p.frames → ⊥) → end_at ss i < last_of gap p ss
unfolding last_of
inner_last Keep p ss w i h s = lt_of_le_of_ne (listed-within w.listed i h) s
inner_last Drop p ss w i h s = ends_inside p ss w (last_of Drop p ss) i (trailing p ss) h s

-- ---- the answer

abbrev first_in : Option SpanEnds → ℕ
first_in None = 0
first_in (Some e) = e.first

abbrev last_in : Option SpanEnds → ℕ
last_in None = 0
last_in (Some e) = e.last

abbrev is_empty : Option SpanEnds → Bool
is_empty None = true
is_empty (Some e) = false

module _ (gap : Gap) (p : Padding) (ss : List ℕ) where
  -- any other has its first and its last boundary
  pub ends-between : empty_span gap p.frames ss ≡ false → ends_of gap p ss ≡ Some record { first = first_of gap p ss; last = last_of gap p ss }
  unfolding ends_of
  ends-between e = rw e

  empty_is : is_empty (ends_of gap p ss) ≡ empty_span gap p.frames ss
  unfolding ends_of
  empty_is = elim (tested (empty_span gap p.frames ss)) [ inl e ↦ rw e | inr e ↦ rw e ]

  -- an answer without ends: the span is empty
  pub ends-none : ◌≡◌ {A = Option SpanEnds} None (ends_of gap p ss) → empty_span gap p.frames ss ≡ true
  ends-none e = sym empty_is ∙ sym (ap is_empty e)

  -- an answer with ends: it is not, and these are its own
  pub ends_found : (s : SpanEnds) → ◌≡◌ {A = Option SpanEnds} (Some s) (ends_of gap p ss)
      → (empty_span gap p.frames ss ≡ false) × (s.first ≡ first_of gap p ss) × (s.last ≡ last_of gap p ss)
  ends_found s e =
      let some : empty_span gap p.frames ss ≡ false = sym empty_is ∙ sym (ap is_empty e) in
      let same : ◌≡◌ {A = Option SpanEnds} (Some s) (Some record { first = first_of gap p ss; last = last_of gap p ss }) = e ∙ ends-between some in
      (some, ap first_in same, ap last_in same)
