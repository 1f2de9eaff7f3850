-- The candidates of a list of silences: inside the span, in order, and those with two ends are document 01's dropped gaps.
-- A cut lies in its silence, silences are apart, and inner silences lie strictly inside the span.
use Rattle.std.specs.Prelude.{◌≡◌, refl, true, ℕ, ◌≤◌, ◌<◌, Float, length}
use Rattle.std.proofs.Common.{sym, subst, ◌∙◌, pos_of_ne-zero, arith, lt-ltb}
use mathlib.Core.List.Memᴰ
use mathlib.Core.List.{List, Memᴰ}
use Rattle.std.proofs.Math.Numerals.{lt_of_le_of_ne}
use Rattle.base_laws.specs.Tests.{holds}
use Rattle.grid.specs.Limits.{max_frames}
use Rattle.plan_settings.specs.declared.config.Gap.{Gap}
use Rattle.plan_settings.specs.declared.config.Gap.TheVariants.{Keep, Drop}
use Rattle.plan_settings.specs.declared.config.Placement.{Placement}
use Rattle.candidate_span.specs.declared.padding.Padding.{Padding}
use Rattle.candidate_span.specs.Listed.{silence_count, start_at, end_at}
use Rattle.candidate_span.specs.ListedLaws.{listed-own, listed_apart, listed-within}
use Rattle.candidate_span.specs.Bounds.{is_inner}
use Rattle.candidate_span.specs.BoundsLaws.{inner_parts, inner_is}
use Rattle.candidate_span.specs.Span.{first_of, last_of}
use Rattle.candidate_span.specs.SpanLaws.{Spanned, inner_first, inner_last}
use Rattle.candidate_span.specs.Gaps.{Cut, silence_gap, gaps_of}
use Rattle.candidate_span.specs.GapsLaws.{gap_parts}
use Rattle.candidate_span.specs.GapsFrom.{GapAt, gap_from, gap_in}
use Rattle.plan_settings.specs.Tests.{ratio_ok}
use Rattle.candidate_cuts.specs.Cut.{silence_cut_at, Inner}
use Rattle.candidate_cuts.specs.CutLaws.{cut-within, has_gap, has_gap_lem, edges_of, cut_gap, cut_gap_is}

-- what a plan has when its silences are cut: a span, a level for each frame boundary, and a ratio that refusal 9 passes
pub record CutReady (gap : Gap) (placement : Placement) (n : ℕ) (levels : List Float) (ss : List ℕ) : Type 0 where
  pub spanned : Spanned gap n ss
  pub few : n ≤ max_frames
  pub held : n < length levels
  pub ratio : ratio_ok placement ≡ true

-- silence i of the list has sound on both sides
pub record InnerAt (n : ℕ) (ss : List ℕ) (i : ℕ) : Type 0 where
  pub listed : i < silence_count ss
  pub inner : is_inner n (start_at ss i) (end_at ss i) ≡ true

module _ (gap : Gap) (placement : Placement) (p : Padding) (levels : List Float) (ss : List ℕ) (ready : CutReady gap placement p.frames levels ss) where
  -- each inner silence can be cut
  pub inner_cut : (i : ℕ) → InnerAt p.frames ss i → Inner placement p.frames levels (start_at ss i) (end_at ss i)
  inner_cut i a =
      let q = inner_parts p.frames (start_at ss i) (end_at ss i) a.inner in
      let before_sound = lt_of_le_of_ne (listed-within ready.spanned.listed i a.listed) q.1 in
      search (pos_of_ne-zero q.0, listed-own ready.spanned.listed i a.listed)

  -- its cut lies strictly inside the span
  pub cut_inside : (i : ℕ) → InnerAt p.frames ss i
      → (first_of gap p ss < (silence_cut_at gap placement p levels ss i).left) × ((silence_cut_at gap placement p levels ss i).right < last_of gap p ss)
  cut_inside i a =
      let q = inner_parts p.frames (start_at ss i) (end_at ss i) a.inner in
      let w = cut-within placement p levels (start_at ss i) (end_at ss i) (inner_cut i a) gap in
      (omega (arith, w.0, inner_first gap p ss ready.spanned i a.listed q.0), omega (arith, w.2, inner_last gap p ss ready.spanned i a.listed q.1))

  -- and before that of a later one
  pub cuts_apart : (i j : ℕ) → i < j → InnerAt p.frames ss i → InnerAt p.frames ss j
      → (silence_cut_at gap placement p levels ss i).right < (silence_cut_at gap placement p levels ss j).left
  cuts_apart i j h a b =
      let v = cut-within placement p levels (start_at ss i) (end_at ss i) (inner_cut i a) gap in
      let w = cut-within placement p levels (start_at ss j) (end_at ss j) (inner_cut j b) gap in
      omega (arith, v.2, w.0, listed_apart ready.spanned.listed i j h b.listed)

  -- ---- dropped gaps

  -- the inner silence whose cut has these ends
  pub record CutWith (g : Cut) : Type 0 where
    pub number : ℕ
    pub at : InnerAt p.frames ss number
    pub is : g ≡ edges_of (silence_cut_at gap placement p levels ss number)

  gap_listed : (drop : Gap) (i : ℕ) → i < silence_count ss → has_gap drop p (start_at ss i) (end_at ss i) ≡ true
      → Memᴰ (silence_gap p (start_at ss i) (end_at ss i)) (gaps_of drop p ss)
  unfolding has_gap gaps_of
  gap_listed Keep i h t = absurd (holds t)
  gap_listed Drop i h t = gap_in p ss i h t

  -- a cut whose left end is below its right end is a dropped gap
  pub cut-dropped : (i : ℕ) → InnerAt p.frames ss i → (silence_cut_at gap placement p levels ss i).left < (silence_cut_at gap placement p levels ss i).right
      → Memᴰ (edges_of (silence_cut_at gap placement p levels ss i)) (gaps_of gap p ss)
  cut-dropped i a h =
      let c = silence_cut_at gap placement p levels ss i in
      let q = inner_cut i a in
      let t : has_gap gap p (start_at ss i) (end_at ss i) ≡ true =
      sym (cut_gap placement p levels (start_at ss i) (end_at ss i) q gap) ∙ lt-ltb c.left c.right h in
      subst (λ (g : Cut). Memᴰ g (gaps_of gap p ss)) (sym (cut_gap_is placement p levels (start_at ss i) (end_at ss i) q gap t)) (gap_listed gap i a.listed t)

  gap_has : (drop : Gap) (g : Cut) → Memᴰ g (gaps_of drop p ss) → (drop ≡ Drop) × GapAt p ss g
  unfolding gaps_of
  gap_has Keep g m = absurd (Memᴰ.not-nil m)
  gap_has Drop g m = (refl, gap_from p ss g m)

  -- each dropped gap is the cut of its silence
  pub dropped-cut : (g : Cut) → Memᴰ g (gaps_of gap p ss) → CutWith g
  dropped-cut g m =
      let d = gap_has gap g m in
      let f = d.1 in
      let s = start_at ss f.number in
      let e = end_at ss f.number in
      let q = gap_parts p s e f.left in
      let a : InnerAt p.frames ss f.number = record { listed = f.listed; inner = inner_is p.frames s e q.0 q.1 } in
      let t : has_gap gap p s e ≡ true = has_gap_lem gap p s e d.0 f.left in
      record { number = f.number; at = a; is = f.is ∙ sym (cut_gap_is placement p levels s e (inner_cut f.number a) gap t) }
