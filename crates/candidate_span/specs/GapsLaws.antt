-- A gap lies inside its silence, silences are apart, and inner silences lie strictly inside the span: so the gaps do, with a frame at least between them.
use Rattle.std.specs.Prelude.{◌≡◌, true, ℕ, zero, suc, ◌+◌, ◌*◌, ◌≤◌, ◌<◌, ltb, length, get_or}
use Rattle.std.proofs.Common.{sym, ap, subst, ◌∙◌, inl, inr, arith, ltb-true, ltb-false}
use mathlib.Core.List.{List, [], ◌∷◌, Memᴰ}
use Rattle.base_laws.specs.Tests.{tested, both}
use Rattle.silence_runs.specs.SilencesLaws.{Rising, rising_least, start_after, end_after_lem}
use Rattle.plan_settings.specs.declared.config.Gap.{Gap}
use Rattle.plan_settings.specs.declared.config.Gap.TheVariants.{Keep, Drop}
use Rattle.candidate_span.specs.declared.padding.Padding.{Padding}
use Rattle.candidate_span.specs.Listed.{silence_count, start_at, end_at}
use Rattle.candidate_span.specs.Bounds.{low_of, high_of, is_inner}
use Rattle.candidate_span.specs.BoundsLaws.{inner_parts, low-within, high_within}
use Rattle.candidate_span.specs.Span.{first_of, last_of}
use Rattle.candidate_span.specs.SpanLaws.{Spanned, ends_order, inner_first, inner_last}
use Rattle.candidate_span.specs.Gaps.{Cut, is_gap, gap_width, inner_gaps, gaps_of, dropped, Spread}

-- ---- one gap

-- a gap belongs to an inner silence, and its left end is below its right end
pub gap_parts : (p : Padding) (start end : ℕ) → is_gap p start end ≡ true → (start ≡ 0 → ⊥) × (end ≡ p.frames → ⊥) × (low_of p start < high_of p end)
unfolding is_gap
gap_parts p start end h =
    let t = both (is_inner p.frames start end) (ltb (low_of p start) (high_of p end)) h in
    let i = inner_parts p.frames start end t.0 in
    (i.0, i.1, ltb-true (low_of p start) (high_of p end) t.1)

-- ---- all of them

-- every number of silences that starts after boundary a, or ends before boundary z
abbrev StartsAfter : ℕ → List ℕ → Type 0
StartsAfter a ss = (i : ℕ) → i < silence_count ss → (start_at ss i ≡ 0 → ⊥) → a < start_at ss i

abbrev EndsBefore : ℕ → ℕ → List ℕ → Type 0
EndsBefore n z ss = (i : ℕ) → i < silence_count ss → (end_at ss i ≡ n → ⊥) → end_at ss i < z

starts_rest : (a s e : ℕ) (ss : List ℕ) → StartsAfter a (s ∷ (e ∷ ss)) → StartsAfter a ss
starts_rest a s e ss f i h d =
    subst (λ (x : ℕ). a < x) (start_after s e ss i) (f (suc i) (omega arith) (λ q. d (sym (start_after s e ss i) ∙ q)))

ends-rest : (n z s e : ℕ) (ss : List ℕ) → EndsBefore n z (s ∷ (e ∷ ss)) → EndsBefore n z ss
ends-rest n z s e ss f i h d =
    subst (λ (x : ℕ). x < z) (end_after_lem s e ss i) (f (suc i) (omega arith) (λ q. d (sym (end_after_lem s e ss i) ∙ q)))

-- silences after one lie after what is left of it
starts_next : (a e n : ℕ) (ss : List ℕ) → a ≤ e → Rising (suc e) n ss → StartsAfter a ss
starts_next a e n ss h r i l d = omega (arith, rising_least (suc e) n ss (2 * i) r (omega arith))

spread_from : (p : Padding) (a z lo : ℕ) (ss : List ℕ) → Rising lo p.frames ss → a < z → StartsAfter a ss → EndsBefore p.frames z ss → Spread a (inner_gaps p ss) z
unfolding inner_gaps
spread_from p a z lo [] r h f g = h
spread_from p a z lo (s ∷ []) r h f g = h
spread_from p a z lo (s ∷ (e ∷ ss)) r h f g = elim (tested (is_gap p s e)) [
  | inl t ↦
      let q = gap_parts p s e t in
      let k : high_of p e < z = omega (arith, g 0 (omega arith) q.1, high_within p e) in
      rw t (
        omega (arith, f 0 (omega arith) q.0, (low-within p s r.1).0),
        q.2,
        spread_from p (high_of p e) z (suc e) ss r.2.2 k (starts_next (high_of p e) e p.frames ss (high_within p e) r.2.2) (ends-rest p.frames z s e ss g),
      )
  | inr t ↦ rw t (spread_from p a z (suc e) ss r.2.2 h (starts_rest a s e ss f) (ends-rest p.frames z s e ss g))
]

-- document 01's dropped gaps lie strictly inside the span, with a frame at least between them
pub gaps_spread : (gap : Gap) (p : Padding) (ss : List ℕ) → Spanned gap p.frames ss → Spread (first_of gap p ss) (gaps_of gap p ss) (last_of gap p ss)
unfolding gaps_of
gaps_spread Keep p ss s = (ends_order Keep p ss s).0
gaps_spread Drop p ss s =
    spread_from p (first_of Drop p ss) (last_of Drop p ss) 0 ss s.listed.rises (ends_order Drop p ss s).0
    (λ i h d. inner_first Drop p ss s i h d) (λ i h d. inner_last Drop p ss s i h d)

-- ---- what that says of each gap

-- a span that gaps lie in has a frame at least
pub spread_ends : (a : ℕ) (gs : List Cut) (z : ℕ) → Spread a gs z → a < z
spread_ends a [] z s = s
spread_ends a (g ∷ gs) z s = omega (arith, s.0, s.1, spread_ends g.right gs z s.2)

-- each gap lies strictly inside, and drops a frame at least
pub spread_inside : (a : ℕ) (gs : List Cut) (z : ℕ) (g : Cut) → Spread a gs z → Memᴰ g gs → (a < g.left) × (g.left < g.right) × (g.right < z)
spread_inside a [] z g s m = elim m [ ]
spread_inside a (h ∷ gs) z g s (Memᴰ.head e) =
    let l = ap (λ (c : Cut). c.left) e in
    let r = ap (λ (c : Cut). c.right) e in
    (omega (arith, s.0), omega (arith, s.1), omega (arith, spread_ends h.right gs z s.2))
spread_inside a (h ∷ gs) z g s (Memᴰ.tail m) =
    let i = spread_inside h.right gs z g s.2 m in
    (omega (arith, s.0, s.1, i.0), i.1, i.2)

-- each gap ends before the next one starts
pub spread_apart : (a : ℕ) (gs : List Cut) (z : ℕ) (i : ℕ) (d : Cut) → Spread a gs z → suc i < length gs → (get_or gs i d).right < (get_or gs (suc i) d).left
spread_apart a [] z i d s h = absurd (omega arith)
spread_apart a (g ∷ []) z i d s h = absurd (omega arith)
spread_apart a (g ∷ (k ∷ gs)) z zero d s h = s.2.0
spread_apart a (g ∷ (k ∷ gs)) z (suc i) d s h = spread_apart g.right (k ∷ gs) z i d s.2 (omega arith)

module _ (gap : Gap) (p : Padding) (ss : List ℕ) (s : Spanned gap p.frames ss) where
  -- each gap lies strictly inside the span, and drops a frame at least
  pub gaps_inside : (g : Cut) → Memᴰ g (gaps_of gap p ss) → (first_of gap p ss < g.left) × (g.left < g.right) × (g.right < last_of gap p ss)
  gaps_inside g m = spread_inside (first_of gap p ss) (gaps_of gap p ss) (last_of gap p ss) g (gaps_spread gap p ss s) m

  -- a frame at least lies between a gap and the next
  pub gaps_apart : (i : ℕ) (d : Cut) → suc i < length (gaps_of gap p ss) → (get_or (gaps_of gap p ss) i d).right < (get_or (gaps_of gap p ss) (suc i) d).left
  gaps_apart i d h = spread_apart (first_of gap p ss) (gaps_of gap p ss) (last_of gap p ss) i d (gaps_spread gap p ss s) h

-- ---- how many frames gaps drop

-- those of the first silence's gap, and those of the others
pub dropped-first : (p : Padding) (s e : ℕ) (ss : List ℕ) → dropped (inner_gaps p (s ∷ (e ∷ ss))) ≡ gap_width p s e + dropped (inner_gaps p ss)
unfolding inner_gaps is_gap gap_width dropped
dropped-first p s e ss = elim (tested (is_inner p.frames s e)) [
  | inl f ↦ elim (tested (ltb (low_of p s) (high_of p e))) [ inl t ↦ rw (f, t) | inr t ↦ rw (f, t) (omega (arith, ltb-false (low_of p s) (high_of p e) t)) ]
  | inr f ↦ rw f (omega arith)
]
