-- Kept boundaries and gaps together are one fewer than the kept frames: before each gap and after the last stand runs of kept frames with a boundary between any two.
use Rattle.std.specs.Prelude.{◌≡◌, refl, Bool, true, false, List, [], ◌∷◌, ◌++◌, ℕ, zero, suc, ◌+◌, ◌-◌, ◌≤◌, ◌<◌, length}
use Rattle.std.proofs.Common.{ap, ◌∙◌, inl, inr, arith, length-append, le-leb}
use Rattle.std.proofs.lemmas.Bool.{lt-leb}
use Rattle.base_laws.specs.Tests.{tested}
use Rattle.plan_settings.specs.declared.config.Gap.{Gap}
use Rattle.candidate_span.specs.declared.padding.Padding.{Padding}
use Rattle.candidate_span.specs.Span.{first_of, last_of}
use Rattle.candidate_span.specs.SpanLaws.{Spanned}
use Rattle.candidate_span.specs.Gaps.{Cut, dropped, Spread, gaps_of}
use Rattle.candidate_span.specs.GapsLaws.{gaps_spread, spread_ends}
use Rattle.candidate_span.specs.Kept.{kept_frames, in_none, boundaries, passing, kept_boundaries}

-- ---- runs of boundaries

boundaries_split : (a m n : ℕ) → boundaries a (m + n) ≡ boundaries a m ++ boundaries (a + m) n
unfolding boundaries
boundaries_split a zero n =
    let e : 0 + n ≡ n = omega arith in
    let f : a ≡ a + 0 = omega arith in
    ap (boundaries a) e ∙ ap (λ (k : ℕ). boundaries k n) f
boundaries_split a (suc m) n =
    let e : suc m + n ≡ suc (m + n) = omega arith in
    let f : suc a + m ≡ a + suc m = omega arith in
    rw e (ap (λ (l : List ℕ). suc a ∷ l) (boundaries_split (suc a) m n ∙ ap (λ (k : ℕ). boundaries (suc a) m ++ boundaries k n) f))

passing-append : (p : ℕ → Bool) (xs ys : List ℕ) → passing p (xs ++ ys) ≡ passing p xs ++ passing p ys
unfolding passing
passing-append p [] ys = refl
passing-append p (x ∷ xs) ys = elim (tested (p x)) [ inl e ↦ rw e (ap (λ (l : List ℕ). x ∷ l) (passing-append p xs ys)) | inr e ↦ rw e (passing-append p xs ys) ]

-- how many of a run pass: all of it, none, or as many as pass an equal test
all_pass : (p : ℕ → Bool) (a n : ℕ) → ((k : ℕ) → a < k → k ≤ a + n → p k ≡ true) → length (passing p (boundaries a n)) ≡ n
unfolding passing boundaries
all_pass p a zero f = refl
all_pass p a (suc n) f = rw (f (suc a) (omega arith) (omega arith)) (ap suc (all_pass p (suc a) n (λ k h l. f k (omega arith) (omega arith))))

none_pass : (p : ℕ → Bool) (a n : ℕ) → ((k : ℕ) → a < k → k ≤ a + n → p k ≡ false) → passing p (boundaries a n) ≡ []
unfolding passing boundaries
none_pass p a zero f = refl
none_pass p a (suc n) f = rw (f (suc a) (omega arith) (omega arith)) (none_pass p (suc a) n (λ k h l. f k (omega arith) (omega arith)))

same_pass : (p q : ℕ → Bool) (a n : ℕ) → ((k : ℕ) → a < k → p k ≡ q k) → passing p (boundaries a n) ≡ passing q (boundaries a n)
unfolding passing boundaries
same_pass p q a zero f = refl
same_pass p q a (suc n) f = rw (f (suc a) (omega arith), same_pass p q (suc a) n (λ k h. f k (omega arith)))

-- ---- boundaries and gaps

-- a boundary before all gaps is in none
before-all : (a : ℕ) (gs : List Cut) (z k : ℕ) → Spread a gs z → k ≤ a → in_none gs k ≡ true
unfolding in_none
before-all a [] z k s h = refl
before-all a (g ∷ gs) z k s h = rw (lt-leb g.left k (omega (arith, s.0)), before-all g.right gs z k s.2 (omega (arith, s.0, s.1)))

before_gap : (a : ℕ) (g : Cut) (gs : List Cut) (z k : ℕ) → Spread a (g ∷ gs) z → k < g.left → in_none (g ∷ gs) k ≡ true
unfolding in_none
before_gap a g gs z k s h = rw (lt-leb g.left k h, before-all g.right gs z k s.2 (omega (arith, s.1)))

in_gap : (g : Cut) (gs : List Cut) (k : ℕ) → g.left ≤ k → k ≤ g.right → in_none (g ∷ gs) k ≡ false
unfolding in_none
in_gap g gs k h l = rw (le-leb g.left k h, le-leb k g.right l)

after_gap : (g : Cut) (gs : List Cut) (k : ℕ) → g.left < g.right → g.right < k → in_none (g ∷ gs) k ≡ in_none gs k
unfolding in_none
after_gap g gs k h l = rw (le-leb g.left k (omega arith), lt-leb k g.right l)

-- the run of a span's boundaries, cut at its first gap
parted : (a l r z : ℕ) → a < l → l < r → r < z
    → boundaries a (z - suc a) ≡ boundaries a (l - suc a) ++ (boundaries (l - 1) (suc (r - l)) ++ boundaries r (z - suc r))
parted a l r z h k m =
    let e : z - suc a ≡ (l - suc a) + (suc (r - l) + (z - suc r)) = omega arith in
    let f : a + (l - suc a) ≡ l - 1 = omega arith in
    let g : l - 1 + suc (r - l) ≡ r = omega arith in
    ap (boundaries a) e ∙ boundaries_split a (l - suc a) (suc (r - l) + (z - suc r))
    ∙ ap (λ (k : ℕ). boundaries a (l - suc a) ++ boundaries k (suc (r - l) + (z - suc r))) f
    ∙ ap (λ (x : List ℕ). boundaries a (l - suc a) ++ x) (boundaries_split (l - 1) (suc (r - l)) (z - suc r) ∙ ap (λ (k : ℕ). boundaries (l - 1) (suc (r - l)) ++ boundaries k (z - suc r)) g)

-- ---- counts over any span

-- gaps leave a frame of the span at least
pub dropped_less : (a : ℕ) (gs : List Cut) (z : ℕ) → Spread a gs z → a + dropped gs < z
unfolding dropped
dropped_less a [] z s = omega (arith, s)
dropped_less a (g ∷ gs) z s = omega (arith, s.0, s.1, dropped_less g.right gs z s.2)

-- so a frame at least is kept
pub spread_some : (a : ℕ) (gs : List Cut) (z : ℕ) → Spread a gs z → 1 ≤ kept_frames a gs z
unfolding kept_frames
spread_some a gs z s = omega (arith, dropped_less a gs z s)

-- kept boundaries + gaps + 1 = kept frames, of any gaps that lie in a span
pub spread_count : (a : ℕ) (gs : List Cut) (z : ℕ) → Spread a gs z → length (kept_boundaries a gs z) + length gs + 1 ≡ kept_frames a gs z
unfolding kept_boundaries kept_frames dropped
spread_count a [] z s = omega (arith, s, all_pass (in_none []) a (z - suc a) (λ k h l. before-all k [] (suc k) k (omega arith) (omega arith)))
spread_count a (g ∷ gs) z s =
    omega (
      arith,
      s.0,
      s.1,
      pieces,
      all_pass (in_none (g ∷ gs)) a (g.left - suc a) (λ k h l. before_gap a g gs z k s (omega (arith, s.0))),
      ap length (none_pass (in_none (g ∷ gs)) (g.left - 1) (suc (g.right - g.left)) (λ k h l. in_gap g gs k (omega (arith, s.0)) (omega (arith, s.0, s.1)))),
      ap length (same_pass (in_none (g ∷ gs)) (in_none gs) g.right (z - suc g.right) (λ k h. after_gap g gs k s.1 h)),
      spread_count g.right gs z s.2,
      dropped_less g.right gs z s.2,
    )
  where
    xs : List ℕ
    xs = boundaries a (g.left - suc a)

    ys : List ℕ
    ys = boundaries (g.left - 1) (suc (g.right - g.left))

    zs : List ℕ
    zs = boundaries g.right (z - suc g.right)

    pieces : length (passing (in_none (g ∷ gs)) (boundaries a (z - suc a)))
        ≡ length (passing (in_none (g ∷ gs)) (boundaries a (g.left - suc a)))
        + (length (passing (in_none (g ∷ gs)) (boundaries (g.left - 1) (suc (g.right - g.left)))) + length (passing (in_none (g ∷ gs)) (boundaries g.right (z - suc g.right))))
    pieces =
        ap (λ (l : List ℕ). length (passing (in_none (g ∷ gs)) l)) (parted a g.left g.right z s.0 s.1 (spread_ends g.right gs z s.2))
        ∙ ap length (passing-append (in_none (g ∷ gs)) xs (ys ++ zs)) ∙ length-append (passing (in_none (g ∷ gs)) xs) (passing (in_none (g ∷ gs)) (ys ++ zs))
        ∙ ap (λ (n : ℕ). length (passing (in_none (g ∷ gs)) xs) + n) (ap length (passing-append (in_none (g ∷ gs)) ys zs) ∙ length-append (passing (in_none (g ∷ gs)) ys) (passing (in_none (g ∷ gs)) zs))

-- ---- and over a plan's

module _ (gap : Gap) (p : Padding) (ss : List ℕ) (s : Spanned gap p.frames ss) where
  -- a span that is not empty keeps a frame
  pub kept_some : 1 ≤ kept_frames (first_of gap p ss) (gaps_of gap p ss) (last_of gap p ss)
  kept_some = spread_some (first_of gap p ss) (gaps_of gap p ss) (last_of gap p ss) (gaps_spread gap p ss s)

  -- kept boundaries + gaps + 1 = kept frames
  pub kept_count : length (kept_boundaries (first_of gap p ss) (gaps_of gap p ss) (last_of gap p ss)) + length (gaps_of gap p ss) + 1
      ≡ kept_frames (first_of gap p ss) (gaps_of gap p ss) (last_of gap p ss)
  kept_count = spread_count (first_of gap p ss) (gaps_of gap p ss) (last_of gap p ss) (gaps_spread gap p ss s)
