-- A frame of another kind stays as it is, and a whole run of the kind is filled by its length.
-- What filling leaves, frame by frame: a frame is of the kind after filling exactly where it lies in a stretch of at least min frames of the kind.
-- For sound this is an opening, for silence a closing; that both are monotone follows.
use Rattle.std.specs.Prelude.{◌≡◌, ℕ, suc, ◌+◌, ◌-◌, ◌≤◌, ◌<◌, length, replicate, get_or, ◌⊎◌}
use Rattle.std.proofs.Common.{sym, ap, subst, ◌∙◌, length-append, arith, get_or-append-add, lt-ltb, le-ltb}
use mathlib.Core.List.{List, [], ◌∷◌, ◌++◌, append-nil}
use Rattle.std.proofs.lemmas.List.{length-replicate, get_or-replicate, get_or_at}
use Rattle.std.proofs.Math.ListN.{get_or-append, get_or-eq_default}
use Rattle.std.proofs.Math.Logic.{inl, inr}
use Rattle.silence_runs.specs.RunsLaws.{NotFirst, each_none, each_other, each_run_lem, each_length, by_runs}
use Rattle.silence_runs.specs.Fill.{filled_as, fill_short}
use Rattle.base_laws.specs.Tests.{lt_or_le}

module _ (kind min : ℕ) where
  -- where there is no frame, nothing is filled
  pub fill_none : fill_short kind min [] ≡ []
  unfolding fill_short
  fill_none = each_none kind (filled_as kind min)

  -- a frame of another kind stays
  pub fill_other : (y : ℕ) (ys : List ℕ) → (y ≡ kind → ⊥) → fill_short kind min (y ∷ ys) ≡ y ∷ fill_short kind min ys
  unfolding fill_short
  fill_other = each_other kind (filled_as kind min)

  -- a run of the kind is filled by its length
  pub fill_run : (n : ℕ) (ys : List ℕ) → NotFirst kind ys → fill_short kind min (replicate n kind ++ ys) ≡ replicate n (filled_as kind min n) ++ fill_short kind min ys
  unfolding fill_short
  fill_run = each_run_lem kind (filled_as kind min)

  -- filling keeps the number of frames
  pub fill_length : (xs : List ℕ) → length (fill_short kind min xs) ≡ length xs
  unfolding fill_short
  fill_length = each_length kind (filled_as kind min)

-- frame i lies in a stretch of at least min frames of the kind
pub record Held (kind min : ℕ) (xs : List ℕ) (i : ℕ) : Type 0 where
  pub from : ℕ
  pub to : ℕ
  pub starts : from ≤ i
  pub ends : i < to
  pub long : from + min ≤ to
  pub within : to ≤ length xs
  pub all : (j : ℕ) → from ≤ j → j < to → get_or xs j 0 ≡ kind

-- ---- a run and what follows it

at_front : (n w i : ℕ) (t : List ℕ) → i < n → get_or (replicate n w ++ t) i 0 ≡ w
at_front n w i t l = get_or-append (replicate n w) t 0 i (rw (length-replicate n w) l) ∙ get_or-replicate n i w 0 l

at_seam : (n w y : ℕ) (t : List ℕ) → get_or (replicate n w ++ (y ∷ t)) n 0 ≡ y
at_seam n w y t = get_or_at (replicate n w) y t 0 n (length-replicate n w)

at_rest : (n w y j : ℕ) (t : List ℕ) → get_or (replicate n w ++ (y ∷ t)) (n + suc j) 0 ≡ get_or t j 0
at_rest n w y j t = subst (λ (m : ℕ). get_or (replicate n w ++ (y ∷ t)) (m + suc j) 0 ≡ get_or t j 0) (length-replicate n w) (get_or-append-add (replicate n w) (y ∷ t) (suc j) 0)

-- a frame is in the run, is the one after it, or lies beyond
data Place (n i : ℕ) : Type 0 where
  front : i < n → Place n i
  seam : i ≡ n → Place n i
  rest : (j : ℕ) → i ≡ n + suc j → Place n i

place : (n i : ℕ) → Place n i
place n i = elim (lt_or_le i n) [
  | inl l ↦ front l
  | inr l ↦ elim (lt_or_le n i) [ inl m ↦ rest (i - suc n) (omega arith) | inr m ↦ seam (omega arith) ]
]

module _ (kind min : ℕ) where
  filled_long : (n : ℕ) → min ≤ n → filled_as kind min n ≡ kind
  unfolding filled_as
  filled_long n l = rw (le-ltb n min l)

  filled_kind : (n : ℕ) → kind ≤ 1 → filled_as kind min n ≡ kind → min ≤ n
  unfolding filled_as
  filled_kind n k e = elim (lt_or_le n min) [
    | inl l ↦ absurd (omega (arith, rw (lt-ltb n min l) at e))
    | inr l ↦ l
  ]

  run_length : (n : ℕ) (t : List ℕ) → length (replicate n kind ++ t) ≡ n + length t
  run_length n t = rw (length-append (replicate n kind) t, length-replicate n kind)

  -- the list with its first run filled
  fill_next : (n y : ℕ) (ys : List ℕ) → (y ≡ kind → ⊥) → fill_short kind min (replicate n kind ++ (y ∷ ys)) ≡ replicate n (filled_as kind min n) ++ (y ∷ fill_short kind min ys)
  fill_next n y ys h = fill_run kind min n (y ∷ ys) h ∙ ap (λ (t : List ℕ). replicate n (filled_as kind min n) ++ t) (fill_other kind min y ys h)

  fill_last : (n : ℕ) → fill_short kind min (replicate n kind ++ []) ≡ replicate n (filled_as kind min n) ++ []
  fill_last n = fill_run kind min n [] tt ∙ ap (λ (t : List ℕ). replicate n (filled_as kind min n) ++ t) (fill_none kind min)

  -- ---- a stretch that is long enough stays

  held-front : (n : ℕ) (t : List ℕ) (i : ℕ) (w : Held kind min (replicate n kind ++ t) i) → w.to ≤ n → filled_as kind min n ≡ kind
  held-front n t i w l = filled_long n (omega (arith, w.long))

  held-beyond : (n y : ℕ) (ys : List ℕ) (i j : ℕ) → i ≡ n + suc j → (w : Held kind min (replicate n kind ++ (y ∷ ys)) i) → n < w.from → Held kind min ys j
  held-beyond n y ys i j e w l = record {
    from = w.from - suc n;
    to = w.to - suc n;
    starts = omega (arith, w.starts);
    ends = omega (arith, w.ends);
    long = omega (arith, w.long);
    within = omega (arith, w.within, run_length n (y ∷ ys));
    all = λ k a b. sym (at_rest n kind y k ys) ∙ w.all (n + suc k) (omega (arith, a)) (omega (arith, b));
  }

  -- the frame after a run is in no stretch
  held_apart : (n y : ℕ) (ys : List ℕ) (i : ℕ) → (y ≡ kind → ⊥) → (w : Held kind min (replicate n kind ++ (y ∷ ys)) i) → (w.to ≤ n) ⊎ (n < w.from)
  held_apart n y ys i h w = elim (lt_or_le n w.from) [
    | inl l ↦ inr l
    | inr l ↦ elim (lt_or_le n w.to) [ inl m ↦ absurd (h (sym (at_seam n kind y ys) ∙ w.all n l m)) | inr m ↦ inl m ]
  ]

  Stays : List ℕ → Type 0
  Stays xs = (i : ℕ) → Held kind min xs i → get_or (fill_short kind min xs) i 0 ≡ kind

  -- a frame in a stretch of at least min frames of the kind is of the kind after filling
  pub fill_held : (xs : List ℕ) (i : ℕ) → Held kind min xs i → get_or (fill_short kind min xs) i 0 ≡ kind
  unfolding Stays
  fill_held = by_runs kind Stays base step
    where
      base : (n : ℕ) → Stays (replicate n kind ++ [])
      base n i w =
          let m : w.to ≤ n = omega (arith, w.within, run_length n []) in
          rw (fill_last n) (at_front n (filled_as kind min n) i [] (omega (arith, w.ends)) ∙ held-front n [] i w m)

      step : (n y : ℕ) (ys : List ℕ) → (y ≡ kind → ⊥) → Stays ys → Stays (replicate n kind ++ (y ∷ ys))
      step n y ys h stays i w = rw (fill_next n y ys h) (go (place n i))
        where
          go : Place n i → get_or (replicate n (filled_as kind min n) ++ (y ∷ fill_short kind min ys)) i 0 ≡ kind
          go (front l) = at_front n (filled_as kind min n) i (y ∷ fill_short kind min ys) l ∙ elim (held_apart n y ys i h w) [
            | inl m ↦ held-front n (y ∷ ys) i w m
            | inr m ↦ absurd (omega (arith, w.starts))
          ]
          go (seam e) = absurd (h (sym (at_seam n kind y ys) ∙ w.all n (omega (arith, w.starts)) (omega (arith, w.ends))))
          go (rest j e) = ap (λ (k : ℕ). get_or (replicate n (filled_as kind min n) ++ (y ∷ fill_short kind min ys)) k 0) e ∙ at_rest n (filled_as kind min n) y j (fill_short kind min ys) ∙ elim (held_apart n y ys i h w) [
            | inl m ↦ absurd (omega (arith, w.ends))
            | inr m ↦ stays j (held-beyond n y ys i j e w m)
          ]

  -- ---- and no other frame is of the kind

  -- the run itself is a stretch
  held-run : (n : ℕ) (t : List ℕ) (i : ℕ) → i < n → min ≤ n → Held kind min (replicate n kind ++ t) i
  held-run n t i l m = record {
    from = 0;
    to = n;
    starts = omega arith;
    ends = l;
    long = omega arith;
    within = omega (arith, run_length n t);
    all = λ j a b. at_front n kind j t b;
  }

  held-later : (n y : ℕ) (ys : List ℕ) (i j : ℕ) → i ≡ n + suc j → Held kind min ys j → Held kind min (replicate n kind ++ (y ∷ ys)) i
  held-later n y ys i j e w = record {
    from = w.from + suc n;
    to = w.to + suc n;
    starts = omega (arith, w.starts);
    ends = omega (arith, w.ends);
    long = omega (arith, w.long);
    within = omega (arith, w.within, run_length n (y ∷ ys));
    all = λ k a b. ap (λ (m : ℕ). get_or (replicate n kind ++ (y ∷ ys)) m 0) (omega arith) ∙ at_rest n kind y (k - suc n) ys ∙ w.all (k - suc n) (omega (arith, a)) (omega (arith, a, b));
  }

  Left : List ℕ → Type 0
  Left xs = (i : ℕ) → i < length xs → get_or (fill_short kind min xs) i 0 ≡ kind → Held kind min xs i

  -- a frame that is of the kind after filling lies in a stretch of at least min frames of the kind
  pub fill_left : kind ≤ 1 → (xs : List ℕ) (i : ℕ) → i < length xs → get_or (fill_short kind min xs) i 0 ≡ kind → Held kind min xs i
  unfolding Left
  fill_left small = by_runs kind Left base step
    where
      base : (n : ℕ) → Left (replicate n kind ++ [])
      base n i l e =
          let m : i < n = omega (arith, l, run_length n []) in
          held-run n [] i m (filled_kind n small (sym (at_front n (filled_as kind min n) i [] m) ∙ (rw (fill_last n) at e)))

      step : (n y : ℕ) (ys : List ℕ) → (y ≡ kind → ⊥) → Left ys → Left (replicate n kind ++ (y ∷ ys))
      step n y ys h left i l e = elim (place n i) [
        | front m ↦ held-run n (y ∷ ys) i m (filled_kind n small (sym (at_front n (filled_as kind min n) i (y ∷ fill_short kind min ys) m) ∙ (rw (fill_next n y ys h) at e)))
        | seam m ↦ absurd (h (sym (at_seam n (filled_as kind min n) y (fill_short kind min ys)) ∙ (rw m at (rw (fill_next n y ys h) at e))))
        | rest j m ↦ held-later n y ys i j m (left j (omega (arith, l, run_length n (y ∷ ys))) (sym (at_rest n (filled_as kind min n) y j (fill_short kind min ys)) ∙ (rw m at (rw (fill_next n y ys h) at e))))
      ]

  -- ---- filling is monotone

  held_more : (xs ys : List ℕ) (i : ℕ) → length xs ≡ length ys → ((j : ℕ) → get_or xs j 0 ≡ kind → get_or ys j 0 ≡ kind) → Held kind min xs i → Held kind min ys i
  held_more xs ys i e more w = record {
    from = w.from;
    to = w.to;
    starts = w.starts;
    ends = w.ends;
    long = w.long;
    within = omega (arith, w.within);
    all = λ j a b. more j (w.all j a b);
  }

  -- where more frames are of the kind before filling, more are after it
  pub fill_mono : kind ≤ 1 → (xs ys : List ℕ) → length xs ≡ length ys → ((j : ℕ) → get_or xs j 0 ≡ kind → get_or ys j 0 ≡ kind)
      → (i : ℕ) → i < length xs → get_or (fill_short kind min xs) i 0 ≡ kind → get_or (fill_short kind min ys) i 0 ≡ kind
  fill_mono small xs ys e more i l f = fill_held ys i (held_more xs ys i e more (fill_left small xs i l f))

  -- ---- flags stay flags

  Flags : List ℕ → Type 0
  Flags xs = ((i : ℕ) → get_or xs i 0 ≤ 1) → (i : ℕ) → get_or (fill_short kind min xs) i 0 ≤ 1

  filled_small : (n : ℕ) → kind ≤ 1 → filled_as kind min n ≤ 1
  unfolding filled_as
  filled_small n k = elim (lt_or_le n min) [ inl l ↦ rw (lt-ltb n min l) (omega arith) | inr l ↦ rw (le-ltb n min l) k ]

  -- where each number is 0 or 1, each is after filling
  pub fill_flags : kind ≤ 1 → (xs : List ℕ) → ((i : ℕ) → get_or xs i 0 ≤ 1) → (i : ℕ) → get_or (fill_short kind min xs) i 0 ≤ 1
  unfolding Flags
  fill_flags small = by_runs kind Flags base step
    where
      base : (n : ℕ) → Flags (replicate n kind ++ [])
      base n f i = rw (fill_last n, append-nil (replicate n (filled_as kind min n))) (elim (lt_or_le i n) [
        | inl l ↦ rw (get_or-replicate n i (filled_as kind min n) 0 l) (filled_small n small)
        | inr l ↦ rw (get_or-eq_default (replicate n (filled_as kind min n)) 0 {n = i} (rw (length-replicate n (filled_as kind min n)) l)) (omega arith)
      ])

      step : (n y : ℕ) (ys : List ℕ) → (y ≡ kind → ⊥) → Flags ys → Flags (replicate n kind ++ (y ∷ ys))
      step n y ys h flags f i = rw (fill_next n y ys h) (elim (place n i) [
        | front l ↦ rw (at_front n (filled_as kind min n) i (y ∷ fill_short kind min ys) l) (filled_small n small)
        | seam e ↦ rw (e, at_seam n (filled_as kind min n) y (fill_short kind min ys)) (rw (at_seam n kind y ys) at (f n))
        | rest j e ↦ rw (e, at_rest n (filled_as kind min n) y j (fill_short kind min ys)) (flags (λ k. (rw (at_rest n kind y k ys) at (f (n + suc k)))) j)
      ])
