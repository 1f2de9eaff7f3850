-- A silence starts and ends where a silent and a sounding frame meet: the silent runs are the places where a walk sees an edge, in order.
-- So they rise, are not empty and do not touch, and a frame is silent exactly where it is in one of them.
use Rattle.std.specs.Prelude.{◌≡◌, refl, Bool, true, false, not, cond, ◌&&◌, ◌||◌, List, [], ◌∷◌, ◌++◌, ℕ, zero, suc, ◌+◌, ◌-◌, ◌*◌, ◌/◌, ◌≤◌, ◌<◌, eqb, ltb, leb, length, get_or, replicate}
use Rattle.std.proofs.Common.{ap, sym, subst, ◌∙◌, inl, inr, le_refl, add-suc, suc-ne-zero, add-one, arith, ltb→lt, leb→le, ne_eqb, eqb-true, lt-ltb, le-ltb, le-leb}
use Rattle.std.proofs.Math.Dec.{eqb-suc-zero}
use Rattle.std.specs.Float.Ieee.Bits.{is_true}
use Rattle.std.specs.Float.Ieee.Fits.{and_l, and_r}
use Rattle.std.proofs.lemmas.Bool.{lt-leb}
use Rattle.base_laws.specs.Tests.{holds, or_r, or_split, tested}
use Rattle.silence_runs.specs.Runs.{Run, with_frame, runs}
use Rattle.silence_runs.specs.RunsLaws.{runs-run, longer}
use Rattle.silence_runs.specs.Silences.{silent_runs, silences_of, start_at, end_at}

-- ---- the silences as a walk over the frames sees them

-- a silence starts or ends between two frames
unfoldable pub is_edge : ℕ → ℕ → Bool
is_edge before here = cond (eqb before 0) (not (eqb here 0)) (eqb here 0)

-- where silences start and end in frames from k on, after a frame with the flag `before`
unfoldable pub edges : ℕ → ℕ → List ℕ → List ℕ
edges k before [] = cond (eqb before 0) (k ∷ []) []
edges k before (x ∷ xs) = cond (is_edge before x) (k ∷ edges (suc k) x xs) (edges (suc k) x xs)

-- one where a silence starts at a frame
unfoldable pub starts_at : ℕ → ℕ → ℕ
starts_at before here = cond (eqb before 0) 0 (cond (eqb here 0) 1 0)

-- how many silences start in some frames, after one with the flag `before`
unfoldable pub starts_after : ℕ → List ℕ → ℕ
starts_after before [] = 0
starts_after before (x ∷ xs) = starts_at before x + starts_after x xs

-- how many silences there are: as many as start
unfoldable pub silent_run_count : List ℕ → ℕ
silent_run_count xs = starts_after 1 xs

-- ---- both are the same

-- one frame further
pub one_on : (k n : ℕ) → k + suc n ≡ suc k + n
one_on k n = omega arith

other_joined : (k y : ℕ) (rs : List Run) → (y ≡ 0 → ⊥) → silent_runs k (with_frame y rs) ≡ silent_runs (suc k) rs
unfolding silent_runs with_frame
other_joined k y [] h = rw (ne_eqb y 0 h)
other_joined k y (r ∷ rs) h = elim (tested (eqb y r.flag)) [
  | inl e ↦ rw (e, ← eqb-true y r.flag e, ne_eqb y 0 h, one_on k r.frames)
  | inr e ↦ rw (e, ne_eqb y 0 h, add-one)
]

mutual
  unfolding silent_runs runs edges is_edge

  -- after sound
  outside : (xs : List ℕ) (k p : ℕ) → (p ≡ 0 → ⊥) → silent_runs k (runs xs) ≡ edges k p xs
  outside [] k p h = rw (ne_eqb p 0 h)
  outside (zero ∷ xs) k p h = rw (ne_eqb p 0 h) (inside xs 0 k ∙ rw add-one)
  outside (suc x ∷ xs) k p h = rw (ne_eqb p 0 h, eqb-suc-zero x) (other_joined k (suc x) (runs xs) (suc-ne-zero x) ∙ outside xs (suc k) (suc x) (suc-ne-zero x))

  -- after n silent frames and one more, of which the first is k
  inside : (xs : List ℕ) (n k : ℕ) → silent_runs k (runs (replicate (suc n) 0 ++ xs)) ≡ k ∷ edges (k + suc n) 0 xs
  inside [] n k = rw (runs-run n 0 [] tt)
  inside (zero ∷ xs) n k = ap (λ (l : List ℕ). silent_runs k (runs l)) (longer 0 (suc n) xs) ∙ inside xs (suc n) k ∙ ap (λ (m : ℕ). k ∷ edges m 0 xs) (add-suc k (suc n))
  inside (suc x ∷ xs) n k =
      rw (runs-run n 0 (suc x ∷ xs) (suc-ne-zero x), eqb-suc-zero x) (ap (λ (l : List ℕ). k ∷ ((k + suc n) ∷ l)) (other_joined (k + suc n) (suc x) (runs xs) (suc-ne-zero x) ∙ outside xs (suc (k + suc n)) (suc x) (suc-ne-zero x)))

-- the silences are the edges, with sound before the first frame
pub silences-edges : (xs : List ℕ) → silences_of xs ≡ edges 0 1 xs
unfolding silences_of
silences-edges xs = outside xs 0 1 (suc-ne-zero 0)

-- ---- order

-- the numbers rise strictly, from lo on and up to hi
abbrev pub Rising : ℕ → ℕ → List ℕ → Type 0
Rising lo hi [] = Unit {0}
Rising lo hi (y ∷ ys) = (lo ≤ y) × (y ≤ hi) × Rising (suc y) hi ys

lower : (lo lo' hi : ℕ) (ys : List ℕ) → lo' ≤ lo → Rising lo hi ys → Rising lo' hi ys
lower lo lo' hi [] l r = tt
lower lo lo' hi (y ∷ ys) l r = (omega (arith, r.0), r.1, r.2)

edges_rise : (xs : List ℕ) (k p hi : ℕ) → k + length xs ≤ hi → Rising k hi (edges k p xs)
unfolding edges
edges_rise [] k p hi l = elim (tested (eqb p 0)) [ inl e ↦ rw e (le_refl k, omega arith, tt) | inr e ↦ rw e tt ]
edges_rise (x ∷ xs) k p hi l = let r = edges_rise xs (suc k) x hi (omega arith) in elim (tested (is_edge p x)) [
  | inl e ↦ rw e (le_refl k, omega arith, r)
  | inr e ↦ rw e (lower (suc k) k hi (edges (suc k) x xs) (omega arith) r)
]

-- the silences are in order, none is empty, at least one frame lies between two, and all are within the frame count: the numbers rise strictly
pub silences_rise : (xs : List ℕ) → Rising 0 (length xs) (silences_of xs)
silences_rise xs = rw (silences-edges xs) (edges_rise xs 0 1 (length xs) (omega arith))

-- ---- numbers that rise strictly

-- none is below lo
pub rising_least : (lo hi : ℕ) (ys : List ℕ) (i : ℕ) → Rising lo hi ys → i < length ys → lo ≤ get_or ys i 0
rising_least lo hi [] i r h = absurd (omega arith)
rising_least lo hi (y ∷ ys) zero r h = r.0
rising_least lo hi (y ∷ ys) (suc i) r h = omega (arith, r.0, rising_least (suc y) hi ys i r.2 (omega arith))

-- none is above hi
pub rising_most : (lo hi : ℕ) (ys : List ℕ) (i : ℕ) → Rising lo hi ys → i < length ys → get_or ys i 0 ≤ hi
rising_most lo hi [] i r h = absurd (omega arith)
rising_most lo hi (y ∷ ys) zero r h = r.1
rising_most lo hi (y ∷ ys) (suc i) r h = rising_most (suc y) hi ys i r.2 (omega arith)

-- a later one is above an earlier one
pub rising_apart : (lo hi : ℕ) (ys : List ℕ) (i j : ℕ) → Rising lo hi ys → i < j → j < length ys → get_or ys i 0 < get_or ys j 0
rising_apart lo hi [] i j r h l = absurd (omega arith)
rising_apart lo hi (y ∷ ys) i zero r h l = absurd (omega arith)
rising_apart lo hi (y ∷ ys) zero (suc j) r h l = rising_least (suc y) hi ys j r.2 (omega arith)
rising_apart lo hi (y ∷ ys) (suc i) (suc j) r h l = rising_apart (suc y) hi ys i j r.2 (omega arith) (omega arith)

-- ---- number

bit : ℕ → ℕ
bit p = cond (eqb p 0) 1 0

edges_count : (xs : List ℕ) (k p : ℕ) → length (edges k p xs) ≡ bit p + 2 * starts_after p xs
unfolding edges is_edge starts_after starts_at bit
edges_count [] k p = elim (tested (eqb p 0)) [ inl e ↦ rw e | inr e ↦ rw e ]
edges_count (x ∷ xs) k p = let n = edges_count xs (suc k) x in elim (tested (eqb p 0)) [
  | inl e ↦ elim (tested (eqb x 0)) [ inl f ↦ rw (e, f) (omega (arith, rw f at n)) | inr f ↦ rw (e, f) (omega (arith, rw f at n)) ]
  | inr e ↦ elim (tested (eqb x 0)) [ inl f ↦ rw (e, f) (omega (arith, rw f at n)) | inr f ↦ rw (e, f) (omega (arith, rw f at n)) ]
]

-- two numbers for each silence
pub silences-length : (xs : List ℕ) → length (silences_of xs) ≡ 2 * silent_run_count xs
unfolding silent_run_count bit
silences-length xs = rw (silences-edges xs) (omega (arith, edges_count xs 0 1))

edges_few : (xs : List ℕ) (k p : ℕ) → length (edges k p xs) ≤ length xs + 1
unfolding edges
edges_few [] k p = elim (tested (eqb p 0)) [ inl e ↦ rw e (omega arith) | inr e ↦ rw e (omega arith) ]
edges_few (x ∷ xs) k p = elim (tested (is_edge p x)) [ inl e ↦ rw e (omega (arith, edges_few xs (suc k) x)) | inr e ↦ rw e (omega (arith, edges_few xs (suc k) x)) ]

-- they take at most one number more than there are frames
pub silences-room : (xs : List ℕ) → length (silences_of xs) ≤ length xs + 1
silences-room xs = rw (silences-edges xs) (edges_few xs 0 1)

-- there are at most (frames + 1) / 2 silences
pub silences_few : (xs : List ℕ) → silent_run_count xs ≤ (length xs + 1) / 2
silences_few xs = omega (arith, silences-room xs, silences-length xs)

-- ---- membership

-- a frame is in one of the silences
unfoldable pub in_silence : ℕ → List ℕ → Bool
in_silence f [] = false
in_silence f (a ∷ []) = false
in_silence f (a ∷ (b ∷ rest)) = (leb a f && ltb f b) || in_silence f rest

-- below the first of rising numbers there is none
below_rising : (f lo hi : ℕ) (ys : List ℕ) → f < lo → Rising lo hi ys → in_silence f ys ≡ false
unfolding in_silence
below_rising f lo hi [] l r = refl
below_rising f lo hi (a ∷ []) l r = refl
below_rising f lo hi (a ∷ (b ∷ rest)) l r = rw (lt-leb a f (omega (arith, r.0))) (below_rising f (suc b) hi rest (omega (arith, r.0, r.2.0)) r.2.2)

-- between the start of a silence that is still open and the walk's place
in_open : (xs : List ℕ) (f s k : ℕ) → s ≤ f → f < k → in_silence f (s ∷ edges k 0 xs) ≡ true
unfolding in_silence edges is_edge
in_open [] f s k l m = rw (le-leb s f l, lt-ltb f k m)
in_open (zero ∷ xs) f s k l m = in_open xs f s (suc k) l (omega arith)
in_open (suc x ∷ xs) f s k l m = rw (eqb-suc-zero x, le-leb s f l, lt-ltb f k m)

mutual
  unfolding in_silence edges is_edge

  -- after sound
  exact_outside : (xs : List ℕ) (f k p : ℕ) → (p ≡ 0 → ⊥) → in_silence (k + f) (edges k p xs) ≡ eqb (get_or xs f 1) 0
  exact_outside [] f k p h = rw (ne_eqb p 0 h)
  exact_outside (zero ∷ xs) zero k p h = rw (ne_eqb p 0 h) (in_open xs (k + 0) k (suc k) (omega arith) (omega arith))
  exact_outside (zero ∷ xs) (suc f) k p h = rw (one_on k f, ne_eqb p 0 h) (exact_inside xs f k (suc k) (omega arith))
  exact_outside (suc x ∷ xs) zero k p h =
      rw (ne_eqb p 0 h, eqb-suc-zero x) (below_rising (k + 0) (suc k) (suc k + length xs) (edges (suc k) (suc x) xs) (omega arith) (edges_rise xs (suc k) (suc x) (suc k + length xs) (le_refl (suc k + length xs))))
  exact_outside (suc x ∷ xs) (suc f) k p h = rw (ne_eqb p 0 h, eqb-suc-zero x, one_on k f) (exact_outside xs f (suc k) (suc x) (suc-ne-zero x))

  -- in a silence that started at s
  exact_inside : (xs : List ℕ) (f s k : ℕ) → s ≤ k → in_silence (k + f) (s ∷ edges k 0 xs) ≡ eqb (get_or xs f 1) 0
  exact_inside [] f s k l = rw (le-leb s (k + f) (omega arith), le-ltb (k + f) k (omega arith))
  exact_inside (zero ∷ xs) zero s k l = in_open xs (k + 0) s (suc k) (omega arith) (omega arith)
  exact_inside (zero ∷ xs) (suc f) s k l =
      subst (λ (g : ℕ). in_silence g (s ∷ edges (suc k) 0 xs) ≡ eqb (get_or xs f 1) 0) (sym (one_on k f)) (exact_inside xs f s (suc k) (omega arith))
  exact_inside (suc x ∷ xs) zero s k l =
      rw (eqb-suc-zero x, le-leb s (k + 0) (omega arith), le-ltb (k + 0) k (omega arith))
      (below_rising (k + 0) (suc k) (suc k + length xs) (edges (suc k) (suc x) xs) (omega arith) (edges_rise xs (suc k) (suc x) (suc k + length xs) (le_refl (suc k + length xs))))
  exact_inside (suc x ∷ xs) (suc f) s k l =
      rw (eqb-suc-zero x, le-leb s (k + suc f) (omega arith), le-ltb (k + suc f) k (omega arith))
      (subst (λ (g : ℕ). in_silence g (edges (suc k) (suc x) xs) ≡ eqb (get_or xs f 1) 0) (sym (one_on k f)) (exact_outside xs f (suc k) (suc x) (suc-ne-zero x)))

-- a frame is silent exactly where it is in one of the silences (a frame past the end is in none)
pub silences_exact : (xs : List ℕ) (f : ℕ) → in_silence f (silences_of xs) ≡ eqb (get_or xs f 1) 0
silences_exact xs f = rw (silences-edges xs) (subst (λ (g : ℕ). in_silence g (edges 0 1 xs) ≡ eqb (get_or xs f 1) 0) (omega arith) (exact_outside xs f 0 1 (suc-ne-zero 0)))

-- ---- membership by number

-- silence i + 1 of a list is silence i of what follows the first: its first frame
pub start_after : (s e : ℕ) (ss : List ℕ) (i : ℕ) → start_at (s ∷ (e ∷ ss)) (suc i) ≡ start_at ss i
start_after s e ss i = let more : 2 * suc i ≡ suc (suc (2 * i)) = omega arith in rw more

-- and the frame after its last
pub end_after_lem : (s e : ℕ) (ss : List ℕ) (i : ℕ) → end_at (s ∷ (e ∷ ss)) (suc i) ≡ end_at ss i
end_after_lem s e ss i = let more : 2 * suc i + 1 ≡ suc (suc (2 * i + 1)) = omega arith in rw more

-- frame f is in one of the first n silences of a list
pub record InOne (n : ℕ) (ss : List ℕ) (f : ℕ) : Type 0 where
  pub which : ℕ
  pub listed : which < n
  pub from : start_at ss which ≤ f
  pub to : f < end_at ss which

in_later : (n s e : ℕ) (ss : List ℕ) (f : ℕ) → InOne n ss f → InOne (suc n) (s ∷ (e ∷ ss)) f
in_later n s e ss f w = record {
  which = suc w.which;
  listed = omega (arith, w.listed);
  from = rw (start_after s e ss w.which) w.from;
  to = rw (end_after_lem s e ss w.which) w.to;
}

-- a frame that is in one of n silences is in the one of some number below n
pub in_some : (n : ℕ) (ss : List ℕ) (f : ℕ) → length ss ≡ 2 * n → in_silence f ss ≡ true → InOne n ss f
unfolding in_silence
in_some n [] f l t = absurd (holds t)
in_some n (a ∷ []) f l t = absurd (holds t)
in_some zero (a ∷ (b ∷ ss)) f l t = absurd (omega arith)
in_some (suc n) (a ∷ (b ∷ ss)) f l t = elim (or_split (leb a f && ltb f b) (in_silence f ss) (holds t)) [
  | inl h ↦ record { which = 0; listed = omega arith; from = leb→le a f (and_l (leb a f) (ltb f b) h); to = ltb→lt f b (and_r (leb a f) (ltb f b) h) }
  | inr h ↦ in_later n a b ss f (in_some n ss f (omega arith) (is_true (in_silence f ss) h))
]

-- and back: a frame of silence i, of n, is in one of them
pub some_in : (n : ℕ) (ss : List ℕ) (f : ℕ) → length ss ≡ 2 * n → (i : ℕ) → i < n → start_at ss i ≤ f → f < end_at ss i → in_silence f ss ≡ true
unfolding in_silence
some_in n [] f l i h s e = absurd (omega arith)
some_in n (a ∷ []) f l i h s e = absurd (omega arith)
some_in n (a ∷ (b ∷ ss)) f l zero h s e = rw (le-leb a f s, lt-ltb f b e)
some_in n (a ∷ (b ∷ ss)) f l (suc i) h s e =
    let t = some_in (n - 1) ss f (omega arith) i (omega arith) (rw (start_after a b ss i) at s) (rw (end_after_lem a b ss i) at e) in
    is_true ((leb a f && ltb f b) || in_silence f ss) (or_r (leb a f && ltb f b) (in_silence f ss) (holds t))
