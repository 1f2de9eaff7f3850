-- Document 01's "silence all through": the first silence is the whole recording exactly where no frame sounds.
use Rattle.std.specs.Prelude.{◌≡◌, refl, Bool, true, false, not, ◌&&◌, List, [], ◌∷◌, ℕ, zero, suc, ◌+◌, ◌<◌, eqb, ltb, length, get_or}
use Rattle.std.proofs.Common.{sym, ◌∙◌, inl, inr, arith, lt-ltb, eq-eqb, ne_eqb, le-leb, ltb-true, eqb-true}
use Rattle.std.proofs.Math.Dec.{eqb-suc-zero}
use Rattle.base_laws.specs.Tests.{both, holds, tested}
use Rattle.base_terms.specs.Lists.{all_of}
use Rattle.silence_runs.specs.Silences.{silences_of}
use Rattle.silence_runs.specs.SilencesLaws.{edges, is_edge, silences-edges, silences_exact, in_silence}
use Rattle.silence_runs.specs.Sounds.{is_silent, any_sound}
use Rattle.candidate_span.specs.Listed.{silence_count, start_at, end_at}
use Rattle.candidate_span.specs.ListedLaws.{Listed, listed-own, silences-listed}
use Rattle.candidate_span.specs.Span.{is_leading, all_silent}

-- ---- the first frame is silent

-- after a silent frame before k, the silence ends at the recording's end exactly where all frames left are silent
first_edge : (xs : List ℕ) (k : ℕ) → eqb (get_or (edges k 0 xs) 0 0) (k + length xs) ≡ all_of is_silent xs
unfolding edges is_edge all_of is_silent
first_edge [] k = eq-eqb k (k + 0) (omega arith)
first_edge (zero ∷ xs) k =
    let e : k + suc (length xs) ≡ suc k + length xs = omega arith in
    rw e (first_edge xs (suc k))
first_edge (suc x ∷ xs) k = rw (eqb-suc-zero x) (ne_eqb k (k + suc (length xs)) (λ e. omega arith))

-- that edge is there
some_edge : (xs : List ℕ) (k : ℕ) → 0 < length (edges k 0 xs)
unfolding edges is_edge
some_edge [] k = omega arith
some_edge (zero ∷ xs) k = some_edge xs (suc k)
some_edge (suc x ∷ xs) k = rw (eqb-suc-zero x) (omega arith)

pair : (es : List ℕ) (n : ℕ) → 0 < length es → all_silent n (0 ∷ es) ≡ eqb (get_or es 0 0) n
unfolding all_silent is_leading
pair es n h = rw (lt-ltb 0 (silence_count (0 ∷ es)) (omega arith))

-- ---- it sounds

-- a leading silence holds the first frame
held : (ys : List ℕ) → 0 < silence_count ys → start_at ys 0 ≡ 0 → start_at ys 0 < end_at ys 0 → in_silence 0 ys ≡ true
unfolding in_silence
held [] h s o = absurd (omega arith)
held (a ∷ []) h s o = absurd (omega arith)
held (a ∷ (b ∷ ys)) h s o = rw (le-leb a 0 (omega (arith, s)), lt-ltb 0 b (omega (arith, s, o)))

leads : (n : ℕ) (ss : List ℕ) → Listed n ss → all_silent n ss ≡ true → in_silence 0 ss ≡ true
unfolding all_silent is_leading
leads n ss l t =
    let p = both (ltb 0 (silence_count ss) && eqb (start_at ss 0) 0) (eqb (end_at ss 0) n) t in
    let q = both (ltb 0 (silence_count ss)) (eqb (start_at ss 0) 0) p.0 in
    let h = ltb-true 0 (silence_count ss) q.0 in
    held ss h (eqb-true (start_at ss 0) 0 q.1) (listed-own l 0 h)

fails : (b : Bool) → (b ≡ true → ⊥) → b ≡ false
fails true f = absurd (f refl)
fails false f = refl

-- ---- both

silent_is : (sound : List ℕ) → 0 < length sound → all_silent (length sound) (silences_of sound) ≡ all_of is_silent sound
unfolding edges is_edge all_of is_silent
silent_is [] h = absurd (omega arith)
silent_is (zero ∷ xs) h =
    let one : suc (length xs) ≡ 1 + length xs = omega arith in
    rw (silences-edges (zero ∷ xs)) (pair (edges 1 0 xs) (suc (length xs)) (some_edge xs 1) ∙ rw one (first_edge xs 1))
silent_is (suc x ∷ xs) h =
    rw (eqb-suc-zero x)
    (fails (all_silent (suc (length xs)) (silences_of (suc x ∷ xs)))
    (λ t. holds (sym (sym (leads (suc (length xs)) (silences_of (suc x ∷ xs)) (silences-listed (suc x ∷ xs)) t) ∙ silences_exact (suc x ∷ xs) 0 ∙ eqb-suc-zero x))))

-- a recording with frames is silent all through exactly where no frame sounds
pub silent_all : (sound : List ℕ) → 0 < length sound → all_silent (length sound) (silences_of sound) ≡ not (any_sound sound)
unfolding any_sound
silent_all sound h = silent_is sound h ∙ elim (tested (all_of is_silent sound)) [ inl e ↦ rw e | inr e ↦ rw e ]
