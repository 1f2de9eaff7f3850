-- What the operation "silence list" promises of its answer: the definitions of the silences give it, and the output is theirs at its front.
use Rattle.std.proofs.Math.Path.{◌≡◌, refl, ap}
use Rattle.std.proofs.Common.{sym, ◌∙◌, arith, leb-true, eq-eqb, eqb-true}
use Rattle.std.specs.Prelude.{◌↔◌, Bool, true, false, cond, List, ℕ, ◌+◌, ◌*◌, ◌/◌, ◌≤◌, ◌<◌, leb, Float, get_or, Result, Ok, Err}
use Rattle.std.proofs.Math.ListN.{length}
use Rattle.base_terms.specs.Lists.{onto}
use Rattle.base_terms.specs.Work.{Work, cleared}
use Rattle.base_code.specs.FrontLaws.{onto-at, onto-length}
use Rattle.grid.specs.declared.validate.Recording.{Recording}
use Rattle.silence_runs.specs.Silences.{silences_of, start_at, end_at}
use Rattle.silence_runs.specs.SilencesLaws.{InOne, rising_most, rising_apart, silences_rise, silences-length, silences_exact, in_some, some_in}
use Rattle.silence_runs.specs.SoundsLaws.{sounds_length}
use Rattle.silence_list.specs.Refusal as tests
use Rattle.silence_list.specs.RefusalLaws.{fine_ready, fails_some}
use Rattle.silence_list.specs.Silences.{sounds_in, silences_in, number_of, end_of, silences_handed_out, end_after, silence_list_of}
use Rattle.silence_list.specs.declared.config.SegmentConfig.{SegmentConfig}
use Rattle.silence_list.specs.declared.refusal.Refusal.{Refusal}
use Rattle.silence_list.specs.declared.list.Error.TheVariants.{ShortOutput}

-- n silences at the front of a list, of so many frames with these sound flags: document 01's "for each silence its first frame and the frame after its last"
pub record ListsSilences (frames : ℕ) (sounds : List ℕ) (n : ℕ) (out : List ℕ) : Type 0 where
  -- there is a sound flag for each frame
  pub flagged : length sounds ≡ frames
  -- the list has two numbers for each silence
  pub room : 2 * n ≤ length out
  -- no silence is empty
  pub some : (i : ℕ) → i < n → start_at out i < end_at out i
  -- they are in order and apart: each ends before a later one starts
  pub apart : (i j : ℕ) → i < j → j < n → end_at out i < start_at out j
  -- they are within the frames
  pub within : (i : ℕ) → i < n → end_at out i ≤ frames
  -- each frame of a silence is silent
  pub silent : (i f : ℕ) → i < n → start_at out i ≤ f → f < end_at out i → get_or sounds f 1 ≡ 0
  -- and each silent frame is in one of them
  pub listed : (f : ℕ) → f < frames → get_or sounds f 1 ≡ 0 → InOne n out f

-- ---- of the silences by their definition

module _ (sounds : List ℕ) (n : ℕ) (e : length (silences_of sounds) ≡ 2 * n) where
  own : ListsSilences (length sounds) sounds n (silences_of sounds)
  own =
      let ss : List ℕ = silences_of sounds in
      record {
        flagged = refl;
        room = omega arith;
        some = λ i h. rising_apart 0 (length sounds) ss (2 * i) (2 * i + 1) (silences_rise sounds) (omega arith) (omega arith);
        apart = λ i j h k. rising_apart 0 (length sounds) ss (2 * i + 1) (2 * j) (silences_rise sounds) (omega arith) (omega arith);
        within = λ i h. rising_most 0 (length sounds) ss (2 * i + 1) (silences_rise sounds) (omega arith);
        silent = λ i f h s t. eqb-true (get_or sounds f 1) 0 (sym (silences_exact sounds f) ∙ some_in n ss f e i h s t);
        listed = λ f h z. in_some n ss f e (silences_exact sounds f ∙ eq-eqb (get_or sounds f 1) 0 z);
      }

-- ---- and at the front of a list

module _ (frames : ℕ) (sounds : List ℕ) (n : ℕ) (ss out : List ℕ) (e : length ss ≡ 2 * n) (l : length ss ≤ length out) where
  start_same : (i : ℕ) → i < n → start_at (onto ss out) i ≡ start_at ss i
  start_same i h = onto-at ss out (2 * i) 0 (omega arith)

  end_same : (i : ℕ) → i < n → end_at (onto ss out) i ≡ end_at ss i
  end_same i h = onto-at ss out (2 * i + 1) 0 (omega arith)

  fronted : ListsSilences frames sounds n ss → ListsSilences frames sounds n (onto ss out)
  fronted w =
      let in_front : (f : ℕ) → InOne n ss f → InOne n (onto ss out) f = λ f o. search (start_same o.which o.listed, end_same o.which o.listed) in
      record {
        flagged = w.flagged;
        room = omega (arith, onto-length ss out l);
        some = λ i h. rw (start_same i h, end_same i h) (w.some i h);
        apart = λ i j h k. rw (end_same i (omega arith), start_same j k) (w.apart i j h k);
        within = λ i h. rw (end_same i h) (w.within i h);
        silent = λ i f h s t. w.silent i f h (rw (start_same i h) at s) (rw (end_same i h) at t);
        listed = λ f h z. in_front f (w.listed f h z);
      }

-- ---- of the answer

-- what "found" says: no test failed, and the output had room for the silences at its front
record Handed (v : Result Unit Refusal) (silences out after : List ℕ) (n : ℕ) : Type 0 where
  fine : v ≡ Ok tt
  number : n ≡ length silences / 2
  room : length silences ≤ length out
  front : after ≡ onto silences out

module _ (silences out : List ℕ) (work : Work) where
  handed_by_lem : (b : Bool) → leb (length silences) (length out) ≡ b → (n : ℕ)
      → (cond b (end_of (Ok (length silences / 2)) (onto silences out) (cleared work)) (end_of (Err ShortOutput) out (cleared work))).answer ≡ Ok n
      → Handed (Ok tt) silences out (cond b (end_of (Ok (length silences / 2)) (onto silences out) (cleared work)) (end_of (Err ShortOutput) out (cleared work))).out n
  handed_by_lem true t n e = record { fine = refl; number = cc; room = leb-true (length silences) (length out) t; front = refl }
  handed_by_lem false t n e = let z : ◌≡◌ {A = ℕ} 0 1 = cc in absurd (omega arith)

  found_by : (v : Result Unit Refusal) (n : ℕ) → (end_after v silences out work).answer ≡ Ok n → Handed v silences out (end_after v silences out work).out n
  unfolding silences_handed_out
  found_by (Ok u) n e = handed_by_lem (leb (length silences) (length out)) refl n e
  found_by (Err x) n e = let z : ◌≡◌ {A = ℕ} 0 1 = cc in absurd (omega arith)

  zero_by : (b : Bool) → number_of (cond b (end_of (Ok (length silences / 2)) (onto silences out) (cleared work)) (end_of (Err ShortOutput) out (cleared work))).answer ≡ 0
      → (n : ℕ) × ((cond b (end_of (Ok (length silences / 2)) (onto silences out) (cleared work)) (end_of (Err ShortOutput) out (cleared work))).answer ≡ Ok n)
  zero_by true z = (length silences / 2, refl)
  zero_by false z = absurd (omega arith)

  made_by : (v : Result Unit Refusal) → ((x : Refusal) → v ≡ Err x → tests.number_of x ≡ 0 → ⊥) → number_of (end_after v silences out work).answer ≡ 0
      → (n : ℕ) × ((end_after v silences out work).answer ≡ Ok n)
  unfolding silences_handed_out
  made_by (Ok u) f z = zero_by (leb (length silences) (length out)) z
  made_by (Err x) f z = absurd (f x refl z)

module _ (r : Recording) (c : SegmentConfig) (values : List Float) (flags : List ℕ) (levels : List Float) (out : List ℕ) (work : Work) where
  flags_each : length flags ≡ length values → length (sounds_in r c values flags) ≡ length values
  unfolding sounds_in
  flags_each f = sounds_length _ _ _ _ values flags f

  -- from `Ok n` alone: the n silences at the front of the output are in order, apart and within the frames, and hold exactly the silent frames
  pub silences-found : (n : ℕ) → (silence_list_of r c values flags levels out work).answer ≡ Ok n
      → ListsSilences (length values) (sounds_in r c values flags) n (silence_list_of r c values flags levels out work).out
  unfolding silence_list_of silences_in
  silences-found n e =
      let v = tests.first_refusal_of r c values flags levels (length work.u32s) (length work.u64s) (length work.f64s) in
      let sounds = sounds_in r c values flags in
      let h = found_by (silences_of sounds) out work v n e in
      let even : length (silences_of sounds) ≡ 2 * n = omega (arith, h.number, silences-length sounds) in
      let ready = (fine_ready r c values flags levels (length work.u32s) (length work.u64s) (length work.f64s) h.fine).0 in
      rw (h.front, ← flags_each ready.flagged) (fronted (length sounds) sounds n (silences_of sounds) out even h.room (own sounds n even))

  -- the number is 0 exactly where the list was made
  pub list_zero : (number_of (silence_list_of r c values flags levels out work).answer ≡ 0) ↔ ((n : ℕ) × ((silence_list_of r c values flags levels out work).answer ≡ Ok n))
  unfolding silence_list_of
  list_zero = (
    made_by (silences_in r c values flags) out work (tests.first_refusal_of r c values flags levels (length work.u32s) (length work.u64s) (length work.f64s))
        (fails_some r c values flags levels (length work.u32s) (length work.u64s) (length work.f64s)),
    λ m. ap number_of m.1,
  )
