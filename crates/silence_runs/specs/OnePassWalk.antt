-- What holds while a loop lists the silences in one pass: at each turn the frames ahead are silent frames, a run of sound, and the rest.
use Rattle.std.specs.Prelude.{◌≡◌, Bool, true, false, cond, eqb, ltb, Float, get_or, Option, Some, None}
use Rattle.std.proofs.lemmas.Slice.Zip.{length-zip}
use Rattle.std.proofs.Math.Path.{refl, sym, ap, subst}
use Rattle.std.proofs.Common.{◌∙◌, nltb→le, length-append, length-drop, take-append-drop, drop-drop, take_at, drop_at, take_all, length-take-le}
use Rattle.std.proofs.Math.Logic.{inl, inr}
use mathlib.Core.List.{List, [], ◌∷◌, ◌++◌, append-nil, append_assoc}
use Prim.Native.Nat.{ℕ, zero, suc, ◌+◌, ◌-◌, ◌≤◌, ◌<◌, min}
use native.Mathlib.Omega.{arith}
use Rattle.std.specs.Float.Ieee.{nan}
use Rattle.std.specs.List.{position_or_len, position, zip}
use Rattle.std.proofs.Math.ListN.{length, take, drop, replicate, drop_of_length-le}
use Rattle.std.proofs.lemmas.List.Edits.{sets, sets-eq}
use Rattle.std.proofs.Math.Seq.{length-sets}
use borrow.Author.Tests.{lt-ltb, le-ltb, eqb-true, eqb-false}
use Rattle.base_laws.specs.Tests.{lt_or_le, tested}
use Rattle.base_terms.specs.Lists.{onto}
use Rattle.silence_runs.specs.RunsLaws.{NotFirst}
use Rattle.silence_runs.specs.Hysteresis.{sound_at, sounds_after, hysteresis}
use Rattle.silence_runs.specs.HysteresisLaws.{sound_small, after_cons}
use Rattle.silence_runs.specs.Sounds.{sounds_of}
use Rattle.silence_runs.specs.Silences.{silences_of}
use Rattle.silence_runs.specs.OnePass.{sound_by, is_other, stay, lasts, silence_between, last_silence, silences_from, next_frame}
use Rattle.silence_runs.specs.OnePassLaws.{from_zeros, from-run, from_silent, from_end, one_pass_filled, between_small, lasts_some}

-- the part of a list that is lent from a place on
abbrev behind : {A : Type 0} → List A → ℕ → List A
behind xs from = take (length xs - from) (drop from xs)

behind_drop : {A : Type 0} (xs : List A) (from : ℕ) → behind xs from ≡ drop from xs
behind_drop xs from = take_all (length xs - from) (drop from xs) (omega (arith, length-drop from xs))

-- what an answer by a test holds where it holds something, and that the test fails where it does not
some_at : (b : Bool) (m n : ℕ) → cond b (Some m) None ≡ Some n → n ≡ m
some_at true m n e = cc
some_at false m n e = let z : ◌≡◌ {A = ℕ} 0 1 = cc in absurd (omega arith)

none_at : (b : Bool) (m : ℕ) → ◌≡◌ {A = Option ℕ} (cond b (Some m) None) None → b ≡ false
none_at true m e = let z : ◌≡◌ {A = ℕ} 0 1 = cc in absurd (omega arith)
none_at false m e = refl

-- ---- the next change

module _ (threshold : Float) (sound : ℕ) where
  -- the frames in front that keep the flag are those before the first with another
  pub stay_position : (values : List Float) (flags : List ℕ) → stay threshold sound values flags ≡ position_or_len (is_other threshold sound) (zip values flags)
  unfolding stay is_other
  stay_position [] flags = refl
  stay_position (v ∷ values) [] = refl
  stay_position (v ∷ values) (f ∷ flags) = elim (tested (eqb (sound_by threshold v f) sound)) [
    | inl e ↦ rw e (omega (arith, stay_position values flags))
    | inr e ↦ rw e
  ]

  stay-within : (values : List Float) (flags : List ℕ) → stay threshold sound values flags ≤ length values
  unfolding stay
  stay-within [] flags = omega arith
  stay-within (v ∷ values) [] = omega arith
  stay-within (v ∷ values) (f ∷ flags) = elim (tested (eqb (sound_by threshold v f) sound)) [
    | inl e ↦ rw e (omega (arith, stay-within values flags))
    | inr e ↦ rw e (omega (arith, stay-within values flags))
  ]

  -- the change lies within the frames
  pub stay-to : (values : List Float) (flags : List ℕ) (from : ℕ) → from ≤ length values → from + stay threshold sound (drop from values) (drop from flags) ≤ length values
  stay-to values flags from l = omega (arith, stay-within (drop from values) (drop from flags), length-drop from values)

  -- the place of another flag is where the frames that keep it end
  pub found_other : (values : List Float) (flags : List ℕ) (from n : ℕ) → position (is_other threshold sound) (zip (behind values from) (behind flags from)) ≡ Some n
      → from + n ≡ from + stay threshold sound (drop from values) (drop from flags)
  found_other values flags from n e =
      rw (stay_position (drop from values) (drop from flags), some_at _ _ n e, behind_drop values from, behind_drop flags from)

  -- where there is none, they end with the frames
  pub found_none : (values : List Float) (flags : List ℕ) (from : ℕ) → length flags ≡ length values → from ≤ length values
      → position (is_other threshold sound) (zip (behind values from) (behind flags from)) ≡ None → length values ≡ from + stay threshold sound (drop from values) (drop from flags)
  found_none values flags from f l e =
      let vs = drop from values in
      let fs = drop from flags in
      let none : position (is_other threshold sound) (zip vs fs) ≡ None = rw (behind_drop values from, behind_drop flags from) at e in
      let fails : ltb (position_or_len (is_other threshold sound) (zip vs fs)) (length (zip vs fs)) ≡ false = none_at _ _ none in
      let most : length (zip vs fs) ≤ position_or_len (is_other threshold sound) (zip vs fs) = nltb→le _ _ (rw fails tt) in
      omega (arith, most, stay_position vs fs, stay-within vs fs, length-zip vs fs, length-drop from values, length-drop from flags, f)

-- ---- the frames ahead

module _ (on off : Float) where
  -- the threshold after a frame that sounds, or does not
  by : ℕ → Float
  by sound = cond (eqb sound 0) on off

  sound_by_lem : (sound : ℕ) (v : Float) (f : ℕ) → sound_at on off sound v f ≡ sound_by (by sound) v f
  unfolding sound_at sound_by by
  sound_by_lem sound v f = elim (tested (eqb sound 0)) [ inl e ↦ rw e | inr e ↦ rw e ]

  stay_split : (sound : ℕ) (vs : List Float) (fs : List ℕ) → sounds_after on off sound vs fs
      ≡ replicate (stay (by sound) sound vs fs) sound ++ sounds_after on off sound (drop (stay (by sound) sound vs fs) vs) (drop (stay (by sound) sound vs fs) fs)
  unfolding sounds_after stay
  stay_split sound [] fs = refl
  stay_split sound (v ∷ vs) [] = refl
  stay_split sound (v ∷ vs) (f ∷ fs) = elim (tested (eqb (sound_by (by sound) v f) sound)) [
    | inl e ↦ rw (e, sound_by_lem sound v f, eqb-true (sound_by (by sound) v f) sound e) (ap (λ (l : List ℕ). sound ∷ l) (stay_split sound vs fs))
    | inr e ↦ rw e
  ]

  stay_next : (sound : ℕ) (vs : List Float) (fs : List ℕ) → NotFirst sound (sounds_after on off sound (drop (stay (by sound) sound vs fs) vs) (drop (stay (by sound) sound vs fs) fs))
  unfolding sounds_after stay
  stay_next sound [] fs = tt
  stay_next sound (v ∷ vs) [] = tt
  stay_next sound (v ∷ vs) (f ∷ fs) = elim (tested (eqb (sound_by (by sound) v f) sound)) [
    | inl e ↦ rw e (stay_next sound vs fs)
    | inr e ↦ rw e (λ q. eqb-false (sound_by (by sound) v f) sound e (sym (sound_by_lem sound v f) ∙ q))
  ]

module _ (on off : Float) (values : List Float) (flags : List ℕ) (flagged : length flags ≡ length values) where
  -- the sound flags from frame k on, after one that sounds or does not
  abbrev ahead : ℕ → ℕ → List ℕ
  ahead k sound = sounds_after on off sound (drop k values) (drop k flags)

  ahead_none : (k sound : ℕ) → length values ≤ k → ahead k sound ≡ []
  unfolding sounds_after
  ahead_none k sound l = rw (drop_of_length-le values {i = k} l)

  ahead_split : (k sound n : ℕ) → n ≡ stay (by on off sound) sound (drop k values) (drop k flags) → ahead k sound ≡ replicate n sound ++ ahead (k + n) sound
  ahead_split k sound n e = rw (← drop-drop n k values, ← drop-drop n k flags, e) (stay_split on off sound (drop k values) (drop k flags))

  ahead_next : (k sound n : ℕ) → n ≡ stay (by on off sound) sound (drop k values) (drop k flags) → NotFirst sound (ahead (k + n) sound)
  ahead_next k sound n e = rw (← drop-drop n k values, ← drop-drop n k flags, e) (stay_next on off sound (drop k values) (drop k flags))

  -- a frame whose flag is not the one before has the other
  ahead_other : (k sound other : ℕ) → k < length values → ((x : ℕ) → x ≤ 1 → (x ≡ sound → ⊥) → x ≡ other) → NotFirst sound (ahead k sound) → ahead k sound ≡ other ∷ ahead (suc k) other
  ahead_other k sound other l one h =
      let c = after_cons on off sound values flags k l (omega arith) in
      let x : ℕ = sound_at on off sound (get_or values k nan) (get_or flags k 0) in
      c ∙ ap (λ (y : ℕ). y ∷ ahead (suc k) y) (one x (sound_small on off sound (get_or values k nan) (get_or flags k 0)) (subst (NotFirst sound) c h))

  zero_other : (x : ℕ) → x ≤ 1 → (x ≡ 0 → ⊥) → x ≡ 1
  zero_other zero l h = absurd (h refl)
  zero_other (suc x) l h = omega arith

  one_other : (x : ℕ) → x ≤ 1 → (x ≡ 1 → ⊥) → x ≡ 0
  one_other zero l h = refl
  one_other (suc zero) l h = absurd (h refl)
  one_other (suc (suc x)) l h = absurd (omega arith)

  -- one turn of the loop: from `from` to start silence, from start to end sound
  pub record Turn (from start end : ℕ) : Type 0 where
    pub within : from ≤ length values
    pub starts : start ≡ from + stay on 0 (drop from values) (drop from flags)
    pub stops : end ≡ next_frame start (length values) + stay off 1 (drop (next_frame start (length values)) values) (drop (next_frame start (length values)) flags)

  -- the run of sound, and that none follows it
  pub record SoundRun (start end : ℕ) : Type 0 where
    pub order : start ≤ end
    pub stop : end ≤ length values
    pub frames : ahead start 0 ≡ replicate (end - start) 1 ++ ahead end 1
    pub ended : NotFirst 1 (ahead end 1)

  module _ (from start end : ℕ) (t : Turn from start end) where
    run_some : start < length values → SoundRun start end
    unfolding by
    run_some l =
        let n : ℕ = stay off 1 (drop (suc start) values) (drop (suc start) flags) in
        let e : end ≡ suc start + n = (rw (lt-ltb start (length values) l) at t.stops) in
        let m : end - start ≡ suc n = omega arith in
        let h : NotFirst 0 (ahead start 0) = subst (λ (k : ℕ). NotFirst 0 (ahead k 0)) (sym t.starts) (ahead_next from 0 (stay on 0 (drop from values) (drop from flags)) refl) in
        let s : ahead (suc start) 1 ≡ replicate n 1 ++ ahead (suc start + n) 1 = ahead_split (suc start) 1 n refl in
        record {
          order = omega arith;
          stop = omega (arith, stay-to off 1 values flags (suc start) l);
          frames = ahead_other start 0 1 l zero_other h ∙ rw (m, e) (ap (λ (r : List ℕ). 1 ∷ r) s);
          ended = rw e (ahead_next (suc start) 1 n refl);
        }

    run_none : length values ≤ start → SoundRun start end
    unfolding by stay
    run_none l =
        let d : drop (length values) values ≡ [] = drop_of_length-le values {i = length values} (omega arith) in
        let e : end ≡ length values + 0 = (rw (le-ltb start (length values) l, d) at t.stops) in
        let q : start ≡ length values = omega (arith, t.starts, stay-to on 0 values flags from t.within) in
        let m : end - start ≡ 0 = omega arith in
        search (arith, m, ahead_none start 0 l, ahead_none end 1 (omega arith))

    -- from start to end there is a run of sound, empty where no sound is left
    pub turn-run : SoundRun start end
    turn-run = elim (lt_or_le start (length values)) [ inl l ↦ run_some l | inr l ↦ run_none l ]

    -- the turn's silence ends no earlier than it starts
    pub turn_order : from ≤ start
    turn_order = omega (arith, t.starts)

    module _ (min_sound min_silence last : ℕ) where
      -- what is left after the run, at the frame after its end
      passed : (l : ℕ) → silences_from min_sound min_silence end l 0 (ahead end 1) ≡ silences_from min_sound min_silence (next_frame end (length values)) l 0 (ahead (next_frame end (length values)) 0)
      passed l = elim (lt_or_le end (length values)) [
        | inl m ↦ rw (lt-ltb end (length values) m) (ap (silences_from min_sound min_silence end l 0) (ahead_other end 1 0 m one_other turn-run.ended) ∙ from_silent min_sound min_silence end l 0 (ahead (suc end) 0) (λ e. omega (arith, e)))
        | inr m ↦ (let e : end ≡ length values = omega (arith, turn-run.stop) in
            rw (le-ltb end (length values) m, ahead_none end 1 m, ahead_none (length values) 0 (omega arith), e))
      ]

      turned : silences_from min_sound min_silence from last 0 (ahead from 0)
          ≡ cond (lasts min_sound (end - start)) (silence_between min_silence last start ++ silences_from min_sound min_silence end end 0 (ahead end 1)) (silences_from min_sound min_silence end last 0 (ahead end 1))
      unfolding by
      turned =
          let n : ℕ = stay on 0 (drop from values) (drop from flags) in
          let s : ahead from 0 ≡ replicate n 0 ++ ahead (from + n) 0 = ahead_split from 0 n refl in
          let r = turn-run in
          let e : start + (end - start) ≡ end = omega (arith, r.order) in
          ap (silences_from min_sound min_silence from last 0) s
          ∙ from_zeros min_sound min_silence n from last (ahead (from + n) 0)
          ∙ rw (← t.starts) refl
          ∙ ap (silences_from min_sound min_silence start last 0) r.frames
          ∙ from-run min_sound min_silence (end - start) start last (ahead end 1) r.ended
          ∙ rw e refl

      -- the sound lasts: the silence before it, where that lasts, and what comes after the sound
      pub turn_long : lasts min_sound (end - start) ≡ true → silences_from min_sound min_silence from last 0 (ahead from 0)
          ≡ silence_between min_silence last start ++ silences_from min_sound min_silence (next_frame end (length values)) end 0 (ahead (next_frame end (length values)) 0)
      turn_long b = turned ∙ rw b (ap (λ (l : List ℕ). silence_between min_silence last start ++ l) (passed end))

      -- the sound is too short: the silence goes on
      pub turn-short : lasts min_sound (end - start) ≡ false → silences_from min_sound min_silence from last 0 (ahead from 0)
          ≡ silences_from min_sound min_silence (next_frame end (length values)) last 0 (ahead (next_frame end (length values)) 0)
      turn-short b = turned ∙ rw b (passed last)

-- ---- the loop

-- the next frame is the one after, or the end
next_is : (i n : ℕ) → next_frame i n ≡ min (suc i) n
next_is i n = elim (lt_or_le i n) [ inl m ↦ rw (lt-ltb i n m) (omega arith) | inr m ↦ rw (le-ltb i n m) (omega arith) ]

-- some numbers more are written
put_left : (out ws rest whole : List ℕ) (at : ℕ) → at + length ws ≤ length out → take at out ++ (ws ++ rest) ≡ whole → take (at + length ws) (sets out at ws) ++ rest ≡ whole
put_left out ws rest whole at l e =
    let n : length (take at out ++ ws) ≡ at + length ws = length-append (take at out) ws ∙ ap (λ (m : ℕ). m + length ws) (length-take-le at out (omega arith)) in
    rw (sets-eq ws out at l, take_at (take at out ++ ws) (drop (at + length ws) out) (at + length ws) n) (append_assoc (take at out) ws rest ∙ e)

put_kept : (out out₀ ws : List ℕ) (at : ℕ) → at + length ws ≤ length out → drop at out ≡ drop at out₀ → drop (at + length ws) (sets out at ws) ≡ drop (at + length ws) out₀
put_kept out out₀ ws at l e =
    let n : length (take at out ++ ws) ≡ at + length ws = length-append (take at out) ws ∙ ap (λ (m : ℕ). m + length ws) (length-take-le at out (omega arith)) in
    rw (sets-eq ws out at l, drop_at (take at out ++ ws) (drop (at + length ws) out) (at + length ws) n)
    (sym (drop-drop (length ws) at out) ∙ ap (drop (length ws)) e ∙ drop-drop (length ws) at out₀)

-- what holds at frame `from`, after silence; `at` is the place of the next number
pub record PassHolds (on off : Float) (min_sound min_silence : ℕ) (values : List Float) (flags out₀ out : List ℕ) (from last at : ℕ) : Type 0 where
  pub flagged : length flags ≡ length values
  pub room : length values + 2 ≤ length out₀
  pub same : length out ≡ length out₀
  pub within : from ≤ length values
  pub order : last ≤ from
  pub front : at ≤ last
  pub kept : drop at out ≡ drop at out₀
  pub left : take at out ++ silences_from min_sound min_silence from last 0 (sounds_after on off 0 (drop from values) (drop from flags)) ≡ silences_of (sounds_of on off min_sound min_silence values flags)

module _ (on off : Float) (min_sound min_silence : ℕ) (values : List Float) (flags out₀ : List ℕ) where
  -- no frame is passed yet
  pub pass_start : length flags ≡ length values → length values + 2 ≤ length out₀ → PassHolds on off min_sound min_silence values flags out₀ out₀ 0 0 0
  unfolding hysteresis sounds_of
  pass_start f r = search (arith, one_pass_filled on off min_sound min_silence values flags)

  module _ (out : List ℕ) (from last at : ℕ) (w : PassHolds on off min_sound min_silence values flags out₀ out from last at) where
    -- where the run of sound is sought
    pub sought-within : (start next : ℕ) → start ≡ from + stay on 0 (drop from values) (drop from flags) → next ≡ next_frame start (length values) → next ≤ length values
    sought-within start next e f = omega (arith, next_is start (length values))

    -- what the two searches find makes a turn
    pub turn_of : (start next end : ℕ) → start ≡ from + stay on 0 (drop from values) (drop from flags) → next ≡ next_frame start (length values)
        → end ≡ next + stay off 1 (drop next values) (drop next flags) → Turn on off values flags w.flagged from start end
    turn_of start next end e f g = search (arith, subst (λ (k : ℕ). end ≡ k + stay off 1 (drop k values) (drop k flags)) f g)

    module _ (start end : ℕ) (t : Turn on off values flags w.flagged from start end) where
      -- the turn's sound ends no earlier than it starts
      pub turn_sound : start ≤ end
      turn_sound = (turn-run on off values flags w.flagged from start end t).order

      -- it starts within the frames
      pub turn_start : start ≤ length values
      turn_start = let r = turn-run on off values flags w.flagged from start end t in omega (arith, r.order, r.stop)

      -- the pass moves on
      pub pass_less : (next : ℕ) → from < length values → next ≡ next_frame end (length values) → length values - next < length values - from
      pass_less next l e =
          let r = turn-run on off values flags w.flagged from start end t in
          omega (arith, r.order, turn_order on off values flags w.flagged from start end t, next_is end (length values))

      -- the sound is too short: nothing is written
      pub pass_short : lasts min_sound (end - start) ≡ false → PassHolds on off min_sound min_silence values flags out₀ out (next_frame end (length values)) last at
      pass_short b =
          let r = turn-run on off values flags w.flagged from start end t in
          let n = next_is end (length values) in
          let o = turn_order on off values flags w.flagged from start end t in
          search (arith, ap (λ (l : List ℕ). take at out ++ l) (sym (turn-short on off values flags w.flagged from start end t min_sound min_silence last b)) ∙ w.left)

      -- the silence before a sound has room
      pub pass_room : at + 2 ≤ length out
      pass_room = omega (arith, w.front, w.order, w.within, w.same, w.room)

      -- the silence before a sound ends no earlier than it starts
      pub pass_between : last ≤ start
      pass_between = omega (arith, w.order, turn_order on off values flags w.flagged from start end t)

      -- the sound lasts: the silence before it is written, where that lasts
      pub pass_long : (out' : List ℕ) (at' : ℕ) → lasts min_sound (end - start) ≡ true → out' ≡ sets out at (silence_between min_silence last start) → at' ≡ at + length (silence_between min_silence last start)
          → PassHolds on off min_sound min_silence values flags out₀ out' (next_frame end (length values)) end at'
      pass_long out' at' b e f =
          let r = turn-run on off values flags w.flagged from start end t in
          let n = next_is end (length values) in
          let g = between_small min_silence last start pass_between in
          let l : at + length (silence_between min_silence last start) ≤ length out = omega (arith, pass_room, g.0) in
          let some = lasts_some min_sound (end - start) b in
          record {
            flagged = w.flagged;
            room = w.room;
            same = rw e (length-sets out at (silence_between min_silence last start)) ∙ w.same;
            within = omega arith;
            order = omega (arith, r.stop);
            front = omega (arith, f, w.front, g.1, some);
            kept = rw (e, f) (put_kept out out₀ (silence_between min_silence last start) at l w.kept);
            left = rw (e, f) (put_left out (silence_between min_silence last start) (silences_from min_sound min_silence (next_frame end (length values)) end 0 (sounds_after on off 0 (drop (next_frame end (length values)) values) (drop (next_frame end (length values)) flags))) (silences_of (sounds_of on off min_sound min_silence values flags)) at l
                (ap (λ (s : List ℕ). take at out ++ s) (sym (turn_long on off values flags w.flagged from start end t min_sound min_silence last b)) ∙ w.left));
          }

    -- at the end there is room for the last silence
    pub pass_last-room : at + 2 ≤ length out
    pass_last-room = omega (arith, w.front, w.order, w.within, w.same, w.room)

    -- and with it all are written
    pub pass_done : (out' : List ℕ) (at' : ℕ) → length values ≤ from → out' ≡ sets out at (last_silence min_silence last (length values)) → at' ≡ at + length (last_silence min_silence last (length values))
        → (at' ≡ length (silences_of (sounds_of on off min_sound min_silence values flags)))
        × (out' ≡ onto (silences_of (sounds_of on off min_sound min_silence values flags)) out₀)
    unfolding last_silence onto
    pass_done out' at' l e f =
        let rest : List ℕ = last_silence min_silence last (length values) in
        let q : from ≡ length values = omega (arith, w.within) in
        let g = between_small (cond (eqb last 0) 0 min_silence) last (length values) (omega (arith, w.order)) in
        let m : at + length rest ≤ length out = omega (arith, pass_last-room, g.0) in
        let z : silences_from min_sound min_silence from last 0 (sounds_after on off 0 (drop from values) (drop from flags)) ≡ rest =
        rw (ahead_none on off values flags w.flagged from 0 l) (from_end min_sound min_silence from last ∙ ap (last_silence min_silence last) q) in
        let v : take at out ++ (rest ++ []) ≡ silences_of (sounds_of on off min_sound min_silence values flags) =
        ap (λ (s : List ℕ). take at out ++ s) (append-nil rest ∙ sym z) ∙ w.left in
        let u : take at' out' ≡ silences_of (sounds_of on off min_sound min_silence values flags) =
        sym (append-nil (take at' out')) ∙ rw (e, f) (put_left out rest [] (silences_of (sounds_of on off min_sound min_silence values flags)) at m v) in
        let k : drop at' out' ≡ drop at' out₀ = rw (e, f) (put_kept out out₀ rest at m w.kept) in
        let n : at' ≡ length (silences_of (sounds_of on off min_sound min_silence values flags)) =
        sym (length-take-le at' out' (rw e (omega (arith, f, m, length-sets out at rest)))) ∙ ap length u in
        (n, sym (take-append-drop at' out') ∙ rw (u, k, n) refl)
