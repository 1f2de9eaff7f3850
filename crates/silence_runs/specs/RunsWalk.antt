-- Runs rewritten in place, by one walk: a run is rewritten once the frame after its last is reached, or the end.
use Rattle.std.specs.Prelude.{◌≡◌, refl, ℕ, suc, ◌+◌, ◌-◌, ◌≤◌, ◌<◌}
use Rattle.std.proofs.Math.Path.{sym, ap}
use Rattle.std.proofs.Common.{◌∙◌, add-one, take-append-drop, take_at, drop_at}
use mathlib.Core.List.{List, [], ◌∷◌, ◌++◌, append_assoc}
use native.Mathlib.Omega.{arith}
use Rattle.std.proofs.Math.ListN.{length, get_or, take, drop, replicate, length-append, length-replicate, length-drop, drop_of_length-le}
use Rattle.std.proofs.Math.Seq.{drop-cons, length-take-le}
use borrow.Rule.Slice.PartMut.{put_mid, mid_len, Post-is}
use Rattle.base_terms.specs.Lists.{filled}
use Rattle.silence_runs.specs.Runs.{each_run, put_run}
use Rattle.silence_runs.specs.RunsLaws.{each_none, each_other, each_run_lem, longer}

-- the part from start to end of a list, filled and put back
pub put_part : (start end w : ℕ) (xs part : List ℕ) → start ≤ end → end ≤ length xs → part ≡ filled w (take (end - start) (drop start xs))
    → put_mid start (end - start) xs part ≡ put_run start end w xs
unfolding put_run filled
put_part start end w xs part l n e = rw (e, mid_len start end xs n, Post-is start end xs l)

module _ (kind : ℕ) (v : ℕ → ℕ) where
  -- what holds during the walk, which ends at `end`: up to start all is rewritten, from start to i a run of the kind is open, and the rest is as it was
  pub record Rewriting (xs₀ : List ℕ) (end : ℕ) (xs : List ℕ) (start i : ℕ) : Type 0 where
    pub order : start ≤ i
    pub within : i ≤ end
    pub ends : end ≡ length xs₀
    pub same : length xs ≡ length xs₀
    pub parts : xs ≡ take start xs ++ (replicate (i - start) kind ++ drop i xs)
    pub left : take start xs ++ each_run kind v (replicate (i - start) kind ++ drop i xs) ≡ each_run kind v xs₀

  -- no run is open yet
  pub rewriting_start : (xs : List ℕ) → Rewriting xs (length xs) xs 0 0
  rewriting_start xs = record { order = omega arith; within = omega arith; ends = refl; same = refl; parts = refl; left = refl }

  -- frame i is of the kind: the run is one longer
  pub rewriting_kind : (xs₀ : List ℕ) (end : ℕ) (xs : List ℕ) (start i : ℕ) → i < end → get_or xs i 0 ≡ kind → Rewriting xs₀ end xs start i → Rewriting xs₀ end xs start (i + 1)
  rewriting_kind xs₀ end xs start i l e w =
      let more : suc (i - start) ≡ i + 1 - start = omega (arith, w.order) in
      let grown : replicate (i - start) kind ++ drop i xs ≡ replicate (i + 1 - start) kind ++ drop (i + 1) xs =
      rw (← more, add-one, drop-cons xs i 0 (omega arith), e) (longer kind (i - start) (drop (suc i) xs)) in
      search (arith, w.parts ∙ ap (λ (t : List ℕ). take start xs ++ t) grown, ap (λ (t : List ℕ). take start xs ++ each_run kind v t) (sym grown) ∙ w.left)

  -- what is rewritten once frame i, of another kind, is passed
  front : ℕ → ℕ → List ℕ → List ℕ
  front start i xs = take start xs ++ (replicate (i - start) (v (i - start)) ++ (get_or xs i 0 ∷ []))

  front_length : (start i : ℕ) (xs : List ℕ) → start ≤ i → i < length xs → length (front start i xs) ≡ i + 1
  unfolding front
  front_length start i xs l m = simp (length-append, length-replicate, length-take-le start xs (omega arith)) (omega arith)

  front-append : (start i : ℕ) (xs t : List ℕ) → front start i xs ++ t ≡ take start xs ++ (replicate (i - start) (v (i - start)) ++ (get_or xs i 0 ∷ t))
  unfolding front
  front-append start i xs t = simp append_assoc

  -- frame i is of another kind: the run before it is rewritten
  pub rewriting_other : (xs₀ : List ℕ) (end : ℕ) (xs xs' : List ℕ) (start i : ℕ) → i < end → (get_or xs i 0 ≡ kind → ⊥) → xs' ≡ put_run start i (v (i - start)) xs
      → Rewriting xs₀ end xs start i → Rewriting xs₀ end xs' (i + 1) (i + 1)
  unfolding put_run
  rewriting_other xs₀ end xs xs' start i l h c w =
      let none : i + 1 - (i + 1) ≡ 0 = omega arith in
      let cut : drop i xs ≡ get_or xs i 0 ∷ drop (suc i) xs = drop-cons xs i 0 (omega arith) in
      let now : xs' ≡ front start i xs ++ drop (suc i) xs =
      c ∙ ap (λ (t : List ℕ). take start xs ++ (replicate (i - start) (v (i - start)) ++ t)) cut ∙ sym (front-append start i xs (drop (suc i) xs)) in
      let fronted : length (front start i xs) ≡ i + 1 = front_length start i xs w.order (omega arith) in
      let taken : take (i + 1) xs' ≡ front start i xs = rw now (take_at (front start i xs) (drop (suc i) xs) (i + 1) fronted) in
      let dropped : drop (i + 1) xs' ≡ drop (suc i) xs = rw now (drop_at (front start i xs) (drop (suc i) xs) (i + 1) fronted) in
      let long : length xs' ≡ length xs₀ = rw (now, length-append (front start i xs) (drop (suc i) xs), length-drop (suc i) xs) (omega (arith, fronted)) in
      let passed : each_run kind v (replicate (i - start) kind ++ drop i xs) ≡ replicate (i - start) (v (i - start)) ++ (get_or xs i 0 ∷ each_run kind v (drop (suc i) xs)) =
      rw (cut, each_run_lem kind v (i - start) (get_or xs i 0 ∷ drop (suc i) xs) h, each_other kind v (get_or xs i 0) (drop (suc i) xs) h) in
      record {
        order = omega arith;
        within = omega arith;
        ends = w.ends;
        same = long;
        parts = rw none (sym (take-append-drop (i + 1) xs'));
        left = rw (none, taken, dropped) (front-append start i xs (each_run kind v (drop (suc i) xs)) ∙ ap (λ (t : List ℕ). take start xs ++ t) (sym passed) ∙ w.left);
      }

  -- at the end the last run is rewritten, and the walk is done
  pub rewriting_done : (xs₀ : List ℕ) (end : ℕ) (xs xs' : List ℕ) (start i stop : ℕ) → end ≤ i → stop ≡ length xs → xs' ≡ put_run start stop (v (stop - start)) xs
      → Rewriting xs₀ end xs start i → xs' ≡ each_run kind v xs₀
  unfolding put_run
  rewriting_done xs₀ end xs xs' start i stop l s c w =
      let at : stop ≡ i = omega arith in
      let gone : drop i xs ≡ [] = drop_of_length-le xs {i = i} (omega arith) in
      let last : put_run start stop (v (stop - start)) xs ≡ each_run kind v xs₀ =
      rw (at, gone) (ap (λ (t : List ℕ). take start xs ++ t) (sym (each_run_lem kind v (i - start) [] tt ∙ ap (λ (t : List ℕ). replicate (i - start) (v (i - start)) ++ t) (each_none kind v)))
      ∙ ap (λ (t : List ℕ). take start xs ++ each_run kind v (replicate (i - start) kind ++ t)) (sym gone) ∙ w.left) in
      c ∙ last
