-- The two walks back, as loops: counting the candidates on the way, and writing them from the back.
use Rattle.std.specs.Prelude.{◌≡◌, List, [], ◌∷◌, ◌++◌, ℕ, suc, ◌+◌, ◌-◌, ◌≤◌, ◌<◌, length, get_or, take, drop, set}
use Rattle.std.proofs.Math.Path.{refl}
use Rattle.std.proofs.Common.{sym, ap, ◌∙◌, arith, length-set, length-take, take-append-drop, take_at, take-take, get_or-take}
use Rattle.std.proofs.Math.Nat.{le_refl}
use Rattle.std.proofs.Math.Seq.{take-length, drop-append_seam}
use Rattle.std.proofs.lemmas.List.{get_or_at}
use Rattle.base_terms.specs.Lists.{onto}
use Rattle.base_code.specs.FrontLaws.{onto-length, onto-at, back_next}
use Rattle.path_by_length.specs.Table.{way_to, Falling}
use Rattle.path_by_length.specs.WayLaws.{way_first, way_step, way_length, way_some, way_later, way_only}

module _ (parent : ℕ → ℕ) (last : ℕ) where
  -- `len` candidates are counted, and those before j are left
  abbrev pub CountingBack : ℕ → ℕ → Type 0
  CountingBack len j = (j ≤ last) × (len + j ≤ suc last) × (len + length (way_to parent j) ≡ suc (length (way_to parent last)))

  -- the last n candidates of the way are written over the front of path₀, and those up to j are left
  abbrev pub WritingBack : List ℕ → List ℕ → ℕ → ℕ → Type 0
  WritingBack path₀ path n j =
      (j ≤ last) × (n ≡ length (way_to parent j)) × (take n (way_to parent last) ≡ way_to parent j) × (length path ≡ length path₀)
      × (path ≡ take n path₀ ++ drop n (onto (way_to parent last) path₀))

module _ {parent : ℕ → ℕ} {last : ℕ} (falls : Falling parent last) where
  falls_to : (j : ℕ) → j ≤ last → Falling parent j
  falls_to j h k a b = falls k a (omega arith)

  -- ---- counting

  -- one more candidate is counted
  pub counting_back_next : (len j : ℕ) → 0 < j → CountingBack parent last len j → CountingBack parent last (len + 1) (parent j)
  counting_back_next len j h (a, b, e) =
      let f = falls j h a in
      let g = way_length parent j h (falls_to j a) in
      (omega arith, omega arith, omega arith)

  -- at the first candidate all are counted
  pub counting_back_done : (len j : ℕ) → j ≤ 0 → CountingBack parent last len j → len ≡ length (way_to parent last)
  counting_back_done len j h (a, b, e) =
      let z : j ≡ 0 = omega arith in
      let g : length (way_to parent j) ≡ 1 = rw z (ap length (way_first parent)) in
      omega arith

  -- ---- writing

  module _ (path₀ : List ℕ) (room : length (way_to parent last) ≤ length path₀) where
    abbrev whole : List ℕ
    whole = onto (way_to parent last) path₀

    -- nothing is written yet
    pub writing_back_start : (n : ℕ) → n ≡ length (way_to parent last) → WritingBack parent last path₀ path₀ n last
    unfolding onto
    writing_back_start n e = (
      le_refl last,
      e,
      rw e (take-length (way_to parent last)),
      refl,
      rw (e, drop-append_seam (way_to parent last) (drop (length (way_to parent last)) path₀)) (sym (take-append-drop (length (way_to parent last)) path₀)),
    )

    -- candidate j stands where it is to be written, after the way up to it
    module _ (path : List ℕ) (n j : ℕ) (before : List ℕ) (split : way_to parent j ≡ before ++ (j ∷ [])) (size : suc (length before) ≡ n) (w : WritingBack parent last path₀ path n j) where
      inside : n ≤ length (way_to parent last)
      inside = let l = length-take n (way_to parent last) in let q = ap length w.2 in omega (arith, w.1)

      value : get_or whole (length before) 0 ≡ j
      value =
          onto-at (way_to parent last) path₀ (length before) 0 (omega (arith, inside))
          ∙ sym (get_or-take n (way_to parent last) (length before) 0 (omega arith))
          ∙ ap (λ (p : List ℕ). get_or p (length before) 0) (w.2 ∙ split)
          ∙ get_or_at before j [] 0 (length before) refl

      written : set path (length before) j ≡ take (length before) path₀ ++ drop (length before) whole
      written =
          let p : path ≡ take (suc (length before)) path₀ ++ drop (suc (length before)) whole = rw size w.4 in
          let b = back_next path₀ whole (length before) 0 (omega (arith, inside)) (onto-length (way_to parent last) path₀ room) in
          ap (λ (q : List ℕ). set q (length before) j) p
          ∙ ap (λ (v : ℕ). set (take (suc (length before)) path₀ ++ drop (suc (length before)) whole) (length before) v) (sym value) ∙ b

      shorter : take (length before) (way_to parent last) ≡ before
      shorter =
          sym (take-take (length before) n (way_to parent last) (omega arith)) ∙ ap (take (length before)) (w.2 ∙ split)
          ∙ take_at before (j ∷ []) (length before) refl

    -- there is room for one more candidate
    pub writing_back_room : (path : List ℕ) (n j : ℕ) → WritingBack parent last path₀ path n j → (0 < n) × (n ≤ length path)
    writing_back_room path n j w =
        let s = way_some parent j (falls_to j w.0) in
        let l = length-take n (way_to parent last) in
        let q = ap length w.2 in
        (omega (arith, w.1), omega (arith, w.1, w.3))

    -- more than one is left where candidate j is not the first
    pub writing_back_later : (path : List ℕ) (n j : ℕ) → 1 < n → WritingBack parent last path₀ path n j → 0 < j
    writing_back_later path n j h w = way_later parent j (falls_to j w.0) (omega (arith, w.1))

    -- one more candidate is written
    pub writing_back_next : (path : List ℕ) (n j : ℕ) → 0 < j → WritingBack parent last path₀ path n j → WritingBack parent last path₀ (set path (n - 1) j) (n - 1) (parent j)
    writing_back_next path n j h w =
        let before = way_to parent (parent j) in
        let f = falls j h w.0 in
        let s = way_step parent j h (falls_to j w.0) in
        let z : suc (length before) ≡ n = sym (way_length parent j h (falls_to j w.0)) ∙ sym w.1 in
        let m : n - 1 ≡ length before = omega arith in
        rw m (
          omega (arith, w.0),
          refl,
          shorter path n j before s z w,
          length-set path (length before) j ∙ w.3,
          written path n j before s z w,
        )

    -- with the first candidate the whole way is written
    pub writing_back_done : (path : List ℕ) (n j : ℕ) → n ≤ 1 → WritingBack parent last path₀ path n j → set path 0 0 ≡ onto (way_to parent last) path₀
    writing_back_done path n j m w =
        let h = way_only parent j (falls_to j w.0) (omega (arith, w.1)) in
        let e : j ≡ 0 = omega arith in
        let s : way_to parent j ≡ [] ++ (j ∷ []) = rw e (way_first parent) in
        let z : 1 ≡ n = sym (w.1 ∙ ap length s) in
        rw e at (written path n j [] s z w)
