-- Every division is cut at some of the places, in their order: so all divisions are the choices of places, and going through them tells whether a limit is feasible.
use Rattle.std.specs.Prelude.{◌≡◌, refl, Bool, true, false, ℕ, leb, length}
use Rattle.std.proofs.Common.{sym, subst, inl, inr}
use Rattle.std.proofs.Math.Bool.{or-true}
use mathlib.Core.List.Memᴰ
use mathlib.Core.List.{List, [], ◌∷◌, map, Memᴰ}
use borrow.Author.Tests.{leb-true, le-leb}
use Rattle.base_laws.specs.Tests.{both, unmet}
use Rattle.grid.specs.declared.boundary.FrameGrid.{FrameGrid}
use Rattle.candidate_span.specs.Gaps.{Cut, Spread}
use Rattle.candidate_span.specs.Span.{Span}
use Rattle.division.specs.Division.{pieces_asked, Division}
use Rattle.division.specs.Pieces.{pieces_of, longest}
use Rattle.division.specs.RefineLaws.{Sublist, none, keep, skip, part_row, part_among, divisions_part}
use Rattle.division.specs.Places.{places_of}
use Rattle.division.specs.PlacesLaws.{place_in, in_place, places_divide}
use Rattle.division.specs.Divisions.{choices, divisions_of, keeps, any_of, is_feasible}
use Rattle.division.specs.Reach.{Feasible}

-- ---- a choice of some cuts is a list with some left out

part_chosen : {ks cs : List Cut} → Sublist ks cs → Memᴰ ks (choices cs)
part_chosen none = Memᴰ.head refl
part_chosen (keep {k = k} {cs = cs} p) = Memᴰ.append_right (choices cs) (Memᴰ.map (λ (c : List Cut). k ∷ c) (part_chosen p))
part_chosen (skip {k = k} {cs = cs} p) = Memᴰ.append_left (map (λ (c : List Cut). k ∷ c) (choices cs)) (part_chosen p)

chosen_part : (ks cs : List Cut) → Memᴰ ks (choices cs) → Sublist ks cs
chosen_part ks [] m = subst (λ (c : List Cut). Sublist c []) (sym (Memᴰ.eq_of_singleton m)) none
chosen_part ks (k ∷ cs) m = elim (Memᴰ.append_cases (choices cs) m) [
  | inl i ↦ skip (chosen_part ks cs i)
  | inr i ↦
      let t = Memᴰ.of_map (λ (c : List Cut). k ∷ c) (choices cs) i in
      subst (λ (c : List Cut). Sublist c (k ∷ cs)) t.2 (keep (chosen_part t.0 cs t.1))
]

-- ---- some element passes a test

any_true : {A : Type 0} (p : A → Bool) (xs : List A) (x : A) → Memᴰ x xs → p x ≡ true → any_of p xs ≡ true
unfolding any_of
any_true p [] x m h = elim m [ ]
any_true p (y ∷ ys) x (Memᴰ.head e) h = rw (← e, h)
any_true p (y ∷ ys) x (Memᴰ.tail m) h = rw (any_true p ys x m h, or-true)

true_any : {A : Type 0} (p : A → Bool) (xs : List A) → any_of p xs ≡ true → (x : A) × Memᴰ x xs × (p x ≡ true)
unfolding any_of
true_any p [] h = unmet h
true_any {A} p (x ∷ xs) h = go (p x) refl (λ e. true_any p xs (rw e at h))
  where
    go : (b : Bool) → p x ≡ b → (p x ≡ false → (y : A) × Memᴰ y xs × (p y ≡ true)) → (y : A) × Memᴰ y (x ∷ xs) × (p y ≡ true)
    go true e f = (x, Memᴰ.head refl, e)
    go false e f = let r = f e in (r.0, Memᴰ.tail r.1, r.2)

module _ (s : Span) (spread : Spread s.first s.gaps s.last) where
  -- every division is listed
  pub division_listed : (cuts : List Cut) → Division s cuts → Memᴰ cuts (divisions_of s)
  unfolding divisions_of
  division_listed cuts d = part_chosen (divisions_part s cuts (places_of s) d (places_divide s spread) (λ k m. place_in s spread k (d.placed k m)))

  -- and what is listed is a division
  pub listed_divides : (cuts : List Cut) → Memᴰ cuts (divisions_of s) → Division s cuts
  unfolding divisions_of
  listed_divides cuts m =
      let p = chosen_part cuts (places_of s) m in
      record {
        rises = part_row s.first s.last p (places_divide s spread).rises;
        placed = λ k i. in_place s spread k (part_among p k i);
      }

  -- where a limit is feasible, going through them says so
  pub feasible_true : (g : FrameGrid) (count limit : ℕ) → Feasible g s count limit → is_feasible g s count limit ≡ true
  unfolding is_feasible keeps
  feasible_true g count limit f =
      any_true (keeps g s count limit) (divisions_of s) f.cuts (division_listed f.cuts f.divides)
      (rw (le-leb (length (pieces_of s f.cuts)) (pieces_asked s count) f.few, le-leb (longest g (pieces_of s f.cuts)) limit f.within))

  -- and only there
  pub true_feasible : (g : FrameGrid) (count limit : ℕ) → is_feasible g s count limit ≡ true → Feasible g s count limit
  unfolding is_feasible keeps
  true_feasible g count limit h =
      let t = true_any (keeps g s count limit) (divisions_of s) h in
      let b = both (leb (length (pieces_of s t.0)) (pieces_asked s count)) (leb (longest g (pieces_of s t.0)) limit) t.2 in
      record {
        cuts = t.0;
        divides = listed_divides t.0 t.1;
        few = leb-true (length (pieces_of s t.0)) (pieces_asked s count) b.0;
        within = leb-true (longest g (pieces_of s t.0)) limit b.1;
      }
