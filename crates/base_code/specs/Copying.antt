-- What holds while a loop that ends at `end` copies a list to the front of another.
use Rattle.std.specs.Prelude.{◌≡◌, ℕ, suc, ◌+◌, ◌<◌, ◌≤◌, List, ◌++◌, length, take, drop, set, slice_index_or, slice_set, refl}
use Rattle.std.proofs.Common.{sym, ap, ◌∙◌, add-one, arith, length-set, drop-cons, take-suc, take_all, length-take-le}
use Rattle.std.proofs.Math.Seq.{append_snoc}
use Rattle.std.proofs.lemmas.List.{set_at}
use Rattle.base_terms.specs.Lists.{onto}

-- the first i elements are copied, and the rest of the other list is as it was
pub record Copying {A : Type 0} (list out₀ : List A) (end : ℕ) (out : List A) (i : ℕ) : Type 0 where
  pub within : i ≤ length list
  pub ends : end ≡ length list
  pub room : length list ≤ length out₀
  pub same : length out ≡ length out₀
  pub front : out ≡ take i list ++ drop i out₀

-- nothing is copied yet
pub copying_start : {A : Type 0} (list out : List A) → length list ≤ length out → Copying list out (length list) out 0
copying_start list out l = record { within = omega arith; ends = refl; room = l; same = refl; front = refl }

module _ {A : Type 0} (list out₀ : List A) (end : ℕ) (out : List A) (i : ℕ) (w : Copying list out₀ end out i) where
  -- one more element is copied
  pub copying_next : (z : A) → i < end → Copying list out₀ end (slice_set out i (slice_index_or list i z)) (i + 1)
  copying_next z l =
      let put : set (take i list ++ drop i out₀) i (slice_index_or list i z) ≡ take (suc i) list ++ drop (suc i) out₀ =
      let d = drop-cons out₀ i z (omega (arith, w.ends, w.room)) in
      ap (λ (t : List A). set (take i list ++ t) i (slice_index_or list i z)) d
      ∙ set_at (take i list) (slice_index_or out₀ i z) (drop (suc i) out₀) (slice_index_or list i z) i (length-take-le i list w.within)
      ∙ sym (append_snoc (take i list) (slice_index_or list i z) (drop (suc i) out₀))
      ∙ ap (λ (t : List A). t ++ drop (suc i) out₀) (sym (take-suc list i z (omega (arith, w.ends)))) in
      search (arith, w.ends, w.room, length-set out i (slice_index_or list i z) ∙ w.same, w.front, add-one, put)

  -- the whole list stands at the front
  pub copying_done : end ≤ i → out ≡ onto list out₀
  unfolding onto
  copying_done l = let e : i ≡ length list = omega (arith, w.within, w.ends) in w.front ∙ rw (take_all i list (omega arith), e)
