-- The loop that writes the ends of one candidate after another: the front of the list holds those of the candidates passed.
use Rattle.std.specs.Prelude.{◌≡◌, refl, List, ℕ, ◌+◌, ◌≤◌, ◌<◌, length, set}
use Rattle.std.proofs.Math.Path.{sym}
use Rattle.std.proofs.Common.{ap, ◌∙◌, add-one, arith, length-set}
use Rattle.base_terms.specs.Lists.{onto, tabulate}
use Rattle.base_code.specs.FrontLaws.{onto_nil, onto-all, onto-tabulate_next, tabulate-length}

-- the first i values of f are written over the front of out₀
pub record WritingEnds (f : ℕ → ℕ) (out₀ : List ℕ) (end : ℕ) (out : List ℕ) (i : ℕ) : Type 0 where
  pub within : i ≤ length out₀
  pub all : end ≡ length out₀
  pub same : length out ≡ length out₀
  pub front : out ≡ onto (tabulate f i) out₀

module _ (f : ℕ → ℕ) (out₀ : List ℕ) where
  -- before the first end
  pub ends_start : WritingEnds f out₀ (length out₀) out₀ 0
  unfolding tabulate
  ends_start = record { within = omega arith; all = refl; same = refl; front = sym (onto_nil out₀) }

  module _ {end : ℕ} {out : List ℕ} {i : ℕ} (w : WritingEnds f out₀ end out i) where
    -- one end more
    pub ends_next : (v : ℕ) → v ≡ f i → i < end → WritingEnds f out₀ end (set out i v) (i + 1)
    ends_next v e h = record {
      within = omega (arith, w.all);
      all = w.all;
      same = length-set out i v ∙ w.same;
      front = rw (w.front, e, add-one) (onto-tabulate_next f out₀ i (omega (arith, w.all)));
    }

    -- all are written
    pub ends_done : end ≤ i → out ≡ tabulate f (length out₀)
    ends_done h =
        let e : i ≡ length out₀ = omega (arith, w.all, w.within) in
        w.front ∙ ap (λ (k : ℕ). onto (tabulate f k) out₀) e
        ∙ onto-all (tabulate f (length out₀)) out₀ (sym (tabulate-length f (length out₀)))
