-- Texts written one behind another, and the bytes of one text.
use Rattle.std.specs.Prelude.{ℕ, suc, ◌+◌, ◌≤◌, ◌≡◌, refl, List, [], ◌∷◌, ◌++◌, length, set, drop}
use Rattle.std.proofs.Common.{sym, ap, ◌∙◌, arith, length-append, length-take-le}
use Rattle.std.proofs.lemmas.List.Edits.{sets, sets-eq}
use Rattle.std.proofs.Math.Seq.{length-sets}
use Rattle.base_terms.specs.Lists.{onto}
use Rattle.io.specs.Counts.{IsPrefixLen}
use Rattle.listing.specs.Text.{joined}
use Rattle.listing.specs.Written.{Room, Written}

sets_append : (a b list : List ℕ) (at : ℕ) → sets list at (a ++ b) ≡ sets (sets list at a) (at + length a) b
sets_append [] b list at = ap (λ (k : ℕ). sets list k b) (omega arith)
sets_append (x ∷ a) b list at = sets_append a b (set list at x) (suc at) ∙ ap (λ (k : ℕ). sets (sets (set list at x) (suc at) a) k b) (omega arith)

-- an empty text changes nothing
pub written_none : (list : List ℕ) (at : ℕ) → Written [] list at list at
written_none list at = record { bytes = refl; behind = omega arith }

-- ---- texts one behind another

-- one more text behind those that stand there
pub written_then : {a list₀ list₁ list₂ : List ℕ} {at₀ at₁ at₂ : ℕ} (b : List ℕ) → Written a list₀ at₀ list₁ at₁ → Written b list₁ at₁ list₂ at₂
    → Written (a ++ b) list₀ at₀ list₂ at₂
written_then {a} {list₀} {list₁} {list₂} {at₀} b v w = record {
  bytes = w.bytes ∙ rw (v.bytes, v.behind) (sym (sets_append a b list₀ at₀));
  behind = rw length-append (omega (arith, v.behind, w.behind));
}

-- there is room for all of them
pub record Rooms (parts : List (List ℕ)) (list : List ℕ) (at : ℕ) : Type 0 where
  pub all : Room (length (joined parts)) list at

-- there is room for the first
pub room-first : {a : List ℕ} {parts : List (List ℕ)} {list : List ℕ} {at : ℕ} → Rooms (a ∷ parts) list at → Room (length a) list at
unfolding joined
room-first {a} {parts} r = record { enough = omega (arith, length-append a (joined parts), r.all.enough) }

-- once the first is written, there is room for the others behind it
pub room_then : {a : List ℕ} {parts : List (List ℕ)} {list₀ list₁ : List ℕ} {at₀ at₁ : ℕ} → Rooms (a ∷ parts) list₀ at₀ → Written a list₀ at₀ list₁ at₁
    → Rooms parts list₁ at₁
unfolding joined
room_then {a} {parts} {list₀} {list₁} {at₀} r w =
    let same : length list₁ ≡ length list₀ = ap length w.bytes ∙ length-sets list₀ at₀ a in
    record { all = record { enough = omega (arith, length-append a (joined parts), r.all.enough, w.behind) } }

-- all of them are written
pub record Wrote (parts : List (List ℕ)) (before : List ℕ) (at : ℕ) (after : List ℕ) (next : ℕ) : Type 0 where
  pub all : Written (joined parts) before at after next

-- of no texts nothing is written
pub wrote_none : {list : List ℕ} {at : ℕ} → Wrote [] list at list at
unfolding joined
wrote_none {list} {at} = record { all = written_none list at }

-- a text, and behind it the others
pub wrote_then : {a : List ℕ} {parts : List (List ℕ)} {list₀ list₁ list₂ : List ℕ} {at₀ at₁ at₂ : ℕ} → Written a list₀ at₀ list₁ at₁
    → Wrote parts list₁ at₁ list₂ at₂ → Wrote (a ∷ parts) list₀ at₀ list₂ at₂
unfolding joined
wrote_then {a} {parts} v w = record { all = written_then (joined parts) v w.all }

-- what is written from the start of the list on stands at its front
pub written-front : {text before after : List ℕ} {next : ℕ} → Room (length text) before 0 → Written text before 0 after next → after ≡ onto text before
unfolding onto
written-front {text} {before} r w =
    let e : 0 + length text ≡ length text = omega arith in
    w.bytes ∙ sets-eq text before 0 r.enough ∙ ap (λ (k : ℕ). text ++ drop k before) e

-- and a caller may hand on as much of the list
pub written_counts : {text before after : List ℕ} {next : ℕ} → Room (length text) before 0 → Written text before 0 after next → IsPrefixLen next after
written_counts {text} {before} {after} {next} r w =
    let same : length after ≡ length before = ap length w.bytes ∙ length-sets before 0 text in
    let within : next ≤ length after = omega (arith, r.enough, w.behind) in
    (within, sym (length-take-le next after within))
