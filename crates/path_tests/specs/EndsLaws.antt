-- The loop over the candidates, and that tests 15 and 16 leave candidates in order.
use Rattle.std.specs.Prelude.{◌≡◌, true, false, ◌&&◌, ℕ, zero, suc, ◌≤◌, ◌<◌, ltb, leb, eqb, length, get_or}
use Rattle.std.proofs.Math.Path.{sym}
use Rattle.std.proofs.Common.{not-suc-le-zero, le_of_suc-le-suc, ltb-true, leb-true, eqb-true, le-leb}
use mathlib.Core.List.{List, [], ◌∷◌}
use native.Mathlib.Omega.{arith}
use Rattle.std.proofs.lemmas.Bool.{lt-leb}
use Rattle.base_laws.specs.Tests.{holds, both}
use Rattle.base_terms.specs.Limits.{max_len}
use Rattle.path_pieces.specs.Limits.{max_candidates}
use Rattle.path_pieces.specs.Domain.{Candidates}
use Rattle.path_tests.specs.Ends.{lists_ok, end_ok, ends_from, ends_ok}

-- ---- the loop: the test of all candidates has come down to those that are left, ls and rs, which follow the right end `last`

-- the candidates before them passed
abbrev pub EndsPassed : List ℕ → List ℕ → ℕ → ℕ → List ℕ → List ℕ → Type 0
EndsPassed left right limit last ls rs = (length ls ≡ length rs) × (ends_from last ls rs ≡ ends_ok left right limit)

module _ (left right : List ℕ) (limit : ℕ) where
  -- a limit within the bound leaves the test of the candidates
  pub ending_start : (ls rs : List ℕ) → ls ≡ left → rs ≡ right → limit ≤ max_len → length right ≡ length left → EndsPassed left right limit 0 ls rs
  unfolding ends_ok
  ending_start ls rs a b h e = rw (a, b) (sym e, rw (le-leb limit max_len h))

  -- a limit above it fails
  pub ending_limit : max_len < limit → false ≡ ends_ok left right limit
  unfolding ends_ok
  ending_limit h = rw (lt-leb limit max_len h)

  module _ (last l r : ℕ) (ls rs ms ns : List ℕ) (a : ls ≡ l ∷ ms) (b : rs ≡ r ∷ ns) where
    -- the next candidate passes
    pub ending_next : end_ok last l r ≡ true → EndsPassed left right limit last ls rs → EndsPassed left right limit r ms ns
    unfolding ends_from
    ending_next t (e, d) = (omega (arith, (rw (a, b) at e)), (rw (a, b, t) at d))

    -- the next candidate fails
    pub ending_fails : end_ok last l r ≡ false → EndsPassed left right limit last ls rs → false ≡ ends_ok left right limit
    unfolding ends_from
    ending_fails t (e, d) = rw (a, b, t) at d

  -- no candidate is left
  pub ending_done : (last : ℕ) (ls rs : List ℕ) → ls ≡ [] → EndsPassed left right limit last ls rs → true ≡ ends_ok left right limit
  unfolding ends_from
  ending_done last ls rs n (e, d) = rw n at d

-- ---- what the tests leave

-- test 15, taken apart
pub record EqualLists (lefts rights costs : ℕ) : Type 0 where
  -- there is a candidate
  pub some : 0 < lefts
  -- not too many
  pub few : lefts ≤ max_candidates
  -- a right end for each
  pub paired : rights ≡ lefts
  -- and a cost for each
  pub priced : costs ≡ lefts

-- lists that pass are equally long
pub lists_parts : (lefts rights costs : ℕ) → lists_ok lefts rights costs ≡ true → EqualLists lefts rights costs
unfolding lists_ok
lists_parts lefts rights costs e =
    let p = both (ltb 0 lefts && leb lefts max_candidates && eqb rights lefts) (eqb costs lefts) e in
    let q = both (ltb 0 lefts && leb lefts max_candidates) (eqb rights lefts) p.0 in
    let s = both (ltb 0 lefts) (leb lefts max_candidates) q.0 in
    record {
      some = ltb-true 0 lefts s.0;
      few = leb-true lefts max_candidates s.1;
      paired = eqb-true rights lefts q.1;
      priced = eqb-true costs lefts p.1;
    }

-- one candidate's test, taken apart
end_parts : (last left right : ℕ) → end_ok last left right ≡ true → (last ≤ left) × (left ≤ right) × (right ≤ max_len)
unfolding end_ok
end_parts last left right e =
    let p = both (leb last left && leb left right) (leb right max_len) e in
    let q = both (leb last left) (leb left right) p.0 in
    (leb-true last left q.0, leb-true left right q.1, leb-true right max_len p.1)

-- the candidate at i passes, after the right end before it
ends_at : (last : ℕ) (left right : List ℕ) (i : ℕ) → i < length left → ends_from last left right ≡ true
    → end_ok (get_or (last ∷ right) i 0) (get_or left i 0) (get_or right i 0) ≡ true
unfolding ends_from
ends_at last [] right i h e = absurd (not-suc-le-zero h)
ends_at last (l ∷ left) [] i h e = absurd (holds e)
ends_at last (l ∷ left) (r ∷ right) zero h e = (both (end_ok last l r) (ends_from r left right) e).0
ends_at last (l ∷ left) (r ∷ right) (suc i) h e = ends_at r left right i (le_of_suc-le-suc h) (both (end_ok last l r) (ends_from r left right) e).1

-- the candidate at i is in order
ends_order : (left right : List ℕ) (limit : ℕ) → ends_ok left right limit ≡ true → (i : ℕ) → i < length left
    → (get_or (0 ∷ right) i 0 ≤ get_or left i 0) × (get_or left i 0 ≤ get_or right i 0) × (get_or right i 0 ≤ max_len)
unfolding ends_ok
ends_order left right limit e i h =
    end_parts (get_or (0 ∷ right) i 0) (get_or left i 0) (get_or right i 0) (ends_at 0 left right i h (both (leb limit max_len) (ends_from 0 left right) e).1)

-- tests 15 and 16 leave candidates in order
pub ends-candidates : (left right : List ℕ) (costs limit : ℕ) → lists_ok (length left) (length right) costs ≡ true → ends_ok left right limit ≡ true
    → Candidates left right
ends-candidates left right costs limit a b =
    let c = lists_parts (length left) (length right) costs a in
    record {
      some = c.some;
      few = c.few;
      paired = c.paired;
      inside = λ (i : ℕ) (h : i < length left). (ends_order left right limit b i h).1;
      apart = λ (i : ℕ) (h : suc i < length left). (ends_order left right limit b (suc i) h).0;
      bounded = λ (i : ℕ) (h : i < length left). (ends_order left right limit b i h).2;
    }

-- ---- another limit

-- test 16 passes only limits within the bound
pub limit_within : (left right : List ℕ) (limit : ℕ) → ends_ok left right limit ≡ true → limit ≤ max_len
unfolding ends_ok
limit_within left right limit e = leb-true limit max_len (both (leb limit max_len) (ends_from 0 left right) e).0

-- and of candidates that pass it with one limit it passes every other within the bound
pub ends_any_limit : (left right : List ℕ) (one other : ℕ) → other ≤ max_len → ends_ok left right one ≡ true → ends_ok left right other ≡ true
unfolding ends_ok
ends_any_limit left right one other h e = rw (le-leb other max_len h) (both (leb one max_len) (ends_from 0 left right) e).1
