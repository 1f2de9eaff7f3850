-- The chain of the tests: which answer each end gives, what the search is left with where no test fails, and that the limit takes part in 16 alone.
use Rattle.std.specs.Prelude.{◌≡◌, refl, Bool, true, false, List, ℕ, Result, Ok, Err, ◌≤◌, ◌<◌, ltb, leb, Float, length}
use Rattle.std.proofs.Math.Path.{sym}
use Rattle.std.proofs.Common.{ap, ◌∙◌, ltb-true, leb-true, arith}
use Rattle.base_laws.specs.Tests.{both}
use Rattle.base_terms.specs.Lists.{all_of}
use Rattle.base_terms.specs.Limits.{max_len}
use Rattle.base_terms.specs.Work.{work_ok}
use Rattle.base_code.specs.WorkLaws.{WorkIn, work_parts}
use Rattle.path_pieces.specs.Domain.{Searchable}
use Rattle.path_pieces.specs.Pieces.{with_limit}
use Rattle.path_pieces.specs.declared.lengths.Lengths.{Lengths}
use Rattle.path_pieces.specs.declared.mode.Mode.{Mode}
use Rattle.path_pieces.specs.declared.mode.Mode.TheVariants.{ByCount}
use Rattle.path_tests.specs.Ends.{lists_ok, ends_ok}
use Rattle.path_tests.specs.EndsLaws.{lists_parts, ends-candidates, limit_within, ends_any_limit}
use Rattle.path_tests.specs.Costs.{is_cost, lengths_ok}
use Rattle.path_tests.specs.CostsLaws.{costs_all_lem, lengths_preferred}
use Rattle.path_tests.specs.Refusal.{max_count, is_count, count_ok, or_else, first_refusal_of}
use Rattle.path_tests.specs.declared.refusal.Refusal.{Refusal}
use Rattle.path_tests.specs.declared.refusal.Refusal.TheVariants.{BadLists, BadEnds, BadCosts, BadCount, ShortWork}

-- ---- the seven ends of the chain, each under what has passed before it

module _ (left right : List ℕ) (cost : List Float) (l : Lengths) (mode : Mode) (n32 n64 nf : ℕ) where
  -- 15 comes first
  pub fails_lists : lists_ok (length left) (length right) (length cost) ≡ false → Err BadLists ≡ first_refusal_of left right cost l mode n32 n64 nf
  unfolding first_refusal_of
  fails_lists n = rw n

  module _ (a : lists_ok (length left) (length right) (length cost) ≡ true) where
    -- 16, where 15 passed
    pub fails_ends : ends_ok left right l.limit ≡ false → Err BadEnds ≡ first_refusal_of left right cost l mode n32 n64 nf
    unfolding first_refusal_of
    fails_ends n = rw (a, n)

    module _ (b : ends_ok left right l.limit ≡ true) where
      -- 17 for a cut's cost, where 15 and 16 passed
      pub fails_costs : all_of is_cost cost ≡ false → Err BadCosts ≡ first_refusal_of left right cost l mode n32 n64 nf
      unfolding first_refusal_of
      fails_costs n = rw (a, b, n)

      module _ (c : all_of is_cost cost ≡ true) where
        -- 17 for weights, target or minimum, where the cuts' costs passed too
        pub fails_lengths : lengths_ok l ≡ false → Err BadCosts ≡ first_refusal_of left right cost l mode n32 n64 nf
        unfolding first_refusal_of
        fails_lengths n = rw (a, b, c, n)

        module _ (d : lengths_ok l ≡ true) where
          -- 8, where all up to 17 passed
          pub fails_count : count_ok mode ≡ false → Err BadCount ≡ first_refusal_of left right cost l mode n32 n64 nf
          unfolding first_refusal_of
          fails_count n = rw (a, b, c, d, n)

          module _ (e : count_ok mode ≡ true) where
            -- 13, where 8 passed too
            pub fails_work : work_ok (length left) n32 n64 nf ≡ false → Err ShortWork ≡ first_refusal_of left right cost l mode n32 n64 nf
            unfolding first_refusal_of
            fails_work n = rw (a, b, c, d, e, n)

            -- no test fails, where 13 passes as well
            pub passes : work_ok (length left) n32 n64 nf ≡ true → Ok tt ≡ first_refusal_of left right cost l mode n32 n64 nf
            unfolding first_refusal_of
            passes n = rw (a, b, c, d, e, n)

-- ---- no test fails

-- a chain that is fine has passed its first test, and its rest is fine
step : (b : Bool) (refusal : Refusal) {rest : Result Unit Refusal} → or_else b refusal rest ≡ Ok tt → (b ≡ true) × (rest ≡ Ok tt)
step true refusal e = (refl, e)
step false refusal e = let z : ◌≡◌ {A = ℕ} 0 1 = cc in absurd (omega arith)

-- every test passes: 15, 16, 17 (costs, lengths), 8 and 13
record AllPass (left right : List ℕ) (cost : List Float) (l : Lengths) (mode : Mode) (n32 n64 nf : ℕ) : Type 0 where
  -- 15
  pub lists : lists_ok (length left) (length right) (length cost) ≡ true
  -- 16
  pub ends : ends_ok left right l.limit ≡ true
  -- 17, the cuts' costs
  pub costs : all_of is_cost cost ≡ true
  -- 17, weights, target and minimum
  pub lengths : lengths_ok l ≡ true
  -- 8
  pub count : count_ok mode ≡ true
  -- 13
  pub work : work_ok (length left) n32 n64 nf ≡ true

-- where a chain of them is fine, in this order, all of them pass
all_pass : (left right : List ℕ) (cost : List Float) (l : Lengths) (mode : Mode) (n32 n64 nf : ℕ)
    → or_else (lists_ok (length left) (length right) (length cost)) BadLists
    (or_else (ends_ok left right l.limit) BadEnds
    (or_else (all_of is_cost cost) BadCosts
    (or_else (lengths_ok l) BadCosts
    (or_else (count_ok mode) BadCount
    (or_else (work_ok (length left) n32 n64 nf) ShortWork
    (Ok tt)))))) ≡ Ok tt → AllPass left right cost l mode n32 n64 nf
all_pass left right cost l mode n32 n64 nf e =
    let p = step (lists_ok (length left) (length right) (length cost)) BadLists e in
    let q = step (ends_ok left right l.limit) BadEnds p.1 in
    let s = step (all_of is_cost cost) BadCosts q.1 in
    let t = step (lengths_ok l) BadCosts s.1 in
    let u = step (count_ok mode) BadCount t.1 in
    let v = step (work_ok (length left) n32 n64 nf) ShortWork u.1 in
    record { lists = p.0; ends = q.0; costs = s.0; lengths = t.0; count = u.0; work = v.0 }

-- ---- what the search is left with

-- by count, the count is above 0 and within its limit
pub count_parts : (count : ℕ) → count_ok (ByCount count) ≡ true → (0 < count) × (count ≤ max_count)
unfolding count_ok is_count
count_parts count e =
    let p = both (ltb 0 count) (leb count max_count) e in
    (ltb-true 0 count p.0, leb-true count max_count p.1)

-- the domain of the search, a count within its limits, and work lists that are long enough
pub record AcceptedLists (left right : List ℕ) (cost : List Float) (l : Lengths) (mode : Mode) (n32 n64 nf : ℕ) : Type 0 where
  -- what the search asks of candidates, costs and preferences
  pub domain : Searchable l left right cost
  -- by count, the count is above 0 and within its limit
  pub counted : (count : ℕ) → mode ≡ ByCount count → (0 < count) × (count ≤ max_count)
  -- every work list has its 16 entries for each candidate
  pub work : WorkIn (length left) n32 n64 nf

-- where no test fails, all of that holds
pub accepted_lists : (left right : List ℕ) (cost : List Float) (l : Lengths) (mode : Mode) (n32 n64 nf : ℕ)
    → first_refusal_of left right cost l mode n32 n64 nf ≡ Ok tt → AcceptedLists left right cost l mode n32 n64 nf
unfolding first_refusal_of
accepted_lists left right cost l mode n32 n64 nf e =
    let p = all_pass left right cost l mode n32 n64 nf e in
    record {
      domain = record {
        candidates = ends-candidates left right (length cost) l.limit p.lists p.ends;
        costs = costs_all_lem cost (length left) (lists_parts (length left) (length right) (length cost) p.lists).priced p.costs;
        preferred = lengths_preferred l p.lengths;
      };
      counted = λ (count : ℕ) (m : mode ≡ ByCount count). count_parts count (sym (ap count_ok m) ∙ p.count);
      work = work_parts (length left) n32 n64 nf p.work;
    }

-- ---- another limit

module _ (left right : List ℕ) (cost : List Float) (l : Lengths) (mode : Mode) (n32 n64 nf : ℕ) where
  -- where no test fails the limit is within 16's bound
  pub fine_limit : first_refusal_of left right cost l mode n32 n64 nf ≡ Ok tt → l.limit ≤ max_len
  unfolding first_refusal_of
  fine_limit e = limit_within left right l.limit (all_pass left right cost l mode n32 n64 nf e).ends

  -- and none fails with any other limit within that bound and any other work lists that are long enough
  pub fine_any_limit : (limit m32 m64 mf : ℕ) → first_refusal_of left right cost l mode n32 n64 nf ≡ Ok tt → limit ≤ max_len → work_ok (length left) m32 m64 mf ≡ true
      → first_refusal_of left right cost (with_limit l limit) mode m32 m64 mf ≡ Ok tt
  unfolding first_refusal_of lengths_ok
  fine_any_limit limit m32 m64 mf e h w =
      let p = all_pass left right cost l mode n32 n64 nf e in
      sym (passes left right cost (with_limit l limit) mode m32 m64 mf p.lists (ends_any_limit left right l.limit limit h p.ends) p.costs p.lengths p.count w)
